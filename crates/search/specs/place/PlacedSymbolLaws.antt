-- What placing a symbol does to the rows: it adds one at most, and no name twice at a position. Assumes nothing.
use Rattle.std.specs.Prelude.{◌≡◌, ℕ, ◌≤◌, Bool, true, false, ◌||◌, List, ◌++◌, length, nat_le, if◌then◌else◌}
use Rattle.std.proofs.Math.Path.{refl}
use native.Mathlib.Omega.{arith}
use Rattle.std.proofs.Math.ListN.{length-append}
use Rattle.lent.specs.Lists.{one}
use Rattle.tables.specs.by_name.Tables.{Single}
use Rattle.tables.specs.by_name.SingleLaws.{single_more}
use Rattle.search_rules.specs.Search.{Placing, is_placed, place}
use Rattle.search_rules.specs.SearchRows.{placed_sheet}

module _ (library : List ℕ) (end : ℕ) (new : Placing) where
  pub place-grows : (rows : List Placing) → length rows ≤ length (place library end rows new)
  unfolding place
  place-grows rows = go (nat_le end new.position || is_placed library rows new.position new.name)
    where
      go : (t : Bool) → length rows ≤ length (if t then rows else rows ++ one new)
      go true = omega arith
      go false = omega (arith, length-append rows (one new))

  pub place-single : (rows : List Placing) → Single placed_sheet library rows → Single placed_sheet library (place library end rows new)
  unfolding place
  place-single rows h = go (nat_le end new.position) (is_placed library rows new.position new.name) refl
    where
      go : (past known : Bool) → is_placed library rows new.position new.name ≡ known → Single placed_sheet library (if past || known then rows else rows ++ one new)
      go true known e = h
      go false true e = h
      go false false e = single_more placed_sheet library rows new h e
