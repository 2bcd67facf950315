-- A part of the rows in memory, read row by row. Assumes nothing.
use Rattle.std.specs.Prelude.{ℕ, ◌+◌, ◌-◌, ◌/◌, ◌≤◌, ◌<◌, ◌≡◌, Bool, true, false, not, List, [], ◌∷◌, map, leb, length}
use Rattle.std.proofs.Common.{sym, ap, leb-true, le-leb}
use Rattle.std.proofs.lemmas.Bool.{false≢true}
use Rattle.std.proofs.Math.Nat.{add-zero, sub-zero}
use native.Mathlib.Omega.{arith}
use Rattle.lent.specs.declared.part.Part.{Part}
use Rattle.lent.specs.Lists.{from}
use Rattle.lent.specs.ListLaws.{from-turn}
use Rattle.lent.specs.Rows.{Layout, row_at}
use Rattle.segments.specs.recalled.Recall.{rows_of}

module _ {R : Type 0} (l : Layout R) (m : List ℕ) (p : Part) where
  -- those from the part's row k on
  abbrev pub rows_from : ℕ → List R
  rows_from k = map (row_at l m) (from (p.at + k) (p.len - k))

  past : leb (p.at + p.len) (length m / l.width) ≡ false → rows_of l m p ≡ []
  unfolding rows_of
  past e = rw e

  all : leb (p.at + p.len) (length m / l.width) ≡ true → rows_of l m p ≡ rows_from 0
  unfolding rows_of
  all e = rw (e, add-zero, sub-zero)

  -- by the code's answer whether the part lies within the rows
  module _ (within : Bool) (is : within ≡ leb (p.at + p.len) (length m / l.width)) where
    pub rows-past : not within ≡ true → rows_of l m p ≡ []
    rows-past e = none within is e
      where
        none : (t : Bool) → t ≡ leb (p.at + p.len) (length m / l.width) → not t ≡ true → rows_of l m p ≡ []
        none true q z = absurd (false≢true z)
        none false q z = past (sym q)

    pub rows_few : not within ≡ false → p.at + p.len ≤ length m / l.width
    rows_few e = few within is e
      where
        few : (t : Bool) → t ≡ leb (p.at + p.len) (length m / l.width) → not t ≡ false → p.at + p.len ≤ length m / l.width
        few true q z = leb-true (p.at + p.len) (length m / l.width) (sym q)
        few false q z = absurd (false≢true (sym z))

    pub rows-within : not within ≡ false → rows_of l m p ≡ rows_from 0
    rows-within e = all (le-leb (p.at + p.len) (length m / l.width) (rows_few e))

  pub rows-turn : (k : ℕ) → k < p.len → rows_from k ≡ row_at l m (p.at + k) ∷ rows_from (k + 1)
  unfolding from
  rows-turn k h =
      let a : p.len - k ≡ p.at + p.len - (p.at + k) = omega arith in
      let b : p.len - (k + 1) ≡ p.at + p.len - (p.at + k + 1) = omega arith in
      let c : p.at + (k + 1) ≡ p.at + k + 1 = omega arith in
      rw (a, b, c) (ap (map (row_at l m)) (from-turn (p.at + k) (p.at + p.len) (omega arith)))

  pub rows_end : (k : ℕ) → p.len ≤ k → rows_from k ≡ []
  unfolding from
  rows_end k h = let e : p.len - k ≡ 0 = omega arith in rw e
