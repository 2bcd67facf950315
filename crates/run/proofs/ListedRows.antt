-- The rows of the list, read back as lines. Assumes nothing.
use Rattle.std.specs.Prelude.{ℕ, zero, suc, ◌*◌, ◌≤◌, ◌<◌, ◌≡◌, refl, ◌⊎◌, Bool, List, [], ◌∷◌, length, get_or, if◌then◌else◌}
use Rattle.std.proofs.Common.{sym, ap, inl, inr}
use Rattle.std.proofs.Math.Bool.{true, false, not}
use mathlib.Core.List.Memᴰ
use Rattle.std.proofs.Math.Decide.{dec_lt}
use native.Mathlib.Omega.{arith}
use Rattle.lent.specs.Members.{◌among◌}
use Rattle.lent.specs.Rows.{padded}
use Rattle.lent.specs.RowLaws.{get-filled}
use Rattle.segments.specs.Collect.{Collected}
use Rattle.search_rules.specs.declared.Asked.{Asked}
use Rattle.search_rules.specs.Search.{Placing, Noting, is_noted}
use Rattle.listing_rules.specs.declared.Line.{Line}
use Rattle.listing_rules.specs.Listing.{SkipAmount, borne_out, grade, listing, line_width, line_numbers}
use Rattle.listing_rules.proofs.CompleteLaws.{graded-line}
use Rattle.listing_rules.specs.LineLayout.{line_layout, line_at}
use Rattle.listing_rules.proofs.LineLayoutLaws.{line-width, line-back}

pub at-among : {A : Type 0} (xs : List A) (d : A) (i : ℕ) → i < length xs → get_or xs i d among xs
at-among [] d i h = absurd (omega arith)
at-among (x ∷ xs) d zero h = Memᴰ.head refl
at-among (x ∷ xs) d (suc i) h = Memᴰ.tail (at-among xs d i (omega arith))

pub place-among : {A : Type 0} (d : A) {x : A} (xs : List A) → x among xs → (i : ℕ) × (i < length xs) × (get_or xs i d ≡ x)
place-among d [] m = absurd (Memᴰ.not-nil m)
place-among {A} d {x} (y ∷ ys) m = go (Memᴰ.cases_cons m) (place-among d ys)
  where
    go : (x ≡ y) ⊎ x among ys → (x among ys → (i : ℕ) × (i < length ys) × (get_or ys i d ≡ x)) → (i : ℕ) × (i < length (y ∷ ys)) × (get_or (y ∷ ys) i d ≡ x)
    go (inl e) rest = (0, omega arith, sym e)
    go (inr n) rest = let r = rest n in (suc r.0, omega (arith, r.1), r.2)

-- a line has one of the grades 0 to 3
module _ (library cells : List ℕ) (a : Asked) (segments : List Collected) (placed : List Placing) (noted : List Noting) where
  at-most-3 : (p : Placing) → grade library cells a segments placed noted p ≤ 3
  unfolding grade
  at-most-3 p = go (borne_out library cells a segments placed noted p) (is_noted library noted p.position p.name)
    where
      go : (t u : Bool) → (if not t then 1 else if u then 3 else 2) ≤ 3
      go false u = omega arith
      go true true = omega arith
      go true false = omega arith

  pub grades : (skip : SkipAmount) {l : Line} → l among listing library cells a skip segments placed noted → l.grade ≤ 3
  grades skip {l} i = go (dec_lt 0 l.grade)
    where
      go : Dec (0 < l.grade) → l.grade ≤ 3
      go (yes h) = let o = graded-line library cells a skip segments placed noted l i h in omega (arith, ap (λ k. k.grade) o.line-is, at-most-3 o.p)
      go (no h) = omega arith

-- where the lines fit, row i is line i
pub row-is-line : (lines : List Line) (d : Line) (room i : ℕ) → ((l : Line) → l among lines → l.grade ≤ 3) → length lines * line_width ≤ room → i < length lines
    → line_at (padded room (line_numbers lines)) i ≡ get_or lines i d
unfolding line_numbers
row-is-line lines d room i small h b =
    get-filled line_layout line-width room lines d i h b (line-back (get_or lines i d) (omega (arith, small (get_or lines i d) (at-among lines d i b))))
