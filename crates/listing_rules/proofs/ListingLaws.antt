-- The best grade of some lines, the skip amount, and the grades of placed symbols. Assumes nothing.
use Rattle.std.specs.Prelude.{ℕ, ◌≤◌, ◌<◌, max, ◌≡◌, ◌⊎◌, ◌↔◌, true, false, List, [], ◌∷◌, eqb, Some}
use Rattle.std.proofs.Common.{ap, inl, inr, arith, eqb-true, ltb-true, lt-ltb}
use mathlib.Core.List.Memᴰ
use Rattle.lent.specs.Lists.{fold}
use Rattle.lent.specs.Members.{◌among◌, of-keep}
use Rattle.segments.specs.Collect.{Collected}
use Rattle.search_rules.specs.declared.Asked.{Asked}
use Rattle.search_rules.specs.Search.{Placing, Noting, is_noted}
use Rattle.listing_rules.specs.declared.Line.{Line}
use Rattle.listing_rules.specs.Listing.{best_grade, best, crowded, borne_out, grade}

-- only the best grade is listed: no line at the position has a better one
pub best-from : (lines : List Line) (g : ℕ) → (g ≤ fold (λ b l. max b l.grade) g lines)
    × ((l : Line) → l among lines → l.grade ≤ fold (λ b l. max b l.grade) g lines)
unfolding fold
best-from [] g = (omega arith, λ l i. absurd (Memᴰ.not-nil i))
best-from (x ∷ xs) g =
    let rest = best-from xs (max g x.grade) in
    (omega (arith, rest.0), λ l i. pick (Memᴰ.cases_cons i) rest)
  where
    top : ℕ
    top = fold (λ b l. max b l.grade) (max g x.grade) xs

    pick : {l : Line} → (l ≡ x) ⊎ l among xs → (max g x.grade ≤ top) × ((k : Line) → k among xs → k.grade ≤ top) → l.grade ≤ top
    pick (inl e) rest = omega (arith, ap (λ k. k.grade) e, rest.0)
    pick {l} (inr j) rest = rest.1 l j

pub best-only : (lines : List Line) {l k : Line} → l among best lines → k among lines → k.grade ≤ l.grade
unfolding best best_grade
best-only lines {l} {k} i j =
    let e = eqb-true l.grade (best_grade lines) (of-keep (λ x. eqb x.grade (best_grade lines)) lines i).1 in
    omega (arith, e, (best-from lines 0).1 k j)

-- more names than the amount, and no fewer
pub crowded-above : (amount n : ℕ) → (crowded (Some amount) n ≡ true) ↔ (amount < n)
crowded-above amount n = (ltb-true amount n, lt-ltb amount n)

-- the grades: 1 exactly if some public reference is not borne out, else 3 exactly if the name is noted there
module _ (library cells : List ℕ) (a : Asked) (segments : List Collected) (placed : List Placing) (noted : List Noting) (p : Placing) where
  pub grade-1 : borne_out library cells a segments placed noted p ≡ false → grade library cells a segments placed noted p ≡ 1
  unfolding grade
  grade-1 e = rw e

  pub grade-2 : borne_out library cells a segments placed noted p ≡ true → is_noted library noted p.position p.name ≡ false → grade library cells a segments placed noted p ≡ 2
  unfolding grade
  grade-2 e n = rw (e, n)

  pub grade-3 : borne_out library cells a segments placed noted p ≡ true → is_noted library noted p.position p.name ≡ true → grade library cells a segments placed noted p ≡ 3
  unfolding grade
  grade-3 e n = rw (e, n)
