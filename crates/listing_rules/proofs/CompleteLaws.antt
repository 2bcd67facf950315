-- The list has exactly the lines that are to be listed. Assumes nothing.
use Rattle.std.specs.Prelude.{ℕ, ◌≤◌, ◌<◌, max, ◌≡◌, ◌⊎◌, ◌↔◌, ◌&&◌, ◌||◌, if◌then◌else◌}
use Rattle.std.proofs.Math.Path.{refl, sym}
use Rattle.std.proofs.Common.{ap}
use Rattle.std.proofs.Math.Logic.{inl, inr}
use Rattle.std.proofs.Math.Bool.{Bool, true, false, not}
use mathlib.Core.List.Memᴰ
use mathlib.Core.List.{List, [], ◌∷◌, map}
use native.Mathlib.Omega.{arith}
use borrow.Author.Tests.{eqb-true, eq-eqb, leb-true, le-leb}
use Rattle.std.proofs.Math.Dec.{eqb, leb, ltb}
use Rattle.std.proofs.Math.ListN.{length}
use Rattle.lent.specs.ChoiceLaws.{both}
use Rattle.lent.specs.Lists.{keep, joined, fold, from, sorted}
use Rattle.lent.specs.Members.{◌among◌, of-keep, of-joined, of-sorted, to-keep, to-joined, to-from}
use Rattle.lent.specs.Parts.{name_before}
use Rattle.segments.specs.Collect.{Collected}
use Rattle.search_rules.specs.declared.Asked.{Asked}
use Rattle.search_rules.specs.Search.{Placing, Noting, is_noted}
use Rattle.listing_rules.specs.Listing.{SkipAmount, noted_line, best_grade, best, crowded, borne_out, grade, stays, placed_line, graded_at, lines_at, is_leftover, leftovers, listing}
use Rattle.listing_rules.specs.declared.Line.{Line}
use Rattle.listing_rules.proofs.ListingLaws.{best-from, best-only}
use Rattle.listing_rules.proofs.EarlierLaws.{of-from}
use Rattle.listing_rules.proofs.SortedLaws.{to_sorted}
use Rattle.listing_rules.specs.Listed.{Shown, OfSymbol, PastEnd, Listed, of_symbol, of_name, past_end}

-- a line that no other passes has the best grade
at_most : (lines : List Line) (g top : ℕ) → g ≤ top → ((k : Line) → k among lines → k.grade ≤ top) → fold (λ b l. max b l.grade) g lines ≤ top
unfolding fold
at_most [] g top h all = h
at_most (x ∷ xs) g top h all =
    let first = all x (Memᴰ.head refl) in
    at_most xs (max g x.grade) top (omega (arith, h, first)) (λ k i. all k (Memᴰ.tail i))

pub to-best : (lines : List Line) (l : Line) → l among lines → ((k : Line) → k among lines → k.grade ≤ l.grade) → l among best lines
unfolding best best_grade
to-best lines l i h =
    let e : l.grade ≡ best_grade lines = omega (arith, at_most lines 0 l.grade (omega arith) h, (best-from lines 0).1 l i) in
    to-keep (λ k. eqb k.grade (best_grade lines)) lines i (eq-eqb l.grade (best_grade lines) e)

all_three : (s t u : Bool) → s ≡ true → t ≡ true → u ≡ false → (s && t && not u) ≡ true
all_three s t u e f g = rw (e, f, g)

flip : (u : Bool) → not u ≡ true → u ≡ false
flip true e = sym e
flip false e = refl

module _ (library cells : List ℕ) (a : Asked) (skip : SkipAmount) (segments : List Collected) (placed : List Placing) (noted : List Noting) where
  abbrev graded : ℕ → List Line
  graded at = graded_at library cells a segments placed noted at

  abbrev line_of : Placing → Line
  line_of = placed_line library cells a segments placed noted

  abbrev staying : ℕ → Placing → Bool
  staying = stays library cells a segments placed noted

  abbrev noted_at : ℕ → Noting → Bool
  noted_at at n = eqb n.target at && n.valid

  abbrev by_name : Line → Line → Bool
  by_name x y = name_before library x.name y.name

  abbrev lines_of : ℕ → List Line
  lines_of = lines_at library cells a segments placed noted skip

  -- the names at a position: a symbol that stands there and counts, or a valid name that is noted there
  pub record StandsAt (at : ℕ) (l : Line) : Type 0 where
    pub p : Placing
    pub there : p among placed
    pub position-is : p.position ≡ at
    pub counts : (p.valid || is_noted library noted at p.name) ≡ true
    pub line-is : line_of p ≡ l

  pub record NotedThere (at : ℕ) (l : Line) : Type 0 where
    pub n : Noting
    pub there : n among noted
    pub target_is : n.target ≡ at
    pub valid : n.valid ≡ true
    pub line-is : noted_line n ≡ l

  pub of-graded : (at : ℕ) (l : Line) → l among graded at → StandsAt at l ⊎ NotedThere at l
  unfolding graded_at
  of-graded at l i = go (Memᴰ.append_cases (map line_of (keep (staying at) placed)) i)
    where
      go : l among map line_of (keep (staying at) placed) ⊎ l among map noted_line (keep (noted_at at) noted) → StandsAt at l ⊎ NotedThere at l
      go (inl j) =
          let y = Memᴰ.of_map line_of (keep (staying at) placed) j in
          let k = of-keep (staying at) placed y.1 in
          let b = both (eqb y.0.position at) (y.0.valid || is_noted library noted at y.0.name) k.1 in
          inl (record { p = y.0; there = k.0; position-is = eqb-true y.0.position at b.0; counts = b.1; line-is = y.2 })
      go (inr j) =
          let y = Memᴰ.of_map noted_line (keep (noted_at at) noted) j in
          let k = of-keep (noted_at at) noted y.1 in
          let b = both (eqb y.0.target at) y.0.valid k.1 in
          inr (record { n = y.0; there = k.0; target_is = eqb-true y.0.target at b.0; valid = b.1; line-is = y.2 })

  pub graded-symbol : (p : Placing) → p among placed → (p.valid || is_noted library noted p.position p.name) ≡ true → line_of p among graded p.position
  unfolding graded_at
  graded-symbol p i c =
      Memᴰ.append_left (map noted_line (keep (noted_at p.position) noted)) (Memᴰ.map line_of (to-keep (staying p.position) placed i passes))
    where
      passes : staying p.position p ≡ true
      passes = rw (eq-eqb p.position p.position refl) c

  pub graded-name : (n : Noting) → n among noted → n.valid ≡ true → noted_line n among graded n.target
  unfolding graded_at
  graded-name n i v =
      Memᴰ.append_right (map line_of (keep (staying n.target) placed)) (Memᴰ.map noted_line (to-keep (noted_at n.target) noted i passes))
    where
      passes : noted_at n.target n ≡ true
      passes = rw (eq-eqb n.target n.target refl) v

  -- the lines of a position: exactly those of its names that are shown
  pub of-lines : (at : ℕ) (l : Line) → l among lines_of at → (l among graded at) × Shown library cells a skip segments placed noted at l
  unfolding lines_at best
  of-lines at l i = go (crowded skip (length (best (graded at)))) refl i
    where
      go : (t : Bool) → crowded skip (length (best (graded at))) ≡ t → l among (if t then [] else sorted by_name (best (graded at)))
          → (l among graded at) × Shown library cells a skip segments placed noted at l
      go true e j = absurd (Memᴰ.not-nil j)
      go false e j =
          let b = of-sorted by_name (best (graded at)) j in
          ((of-keep (λ k. eqb k.grade (best_grade (graded at))) (graded at) b).0, record { top = λ k m. best-only (graded at) b m; few = e })

  pub to-lines : (at : ℕ) (l : Line) → l among graded at → Shown library cells a skip segments placed noted at l → l among lines_of at
  unfolding lines_at
  to-lines at l i s = rw s.few (to_sorted by_name (best (graded at)) (to-best (graded at) l i s.top))

  pub inside-listed : (at : ℕ) (l : Line) → at < length cells → l among graded at → Shown library cells a skip segments placed noted at l
      → l among listing library cells a skip segments placed noted
  unfolding listing
  inside-listed at l h i s =
      Memᴰ.append_left (leftovers (length cells) skip noted)
      (to-joined lines_of (from 0 (length cells)) (to-from at 0 (length cells) (omega arith) (omega arith)) (to-lines at l i s))

  -- COMPLETE: each line that is to be listed is in the list
  pub complete : (l : Line) → Listed library cells a skip segments placed noted l → l among listing library cells a skip segments placed noted
  unfolding listing leftovers
  complete l (of_symbol o) = inside-listed o.p.position l o.inside (Memᴰ.cast o.line-is (graded-symbol o.p o.there o.counts)) o.shown
  complete l (of_name o) = inside-listed o.n.target l o.inside (Memᴰ.cast o.line-is (graded-name o.n o.there o.valid)) o.shown
  complete l (past_end o) =
      Memᴰ.append_right (joined lines_of (from 0 (length cells)))
      (Memᴰ.cast o.line-is (Memᴰ.map noted_line (to_sorted (λ x y. ltb x.target y.target) (keep (is_leftover (length cells) skip noted) noted)
      (to-keep (is_leftover (length cells) skip noted) noted o.there passes))))
    where
      passes : is_leftover (length cells) skip noted o.n ≡ true
      passes =
          all_three (leb (length cells) o.n.target) o.n.valid (crowded skip (length (keep (λ q. eqb q.target o.n.target) noted)))
          (le-leb (length cells) o.n.target o.past) o.valid o.few

  -- and no other line is
  pub of-leftovers : (l : Line) → l among leftovers (length cells) skip noted → PastEnd library cells a skip segments placed noted l
  unfolding leftovers
  of-leftovers l i =
      let less : Noting → Noting → Bool = λ x y. ltb x.target y.target in
      let kept = keep (is_leftover (length cells) skip noted) noted in
      let y = Memᴰ.of_map noted_line (sorted less kept) i in
      let k = of-keep (is_leftover (length cells) skip noted) noted (of-sorted less kept y.1) in
      let late = leb (length cells) y.0.target in
      let full = crowded skip (length (keep (λ q. eqb q.target y.0.target) noted)) in
      let b = both (late && y.0.valid) (not full) k.1 in
      let c = both late y.0.valid b.0 in
      record { n = y.0; there = k.0; past = leb-true (length cells) y.0.target c.0; valid = c.1; few = flip full b.1; line-is = sym y.2 }

  pub only : (l : Line) → l among listing library cells a skip segments placed noted → Listed library cells a skip segments placed noted l
  unfolding listing
  only l i = go (Memᴰ.append_cases (joined lines_of (from 0 (length cells))) i)
    where
      stands : (at : ℕ) → at < length cells → StandsAt at l ⊎ NotedThere at l → Shown library cells a skip segments placed noted at l
          → Listed library cells a skip segments placed noted l
      stands at h (inl o) s = of_symbol (record {
        p = o.p;
        there = o.there;
        inside = omega (arith, h, o.position-is);
        counts = rw o.position-is o.counts;
        line-is = sym o.line-is;
        shown = rw o.position-is s;
      })
      stands at h (inr o) s = of_name (record {
        n = o.n;
        there = o.there;
        inside = omega (arith, h, o.target_is);
        valid = o.valid;
        line-is = sym o.line-is;
        shown = rw o.target_is s;
      })

      go : l among joined lines_of (from 0 (length cells)) ⊎ l among leftovers (length cells) skip noted → Listed library cells a skip segments placed noted l
      go (inl j) =
          let y = of-joined lines_of (from 0 (length cells)) j in
          let g = of-lines y.0 l y.2 in
          stands y.0 (omega (arith, (of-from 0 (length cells) y.1).1)) (of-graded y.0 l g.0) g.1
      go (inr j) = past_end (of-leftovers l j)

  -- EXACTLY: a line is in the list exactly if it is to be listed
  pub listed-exactly : (l : Line) → (l among listing library cells a skip segments placed noted) ↔ Listed library cells a skip segments placed noted l
  listed-exactly l = (only l, complete l)

  -- by its grade: 1 to 3 has a symbol, 0 a noted name
  pub some-grade : (p : Placing) → 1 ≤ grade library cells a segments placed noted p
  unfolding grade
  some-grade p = go (borne_out library cells a segments placed noted p) (is_noted library noted p.position p.name)
    where
      go : (t u : Bool) → 1 ≤ (if not t then 1 else if u then 3 else 2)
      go false u = omega arith
      go true true = omega arith
      go true false = omega arith

  pub graded-line : (l : Line) → l among listing library cells a skip segments placed noted → 1 ≤ l.grade → OfSymbol library cells a skip segments placed noted l
  graded-line l i h = go (only l i)
    where
      go : Listed library cells a skip segments placed noted l → OfSymbol library cells a skip segments placed noted l
      go (of_symbol o) = o
      go (of_name o) = absurd (omega (arith, h, ap (λ k. k.grade) o.line-is))
      go (past_end o) = absurd (omega (arith, h, ap (λ k. k.grade) o.line-is))

  pub noted-line : (l : Line) → l among listing library cells a skip segments placed noted → l.grade ≡ 0
      → (n : Noting) × (n among noted) × ((n.valid ≡ true) × (l ≡ noted_line n))
  noted-line l i h = go (only l i)
    where
      go : Listed library cells a skip segments placed noted l → (n : Noting) × (n among noted) × ((n.valid ≡ true) × (l ≡ noted_line n))
      go (of_symbol o) = absurd (omega (arith, h, ap (λ k. k.grade) o.line-is, some-grade o.p))
      go (of_name o) = (o.n, o.there, (o.valid, o.line-is))
      go (past_end o) = (o.n, o.there, (o.valid, o.line-is))
