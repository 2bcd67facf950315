-- What a match leaves, by its references and symbols; and the matches of all segments, one after another. Assumes nothing.
use Rattle.std.specs.Prelude.{◌≡◌, ℕ, zero, suc, ◌+◌, ◌-◌, ◌/◌, ◌<◌, ◌≤◌, Bool, true, false, not, List, [], ◌∷◌, ◌++◌, map, length, nat_le, if◌then◌else◌}
use Rattle.std.proofs.Math.Path.{refl, ap}
use Rattle.std.proofs.Common.{sym, ◌∙◌}
use mathlib.Core.List.{append-nil}
use native.Mathlib.Omega.{arith}
use Rattle.std.proofs.Math.Nat.{sub-zero}
use Rattle.lent.specs.declared.part.Part.{Part}
use Rattle.lent.specs.Lists.{one, joined, from, numbered}
use Rattle.lent.specs.ListLaws.{from-turn, joined-turn}
use Rattle.lent.specs.Rows.{Layout}
use Rattle.segments.specs.declared.SegmentNumber.{SegmentNumber}
use Rattle.segments.specs.declared.SegmentRow.{SegmentRow}
use Rattle.segments.specs.Collect.{Collected}
use Rattle.segments.specs.SegmentLayouts.{reference_layout, symbol_layout, segment_row_at}
use Rattle.segments.specs.recalled.Recall.{rows_of, recalled_by, recalled}
use Rattle.search_rules.specs.declared.Asked.{Asked}
use Rattle.search_rules.specs.Search.{Match, Placing, positions, matches_of, all_matches, is_valid, holds, notes, symbol_at, symbols_at}
use Rattle.search.specs.place.PlacedSymbols.{placing_of}
use Rattle.search.specs.depth.Depths.{KeepsOut}
use Rattle.search.specs.note.NotedNames.{notes_of}
use Rattle.search.specs.visit.Visits.{Stored, segments_in, segment_at, placings, notings, segment_by, match_of}

same : {A : Type 0} (b : Bool) (x : A) → (if b then x else x) ≡ x
same true x = refl
same false x = refl

module _ (cells : List ℕ) (a : Asked) (library : List ℕ) (t : Stored) (n : ℕ) (number : SegmentNumber) (row : SegmentRow) (valid : Bool) (at : ℕ)
    (known : valid ≡ is_valid a (segment_by cells a library t n row)) where
  abbrev m : Match
  m = match_of cells a library t n number row at

  abbrev gs : List Collected
  gs = segments_in t n

  -- its references note what the definition says
  pub match-notes : joined (notes_of cells a.rules at valid) (rows_of reference_layout t.references row.references) ≡ notings cells a gs (one m)
  unfolding notes recalled_by joined
  match-notes = rw known (sym (append-nil (notes cells a (segment_by cells a library t n row) at)))

  -- its symbols, and that a failed check keeps them out
  one_placed : placings cells a gs (one m) ≡ symbols_at cells a gs m
  unfolding joined
  one_placed = append-nil (symbols_at cells a gs m)

  abbrev own : List Placing
  own = map (placing_of number at valid) (rows_of symbol_layout t.symbols row.symbols)

  own-symbols : map (symbol_at a m) m.segment.symbols ≡ own
  unfolding recalled_by
  own-symbols = ap (λ v. map (placing_of number at v) (rows_of symbol_layout t.symbols row.symbols)) (sym known)

  abbrev unless : Bool → List Placing
  unless fails = if fails then [] else map (symbol_at a m) m.segment.symbols

  module _ (out : Bool) (o : KeepsOut cells a.rules t n a.depth at row.references out) where
    placed-unless : placings cells a gs (one m) ≡ unless out
    unfolding symbols_at recalled_by
    placed-unless = one_placed ∙ turned (holds cells a gs m) ∙ ap unless (sym (o t.symbols (segment_by cells a library t n row) refl))
      where
        turned : (b : Bool) → (if b then map (symbol_at a m) m.segment.symbols else []) ≡ unless (not b)
        turned true = refl
        turned false = refl

    pub match-fails : out ≡ true → [] ≡ placings cells a gs (one m)
    match-fails is = sym (placed-unless ∙ ap unless is)

    pub match-passes : out ≡ false → own ≡ placings cells a gs (one m)
    match-passes is = sym (placed-unless ∙ ap unless is ∙ own-symbols)

-- a segment with no reference and no symbol leaves nothing, wherever it matches
no_rows : {R : Type 0} (l : Layout R) (xs : List ℕ) (p : Part) → p.len ≡ 0 → rows_of l xs p ≡ []
unfolding rows_of from
no_rows l xs p e = rw e (same (nat_le (p.at + 0) (length xs / l.width)) [])

module _ (cells : List ℕ) (a : Asked) (t : Stored) (n i : ℕ) (row : SegmentRow) (is : row ≡ segment_row_at t.segments i) (none-r : row.references.len ≡ 0) (none-y : row.symbols.len ≡ 0) where
  abbrev g : Collected
  g = segment_at t i

  no-references : g.references ≡ []
  unfolding recalled_by
  no-references = no_rows reference_layout t.references (segment_row_at t.segments i).references (rw is at none-r)

  no-symbols : g.symbols ≡ []
  unfolding recalled_by
  no-symbols = no_rows symbol_layout t.symbols (segment_row_at t.segments i).symbols (rw is at none-y)

  abbrev match_at : ℕ → Match
  match_at at = record { number = i; segment = g; position = at }

  nothing_placed : (at : ℕ) → symbols_at cells a (segments_in t n) (match_at at) ≡ []
  unfolding symbols_at
  nothing_placed at =
      let passes = holds cells a (segments_in t n) (match_at at) in
      ap (λ ys. if passes then map (symbol_at a (match_at at)) ys else []) no-symbols ∙ same passes []

  nothing-noted : (at : ℕ) → notes cells a g at ≡ []
  unfolding notes joined
  nothing-noted at = rw no-references

  over-matches : {B : Type 0} (f : Match → List B) → ((at : ℕ) → f (match_at at) ≡ []) → (ats : List ℕ) → joined f (map match_at ats) ≡ []
  unfolding joined
  over-matches f e [] = refl
  over-matches f e (at ∷ ats) = rw (e at) (over-matches f e ats)

  pub places-nothing : placings cells a (segments_in t n) (matches_of cells (i, g)) ≡ []
  places-nothing = over-matches (symbols_at cells a (segments_in t n)) nothing_placed (positions cells g)

  pub notes-nothing : notings cells a (segments_in t n) (matches_of cells (i, g)) ≡ []
  notes-nothing = over-matches (λ m. notes cells a m.segment m.position) nothing-noted (positions cells g)

-- the matches of all segments, by their numbers
module _ (cells : List ℕ) (t : Stored) where
  abbrev pub matches_by : ℕ → List Match
  matches_by i = matches_of cells (i, segment_at t i)

  by_number : (at n : ℕ) → joined (matches_of cells) (numbered at (map (segment_at t) (from at n))) ≡ joined matches_by (from at n)
  unfolding joined numbered from
  by_number at zero = refl
  by_number at (suc n) = ap (λ ms. matches_by at ++ ms) (by_number (at + 1) n)

  pub all-by-number : (n : ℕ) → all_matches cells (segments_in t n) ≡ joined matches_by (from 0 (n - 0))
  unfolding all_matches recalled
  all-by-number n = by_number 0 n ∙ ap (λ k. joined matches_by (from 0 k)) (sym (sub-zero n))

  pub next-number : (i n : ℕ) → i < n → joined matches_by (from i (n - i)) ≡ matches_by i ++ joined matches_by (from (i + 1) (n - (i + 1)))
  next-number i n h = joined-turn matches_by (from-turn i n h)

  pub no_number : (i n : ℕ) → n ≤ i → joined matches_by (from i (n - i)) ≡ []
  unfolding joined from
  no_number i n h = let e : n - i ≡ 0 = omega arith in rw e
