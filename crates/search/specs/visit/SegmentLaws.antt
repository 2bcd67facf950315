-- The matches of a segment by its row, and whether they are valid. Assumes nothing.
use Rattle.std.specs.Prelude.{◌≡◌, ℕ, Bool, not, leb, List, map, length, ◌==◌, nat_le}
use Rattle.std.proofs.Math.Path.{ap}
use Rattle.std.proofs.Common.{◌∙◌}
use Rattle.lent.specs.Lists.{keep}
use Rattle.lent.specs.Parts.{bytes_of}
use Rattle.image.specs.Match.{matches}
use Rattle.segments.specs.declared.SegmentRow.{SegmentRow}
use Rattle.segments.specs.SegmentLayouts.{segment_row_at}
use Rattle.tables.specs.by_name.Tables.{table}
use Rattle.tables.specs.by_name.TakeLaws.{takes_none}
use Rattle.segments.specs.recalled.Recall.{recalled_by}
use Rattle.search_rules.specs.declared.Asked.{Asked}
use Rattle.search_rules.specs.Search.{Match, positions, matches_of, is_valid, place, note}
use Rattle.search_rules.specs.SearchRows.{placed_sheet, noted_sheet}
use Rattle.search.specs.declared.visit.Fills.{Fills}
use Rattle.search.specs.visit.Visits.{Stored, segments_in, segment_at, Visits, segment_by, match_of}
use Rattle.search.specs.visit.VisitLaws.{places-nothing, notes-nothing}

module _ (cells : List ℕ) (a : Asked) (library : List ℕ) (t : Stored) (n i : ℕ) (row : SegmentRow) where
  abbrev pub match_at : ℕ → Match
  match_at at = match_of cells a library t n (record { 0 = i }) row at

  module _ (pattern masked : List ℕ) (b : pattern ≡ bytes_of t.bytes row.pattern) (m : masked ≡ bytes_of t.masks row.pattern) where
    by_row : matches cells row.seat pattern masked ≡ positions cells (segment_by cells a library t n row)
    unfolding recalled_by
    by_row = ap (λ x. matches cells row.seat x masked) b ∙ ap (matches cells row.seat (bytes_of t.bytes row.pattern)) m

    pub segment-matches : row ≡ segment_row_at t.segments i → {left : List ℕ} → left ≡ matches cells row.seat pattern masked → map match_at left ≡ matches_of cells (i, segment_at t i)
    segment-matches e q =
        ap (map match_at) (q ∙ by_row)
        ∙ ap (λ r. matches_of cells (i, recalled_by t.segments t.references t.symbols t.bytes t.masks r)) e

    pub known-valid : (valid : Bool) → valid ≡ nat_le a.minimum (length (keep (λ mask. not (mask == 0)) masked)) → valid ≡ is_valid a (segment_by cells a library t n row)
    unfolding is_valid recalled_by
    known-valid valid e = e ∙ ap (λ x. leb a.minimum (length (keep (λ mask. not (mask == 0)) x))) m

  -- nothing is left by a segment with no reference and no symbol
  pub visits-nothing : row ≡ segment_row_at t.segments i → row.references.len ≡ 0 → row.symbols.len ≡ 0 → (placed positions noted goals : List ℕ) (f : Fills)
      → Visits cells a library (segments_in t n) (matches_of cells (i, segment_at t i)) placed positions noted goals f placed positions noted goals f
  visits-nothing e r y placed positions noted goals f = record {
    places = rw (places-nothing cells a t n i row e r y) (takes_none placed_sheet library (place library (length cells)) (table placed positions f.placed));
    notes = rw (notes-nothing cells a t n i row e r y) (takes_none noted_sheet library (note library) (table noted goals f.noted));
  }
