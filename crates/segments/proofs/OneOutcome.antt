-- The functions on rows and masks have one outcome each, by their contracts alone. Assumes nothing.
use Rattle.std.specs.Prelude.{ℕ, ◌≡◌, List}
use Rattle.lent.specs.OneOutcome.{Determines, by-equation}
use Rattle.lent.specs.Rows.{put_row}
use Rattle.segments.specs.declared.Reference.{Reference}
use Rattle.segments.specs.declared.Symbol.{Symbol}
use Rattle.segments.specs.declared.SegmentRow.{SegmentRow}
use Rattle.segments.specs.SegmentRows.{segment_width, reference_width, symbol_width, segment_cells, reference_cells, symbol_cells}
use Rattle.omf51.specs.declared.Fixup.{Fixup}
use Rattle.segments.specs.Masks.{masked}
use Rattle.segments.specs.SegmentLayouts.{segment_row_at, reference_at, symbol_at}

pub segment-at-one : (m : List ℕ) (i : ℕ) → Determines (λ r. r ≡ segment_row_at m i)
segment-at-one m i = by-equation (segment_row_at m i)

pub put-segment-one : (m : List ℕ) (i : ℕ) (row : SegmentRow) → Determines (λ exit. exit ≡ put_row segment_width m i (segment_cells row))
put-segment-one m i row = by-equation (put_row segment_width m i (segment_cells row))

pub reference-at-one : (m : List ℕ) (i : ℕ) → Determines (λ r. r ≡ reference_at m i)
reference-at-one m i = by-equation (reference_at m i)

pub put-reference-one : (m : List ℕ) (i : ℕ) (row : Reference) → Determines (λ exit. exit ≡ put_row reference_width m i (reference_cells row))
put-reference-one m i row = by-equation (put_row reference_width m i (reference_cells row))

pub symbol-at-one : (m : List ℕ) (i : ℕ) → Determines (λ r. r ≡ symbol_at m i)
symbol-at-one m i = by-equation (symbol_at m i)

pub put-symbol-one : (m : List ℕ) (i : ℕ) (row : Symbol) → Determines (λ exit. exit ≡ put_row symbol_width m i (symbol_cells row))
put-symbol-one m i row = by-equation (put_row symbol_width m i (symbol_cells row))

pub mask_one : (masks : List ℕ) (f : Fixup) → Determines (λ exit. exit ≡ masked masks f)
mask_one masks f = by-equation (masked masks f)
