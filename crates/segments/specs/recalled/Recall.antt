-- The segments that rows in memory tell of. Any numbers tell of some: a part of the rows, or of the pattern memory, that does
-- not fit is empty.
use Rattle.std.specs.Prelude.{ℕ, ◌+◌, ◌/◌, List, [], map, leb, length, if◌then◌else◌}
use Rattle.lent.specs.declared.part.Part.{Part}
use Rattle.lent.specs.Lists.{from}
use Rattle.lent.specs.Parts.{bytes_of}
use Rattle.lent.specs.Rows.{Layout, row_at}
use Rattle.segments.specs.declared.SegmentRow.{SegmentRow}
use Rattle.segments.specs.Collect.{Collected}
use Rattle.segments.specs.SegmentLayouts.{reference_layout, symbol_layout, segment_row_at}

-- a part of the rows
unfoldable pub rows_of : {R : Type 0} → Layout R → List ℕ → Part → List R
rows_of l m p = if leb (p.at + p.len) (length m / l.width) then map (λ k. row_at l m k) (from p.at p.len) else []

module _ (segments references symbols bytes masks : List ℕ) where
  -- the segment of a row, and those of the first n rows
  unfoldable pub recalled_by : SegmentRow → Collected
  recalled_by row = record {
    seat = row.seat;
    bytes = bytes_of bytes row.pattern;
    masks = bytes_of masks row.pattern;
    references = rows_of reference_layout references row.references;
    symbols = rows_of symbol_layout symbols row.symbols;
  }

  abbrev pub recalled_at : ℕ → Collected
  recalled_at i = recalled_by (segment_row_at segments i)

  unfoldable pub recalled : ℕ → List Collected
  recalled n = map recalled_at (from 0 n)
