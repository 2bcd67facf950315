-- Where the parts of one segment stand in the lists of all segments together.
use Rattle.std.specs.Prelude.{◌+◌, ◌≤◌, ◌≡◌, List, length, take, drop}
use Rattle.lent.specs.declared.part.Part.{Part}
use Rattle.lent.specs.Lists.{joined}
use Rattle.segments.specs.declared.Reference.{Reference}
use Rattle.segments.specs.declared.Symbol.{Symbol}
use Rattle.segments.specs.declared.SegmentRow.{SegmentRow}
use Rattle.segments.specs.Collect.{Collected}
use Rattle.segments.specs.SegmentRows.{pattern_bytes, pattern_masks}

-- a part of a list lies within it, and is this list
pub record Stands {B : Type 0} (xs : List B) (part : Part) (ys : List B) : Type 0 where
  pub within : part.at + part.len ≤ length xs
  pub is : take part.len (drop part.at xs) ≡ ys

-- the references and symbols of all segments, one after another
abbrev pub all_references : List Collected → List Reference
all_references segments = joined (λ g. g.references) segments

abbrev pub all_symbols : List Collected → List Symbol
all_symbols segments = joined (λ g. g.symbols) segments

-- a row says where the parts of a segment stand
pub record RowOf (segments : List Collected) (g : Collected) (row : SegmentRow) : Type 0 where
  pub seat : row.seat ≡ g.seat
  pub bytes : Stands (pattern_bytes segments) row.pattern g.bytes
  pub masks : Stands (pattern_masks segments) row.pattern g.masks
  pub references : Stands (all_references segments) row.references g.references
  pub symbols : Stands (all_symbols segments) row.symbols g.symbols
