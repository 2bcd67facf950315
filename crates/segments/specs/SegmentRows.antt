-- The numbers that the lent lists of the collection hold.
use Rattle.std.specs.Prelude.{ℕ, ◌+◌, List, [], ◌∷◌, length}
use Rattle.lent.specs.declared.part.Part.{Part}
use Rattle.lent.specs.Lists.{joined}
use Rattle.image.specs.declared.Seat.{Seat}
use Rattle.image.specs.declared.Seat.TheVariants.{Anywhere, Only}
use Rattle.image.specs.fixup.Target.{kind_number}
use Rattle.segments.specs.declared.Goal.{Goal}
use Rattle.segments.specs.declared.Reference.{Reference}
use Rattle.segments.specs.declared.Symbol.{Symbol}
use Rattle.segments.specs.declared.SegmentRow.{SegmentRow}
use Rattle.segments.specs.Collect.{Collected}

-- how many numbers the row of a segment has
abbrev pub segment_width : ℕ
segment_width = 8

-- how many numbers the row of a reference has
abbrev pub reference_width : ℕ
reference_width = 6

-- how many numbers the row of a symbol has
abbrev pub symbol_width : ℕ
symbol_width = 3

-- where a segment may stand: 0 and 0, or 1 and its address if it is absolute; then the rest of its row
abbrev pub seat_cells : Seat → List ℕ → List ℕ
seat_cells Anywhere rest = 0 ∷ 0 ∷ rest
seat_cells (Only address) rest = 1 ∷ address ∷ rest

-- the rest of a segment's row: place and length of its pattern, and first row and number of its references and of its symbols
abbrev pub part_cells : SegmentRow → List ℕ
part_cells r = r.pattern.at ∷ r.pattern.len ∷ r.references.at ∷ r.references.len ∷ r.symbols.at ∷ r.symbols.len ∷ []

-- the numbers of a segment's row
abbrev pub segment_cells : SegmentRow → List ℕ
segment_cells r = seat_cells r.seat (part_cells r)

-- the goal of a reference: 0, a segment's number and 0, or 1, place and length of a name
abbrev pub goal_cells : Goal → List ℕ
goal_cells (Goal.Segment number) = 0 ∷ number.0 ∷ 0 ∷ []
goal_cells (Goal.Name name) = 1 ∷ name.at ∷ name.len ∷ []

-- the numbers of a reference's row: place, kind, offset, goal
abbrev pub reference_cells : Reference → List ℕ
reference_cells r = r.place ∷ kind_number r.kind ∷ r.offset ∷ goal_cells r.goal

-- the numbers of a symbol's row: place and length of its name, and its offset
abbrev pub symbol_cells : Symbol → List ℕ
symbol_cells y = y.name.at ∷ y.name.len ∷ y.offset ∷ []

-- the part of n elements that follows the part p
abbrev pub following : Part → ℕ → Part
following p n = record { at = p.at + p.len; len = n }

-- the rows of segments, whose patterns, references and symbols follow those of the row `last`
unfoldable pub segment_rows_from : SegmentRow → List Collected → List SegmentRow
segment_rows_from last [] = []
segment_rows_from last (g ∷ rest) =
    let row : SegmentRow = record {
      seat = g.seat;
      pattern = following last.pattern (length g.bytes);
      references = following last.references (length g.references);
      symbols = following last.symbols (length g.symbols);
    } in
    row ∷ segment_rows_from row rest

-- the row before the first segment: all its parts are empty
abbrev pub no_row : SegmentRow
no_row = let none : Part = record { at = 0; len = 0 } in record { seat = Anywhere; pattern = none; references = none; symbols = none }

-- the rows of all segments
abbrev pub segment_rows : List Collected → List SegmentRow
segment_rows segments = segment_rows_from no_row segments

-- all numbers of the lent rows of segments
unfoldable pub segment_numbers : List Collected → List ℕ
segment_numbers segments = joined segment_cells (segment_rows segments)

-- all numbers of the lent rows of references
unfoldable pub reference_numbers : List Collected → List ℕ
reference_numbers segments = joined (λ g. joined reference_cells g.references) segments

-- all numbers of the lent rows of symbols
unfoldable pub symbol_numbers : List Collected → List ℕ
symbol_numbers segments = joined (λ g. joined symbol_cells g.symbols) segments

-- all pattern bytes
unfoldable pub pattern_bytes : List Collected → List ℕ
pattern_bytes segments = joined (λ g. g.bytes) segments

-- all masks
unfoldable pub pattern_masks : List Collected → List ℕ
pattern_masks segments = joined (λ g. g.masks) segments
