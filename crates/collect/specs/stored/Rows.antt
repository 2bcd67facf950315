-- The row of a segment, as the code puts it together.
use Rattle.std.specs.Prelude.{ℕ, ◌-◌, false, List, Result, Ok, Err, if◌then◌else◌}
use Rattle.lent.specs.declared.part.Part.{Part}
use Rattle.tables.specs.declared.fill.Fill.{Fill}
use Rattle.tables.specs.fill.FilledRows.{one_more, put_more}
use Rattle.image.specs.declared.Seat.{Seat}
use Rattle.segments.specs.declared.SegmentRow.{SegmentRow}
use Rattle.segments.specs.SegmentLayouts.{segment_layout}
use Rattle.collect.specs.declared.stored.CollectCounts.{CollectCounts}
use Rattle.collect.specs.declared.stored.NoRoom.{NoRoom}

-- how much is stored so far, or that there was no room
abbrev pub Stored : Type 0
Stored = Result CollectCounts NoRoom

abbrev pub without_room : Stored
without_room = Err (record {})

-- so many rows, and room for more
abbrev pub filled_to : ℕ → Fill
filled_to n = record { rows = n; over = false }

abbrev pub since : ℕ → ℕ → Part
since start end = record { at = start; len = end - start }

abbrev pub row_of : Seat → CollectCounts → ℕ → Fill → Fill → SegmentRow
row_of seat c end references symbols = record {
  seat = seat;
  pattern = since c.pattern end;
  references = since c.references references.rows;
  symbols = since c.symbols symbols.rows;
}

-- nothing is stored any more where something had no room
abbrev pub stored_to : ℕ → Fill → Fill → Fill → Stored
stored_to end references symbols segments =
    if segments.over then without_room
    else Ok (record { segments = segments.rows; references = references.rows; symbols = symbols.rows; pattern = end })

unfoldable pub finished : CollectCounts → ℕ → Fill → Fill → ℕ → Stored
finished c end references symbols len =
    if references.over then without_room else if symbols.over then without_room else stored_to end references symbols (one_more (filled_to c.segments) 8 len)

unfoldable pub finished_in : Seat → CollectCounts → ℕ → Fill → Fill → List ℕ → List ℕ
finished_in seat c end references symbols m =
    if references.over then m else if symbols.over then m else put_more segment_layout (filled_to c.segments) (row_of seat c end references symbols) m
