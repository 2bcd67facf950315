-- What placing the symbols of a match leaves in lent memory.
use Rattle.std.specs.Prelude.{ℕ, ◌+◌, Bool, List, map}
use Rattle.lent.specs.declared.part.Part.{Part}
use Rattle.lent.specs.Lists.{one}
use Rattle.tables.specs.declared.fill.Fill.{Fill}
use Rattle.segments.specs.declared.SegmentNumber.{SegmentNumber}
use Rattle.segments.specs.declared.Symbol.{Symbol}
use Rattle.segments.specs.SegmentLayouts.{symbol_layout}
use Rattle.tables.specs.by_name.Tables.{table, Takes}
use Rattle.segments.specs.recalled.Recall.{rows_of}
use Rattle.search_rules.specs.Search.{Placing, place}
use Rattle.search_rules.specs.SearchRows.{placed_sheet}

-- a symbol of a match of the segment of a number
abbrev pub placing_of : SegmentNumber → ℕ → Bool → Symbol → Placing
placing_of number base valid y =
    record { position = base + y.offset; name = y.name; valid = valid; segment = number.0; base = base }

-- symbols are taken in, in an image of `end` bytes
abbrev pub Places : List ℕ → ℕ → List Placing → List ℕ → List ℕ → Fill → List ℕ → List ℕ → Fill → Type 0
Places library end new m heads f m' heads' f' = Takes placed_sheet library (place library end) new (table m heads f) (table m' heads' f')

abbrev pub PlacesOne : List ℕ → ℕ → SegmentNumber → ℕ → Bool → Symbol → List ℕ → List ℕ → Fill → List ℕ → List ℕ → Fill → Type 0
PlacesOne library end number base valid y = Places library end (one (placing_of number base valid y))

abbrev pub PlacesAll : List ℕ → ℕ → SegmentNumber → ℕ → Bool → List ℕ → Part → List ℕ → List ℕ → Fill → List ℕ → List ℕ → Fill → Type 0
PlacesAll library end number base valid symbols part = Places library end (map (placing_of number base valid) (rows_of symbol_layout symbols part))
