-- Where a pattern may stand, and whether a place is a match of the segment of a number.
use Rattle.std.specs.Prelude.{◌≡◌, ℕ, Bool, true, List, ◌==◌}
use Rattle.lent.specs.Lists.{is_in}
use Rattle.image.specs.declared.Seat.{Seat}
use Rattle.image.specs.declared.Seat.TheVariants.{Anywhere, Only}
use Rattle.segments.specs.declared.SegmentNumber.{SegmentNumber}
use Rattle.segments.specs.recalled.Recall.{recalled}
use Rattle.search_rules.specs.Search.{positions_of}
use Rattle.search.specs.Store.{Stored}

abbrev pub may_stand : Seat → ℕ → Bool
may_stand Anywhere at = true
may_stand (Only address) at = address == at

-- the references and symbols that are stored with it do not matter
abbrev pub IsMatch : List ℕ → Stored → ℕ → SegmentNumber → ℕ → Bool → Type 0
IsMatch cells store n number at r =
    (references symbols : List ℕ) → r ≡ is_in (positions_of cells (recalled store.segments references symbols store.bytes store.masks n) number) at
