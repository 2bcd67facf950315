-- The matches of all segments, the symbols that they place, and the names that their references note.
use Rattle.std.specs.Prelude.{ℕ, zero, suc, ◌+◌, Bool, true, false, not, ◌&&◌, ◌||◌, List, [], ◌∷◌, ◌++◌, map, eqb, leb, length, get_or, if◌then◌else◌, Result, Ok, Err}
use Rattle.std.proofs.Math.Option.{Option, none, some}
use Rattle.lent.specs.declared.part.Part.{Part}
use Rattle.lent.specs.Lists.{one, keep, joined, fold, any, all, is_in, numbered}
use Rattle.lent.specs.Parts.{same_name}
use Rattle.image.specs.declared.Seat.TheVariants.{Anywhere}
use Rattle.image.specs.Match.{matches}
use Rattle.image.specs.declared.fixup.Rules.{Rules}
use Rattle.image.specs.declared.fixup.Target.{Target}
use Rattle.image.specs.declared.fixup.Target.TheVariants.{At, PastEnd, Withheld}
use Rattle.image.specs.fixup.Target.{target}
use Rattle.segments.specs.declared.SegmentNumber.{SegmentNumber}
use Rattle.segments.specs.declared.Goal.{Goal}
use Rattle.segments.specs.declared.Reference.{Reference}
use Rattle.segments.specs.declared.Symbol.{Symbol}
use Rattle.segments.specs.Collect.{Collected}
use Rattle.search_rules.specs.declared.Asked.{Asked}
use Rattle.search_rules.specs.declared.Why.{Why}
use Rattle.search_rules.specs.declared.Failure.{Failure}

-- a match: a segment with its number, and the position at which it matches
pub record Match : Type 0 where
  pub number : ℕ
  pub segment : Collected
  pub position : ℕ

-- a symbol placed at a position, and the match that placed it: its segment's number and its position, `base`
pub record Placing : Type 0 where
  pub position : ℕ
  pub name : Part
  pub valid : Bool
  pub segment : ℕ
  pub base : ℕ

-- a name noted at a target
pub record Noting : Type 0 where
  pub target : ℕ
  pub name : Part
  pub valid : Bool

-- the positions at which a segment matches
abbrev pub positions : List ℕ → Collected → List ℕ
positions cells g = matches cells g.seat g.bytes g.masks

-- the positions at which the segment of a number matches; without such a segment there are none
unfoldable pub positions_of : List ℕ → List Collected → SegmentNumber → List ℕ
positions_of cells segments number = get_or (map (positions cells) segments) number.0 []

-- the matches of one segment
abbrev pub matches_of : List ℕ → ℕ × Collected → List Match
matches_of cells (number, g) = map (λ at. record { number = number; segment = g; position = at }) (positions cells g)

-- the matches of all segments, by segment number and then by position
unfoldable pub all_matches : List ℕ → List Collected → List Match
all_matches cells segments = joined (matches_of cells) (numbered 0 segments)

-- a segment's matches are valid: at least the minimum of its masks are not 0
unfoldable pub is_valid : Asked → Collected → Bool
is_valid a g = leb a.minimum (length (keep (λ mask. not (eqb mask 0)) g.masks))

-- where a reference of a match at a position leads
abbrev pub leads : List ℕ → Rules → ℕ → Reference → Target
leads cells rules position r = target cells rules (position + r.place) r.kind r.offset

-- the target of a reference of a match at a position
abbrev pub target_of : List ℕ → Asked → ℕ → Reference → Target
target_of cells a position r = leads cells a.rules position r

-- the segment of a number; without one there is nothing in it
abbrev pub no_segment : Collected
no_segment = record { seat = Anywhere; bytes = []; masks = []; references = []; symbols = [] }

abbrev pub segment_of : List Collected → SegmentNumber → Collected
segment_of segments number = get_or segments number.0 no_segment

-- a reference without a target does not hold; a reference to a segment holds if that segment matches at the target, and
-- this match holds by the test `below`; a reference to a name holds
abbrev pub holds_at : List ℕ → List Collected → (Collected → ℕ → Bool) → Goal → Target → Bool
holds_at cells segments below goal PastEnd = false
holds_at cells segments below goal Withheld = false
holds_at cells segments below (Goal.Segment number) (At t) = is_in (positions_of cells segments number) t && below (segment_of segments number) t
holds_at cells segments below (Goal.Name name) (At t) = true

-- a match, of a segment at a position, holds to a depth: at depth 0 every match does; at depth d + 1 it does if all of its
-- references hold, those to segments by matches that hold to depth d
unfoldable pub holds_to : List ℕ → Rules → List Collected → ℕ → Collected → ℕ → Bool
holds_to cells rules segments zero g position = true
holds_to cells rules segments (suc d) g position =
    all (λ r. holds_at cells segments (λ h at. holds_to cells rules segments d h at) r.goal (leads cells rules position r)) g.references

-- a match holds to the depth that is asked
abbrev pub holds : List ℕ → Asked → List Collected → Match → Bool
holds cells a segments m = holds_to cells a.rules segments a.depth m.segment m.position

-- why a reference fails, with the test `below` for the matches to which it leads: its bytes pass the image's end, or one of
-- them is withheld, or its segment does not match at the target, or this match does not hold; a reference to a name that has
-- a target does not fail
abbrev pub failure : List ℕ → List Collected → (Collected → ℕ → Bool) → Goal → Target → Option Why
failure cells segments below goal PastEnd = some Why.PastEnd
failure cells segments below goal Withheld = some Why.Withheld
failure cells segments below (Goal.Segment number) (At t) =
    if is_in (positions_of cells segments number) t then (if below (segment_of segments number) t then none else some Why.NotHeld) else some Why.NoMatch
failure cells segments below (Goal.Name name) (At t) = none

-- the references of a match hold, or this is the first that fails
abbrev pub Checked : Type 0
Checked = Result Unit Failure

-- reference number k fails for this reason
abbrev pub failing : ℕ → Why → Checked
failing k why = Err (record { number = k; why = why })

-- the first of some references that fails, in their order, which are numbered from k on
abbrev pub failed : ℕ → Option Why → Checked → Checked
failed k none later = later
failed k (some why) later = failing k why

unfoldable pub failed_from : (Reference → Option Why) → ℕ → List Reference → Checked
failed_from why k [] = Ok tt
failed_from why k (r ∷ rest) = failed k (why r) (failed_from why (k + 1) rest)

-- the first reference of a match, in file order, that fails at a depth, and why; at depth 0 none does
unfoldable pub failed_to : List ℕ → Rules → List Collected → ℕ → Collected → ℕ → Checked
failed_to cells rules segments zero g position = Ok tt
failed_to cells rules segments (suc d) g position =
    failed_from (λ r. failure cells segments (λ h at. holds_to cells rules segments d h at) r.goal (leads cells rules position r)) 0 g.references

-- the first that fails at the depth that is asked
abbrev pub first_failed : List ℕ → Asked → List Collected → Match → Checked
first_failed cells a segments m = failed_to cells a.rules segments a.depth m.segment m.position

-- what a reference notes: nothing without a target, or if its goal is a segment; else the name at the target
abbrev pub note_at : Bool → Goal → Target → List Noting
note_at valid goal PastEnd = []
note_at valid goal Withheld = []
note_at valid (Goal.Segment number) (At t) = []
note_at valid (Goal.Name name) (At t) = one (record { target = t; name = name; valid = valid })

-- what the references of a segment note if the segment matches at a position
unfoldable pub notes : List ℕ → Asked → Collected → ℕ → List Noting
notes cells a g position = joined (λ r. note_at (is_valid a g) r.goal (target_of cells a position r)) g.references

-- a row notes this name at this target
abbrev pub notes_it : List ℕ → ℕ → Part → Noting → Bool
notes_it library at name n = eqb n.target at && same_name library n.name name

-- some row notes this name at this target
abbrev pub is_noted : List ℕ → List Noting → ℕ → Part → Bool
is_noted library rows at name = any (notes_it library at name) rows

-- the row r after one more noting: it becomes valid if it notes the same name at the same target and the new noting is valid
abbrev pub also_noted : List ℕ → Noting → Noting → Noting
also_noted library new r =
    record { target = r.target; name = r.name; valid = r.valid || (notes_it library new.target new.name r && new.valid) }

-- the rows after one more noting: a name has one row for a target, that of its first noting
unfoldable pub note : List ℕ → List Noting → Noting → List Noting
note library rows new =
    if is_noted library rows new.target new.name then map (also_noted library new) rows else rows ++ one new

-- the names that all matches note, by match and reference; what a match notes stays, whether its references hold or not
unfoldable pub noted : List ℕ → List ℕ → Asked → List Collected → List Noting
noted library cells a segments =
    fold (note library) [] (joined (λ m. notes cells a m.segment m.position) (all_matches cells segments))

-- a symbol of a match, placed at match position + offset
abbrev pub symbol_at : Asked → Match → Symbol → Placing
symbol_at a m y = record {
  position = m.position + y.offset;
  name = y.name;
  valid = is_valid a m.segment;
  segment = m.number;
  base = m.position;
}

-- the symbols that a match places: none if it does not hold to the depth that is asked
unfoldable pub symbols_at : List ℕ → Asked → List Collected → Match → List Placing
symbols_at cells a segments m = if holds cells a segments m then map (symbol_at a m) m.segment.symbols else []

-- some row places this name at this position
abbrev pub is_placed : List ℕ → List Placing → ℕ → Part → Bool
is_placed library rows at name = any (λ p. eqb p.position at && same_name library p.name name) rows

-- the rows after one more symbol: of the symbols of one name at one position the first stays; a symbol at the image's
-- end or past it is omitted
unfoldable pub place : List ℕ → ℕ → List Placing → Placing → List Placing
place library end rows new =
    if leb end new.position || is_placed library rows new.position new.name then rows else rows ++ one new

-- the symbols that all matches place, by match and symbol
unfoldable pub placed : List ℕ → List ℕ → Asked → List Collected → List Placing
placed library cells a segments =
    fold (place library (length cells)) [] (joined (symbols_at cells a segments) (all_matches cells segments))
