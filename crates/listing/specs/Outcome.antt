-- What search and list together come to: the answer, and what is left in the lists that were lent for them.
use Rattle.std.specs.Prelude.{ℕ, List, [], ◌∷◌, ltb, length, Result, Ok, Err, if◌then◌else◌}
use Rattle.std.proofs.Math.Option.{Option, none, some}
use Rattle.lent.specs.declared.refusal.Refusal.{Refusal}
use Rattle.lent.specs.declared.refusal.Refusal.TheVariants.{ImageTooLong, TooFewRows}
use Rattle.lent.specs.Choice.{when, leading}
use Rattle.lent.specs.Refusals.{zeroes}
use Rattle.lent.specs.Rows.{zeros, padded, too_many}
use Rattle.segments.specs.Collect.{Collected}
use Rattle.search_rules.specs.declared.Asked.{Asked}
use Rattle.search_rules.specs.Search.{Placing, Noting, placed, noted}
use Rattle.search.specs.visit.Visits.{segments_in}
use Rattle.search.specs.Outcome.{SearchLists as Searchable, too_few, search_zeroed as zeroed_search, search_filled as filled_search}
use Rattle.listing_rules.specs.declared.Line.{Line}
use Rattle.listing_rules.specs.Listing.{SkipAmount, listing, line_width, line_numbers}
use Rattle.listing.specs.declared.FindCounts.{FindCounts}

-- the lent lists: those of the search, and that of the lines
pub record FindLists : Type 0 where
  pub searched : Searchable
  pub lines : List ℕ

-- how many rows and lines were written, or a refusal
abbrev pub FindAnswer : Type 0
FindAnswer = Result FindCounts Refusal

-- the answer, and the lent lists afterwards
pub record FindOutcome : Type 0 where
  pub answer : FindAnswer
  pub left : FindLists

-- what search and list give: symbols placed, names noted, lines
pub record Yield : Type 0 where
  pub placed : List Placing
  pub noted : List Noting
  pub lines : List Line

-- what search and list give for the cells of a view and some segments
unfoldable pub yields : List ℕ → Asked → SkipAmount → List ℕ → List Collected → Yield
yields cells a skip library gs =
    let p = placed library cells a gs in
    let q = noted library cells a gs in
    record { placed = p; noted = q; lines = listing library cells a skip gs p q }

-- the refusals in their order, of which the first that applies counts: a long image, 9 for the search, and then 9 for the list
unfoldable pub refusal_of : List ℕ → FindLists → Yield → Option Refusal
refusal_of cells l y =
    leading
    (when (ltb 65536 (length cells)) ImageTooLong
    ∷ when (too_few l.searched y.placed y.noted) TooFewRows
    ∷ when (too_many line_width l.lines (length y.lines)) TooFewRows
    ∷ [])

-- the lent lists set to zero
abbrev pub find_zeroed : FindLists → FindLists
find_zeroed l = record { searched = zeroed_search l.searched; lines = zeros (length l.lines) }

-- the lent lists with the rows of search and list, and zeros behind
abbrev pub find_filled : List ℕ → Yield → FindLists → FindLists
find_filled library y l = record {
  searched = filled_search library y.placed y.noted l.searched;
  lines = padded (length l.lines) (line_numbers y.lines);
}

-- how many rows and lines there are
abbrev pub counted : Yield → FindCounts
counted y = record { placed = length y.placed; noted = length y.noted; lines = length y.lines }

-- the outcome with a refusal or without: a refusal up to 8 writes nothing, 9 sets all lent lists to zero
abbrev pub find_outcome_of : List ℕ → Option Refusal → Yield → FindLists → FindOutcome
find_outcome_of library none y l = record { answer = Ok (counted y); left = find_filled library y l }
find_outcome_of library (some r) y l = record { answer = Err r; left = if zeroes r then find_zeroed l else l }

-- THE NAMES FOUND in the view of an image, for the first n segments that are stored
unfoldable pub find_outcome : List ℕ → Asked → SkipAmount → List ℕ → ℕ → FindLists → FindOutcome
find_outcome cells a skip library n l =
    let y = yields cells a skip library (segments_in l.searched.stored n) in
    find_outcome_of library (refusal_of cells l y) y l
