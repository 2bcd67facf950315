-- What the search comes to: the answer, and what is left in the lists that were lent to it.
use Rattle.std.specs.Prelude.{◌≡◌, ℕ, Bool, ◌||◌, List, [], ◌∷◌, length, nat_lt, if◌then◌else◌, Result, Ok, Err}
use Rattle.std.proofs.Math.Option.{Option, none, some}
use Rattle.lent.specs.declared.refusal.Refusal.{Refusal}
use Rattle.lent.specs.declared.refusal.Refusal.TheVariants.{ImageTooLong, TooFewRows}
use Rattle.lent.specs.Choice.{when, leading}
use Rattle.lent.specs.Refusals.{zeroes}
use Rattle.lent.specs.Rows.{zeros, padded, too_many}
use Rattle.tables.specs.by_name.Heads.{Blank}
use Rattle.search_rules.specs.declared.Asked.{Asked}
use Rattle.search_rules.specs.Search.{Placing, Noting, placed, noted}
use Rattle.search_rules.specs.SearchRows.{placed_width, noted_width, placed_numbers, noted_numbers}
use Rattle.search.specs.declared.SearchCounts.{SearchCounts}
use Rattle.search.specs.visit.Visits.{Stored, segments_in}
use Rattle.search.specs.Fills.{Sought}

-- the lent lists: the five in which the segments are stored, and the two for the rows of the search
pub record SearchLists : Type 0 where
  pub stored : Stored
  pub placed : List ℕ
  pub noted : List ℕ

-- the answer, and the lent lists afterwards
pub record SearchOutcome : Type 0 where
  pub answer : Result SearchCounts Refusal
  pub left : SearchLists

-- refusal 9: there are more rows of placed symbols or noted names than were lent
abbrev pub too_few : SearchLists → List Placing → List Noting → Bool
too_few l p n = too_many placed_width l.placed (length p) || too_many noted_width l.noted (length n)

-- the refusals of the search in their order, of which the first that applies counts; the view is as long as the image
unfoldable pub refusal_of : List ℕ → SearchLists → List Placing → List Noting → Option Refusal
refusal_of cells l p n = leading (when (nat_lt 65536 (length cells)) ImageTooLong ∷ when (too_few l p n) TooFewRows ∷ [])

-- the lent lists set to zero
unfoldable pub search_zeroed : SearchLists → SearchLists
search_zeroed l = record {
  stored = record {
    segments = zeros (length l.stored.segments);
    references = zeros (length l.stored.references);
    symbols = zeros (length l.stored.symbols);
    bytes = zeros (length l.stored.bytes);
    masks = zeros (length l.stored.masks);
  };
  placed = zeros (length l.placed);
  noted = zeros (length l.noted);
}

-- the lent lists with the rows of the search, and zeros behind; the stored segments stay
unfoldable pub search_filled : List ℕ → List Placing → List Noting → SearchLists → SearchLists
search_filled library p n l = record {
  stored = l.stored;
  placed = padded (length l.placed) (placed_numbers library p);
  noted = padded (length l.noted) (noted_numbers library n);
}

-- the outcome with a refusal or without: a refusal up to 8 writes nothing, 9 sets all lent lists to zero
abbrev pub search_outcome_of : List ℕ → Option Refusal → List Placing → List Noting → SearchLists → SearchOutcome
search_outcome_of library none p n l = record { answer = Ok (record { placed = length p; noted = length n }); left = search_filled library p n l }
search_outcome_of library (some r) p n l = record { answer = Err r; left = if zeroes r then search_zeroed l else l }

-- THE SEARCH of the view of an image for the first n segments that are stored
unfoldable pub searched : List ℕ → Asked → List ℕ → ℕ → SearchLists → SearchOutcome
searched cells a library n l =
    let gs = segments_in l.stored n in
    let p = placed library cells a gs in
    let q = noted library cells a gs in
    search_outcome_of library (refusal_of cells l p q) p q l

-- a search that came to this outcome, and the heads that it left: where it is done they lead to its rows
pub record SearchFound (cells : List ℕ) (a : Asked) (library : List ℕ) (n : ℕ) (l : SearchLists) (o : SearchOutcome) (positions goals : List ℕ) : Type 0 where
  pub same : o ≡ searched cells a library n l
  pub sought : (rows : SearchCounts) → o.answer ≡ Ok rows
      → let gs = segments_in l.stored n in Sought library (placed library cells a gs) (noted library cells a gs) o.left.placed positions o.left.noted goals

-- with heads that are blank before
abbrev pub Searches : List ℕ → Asked → List ℕ → ℕ → SearchLists → List ℕ → List ℕ → SearchOutcome → List ℕ → List ℕ → Type 0
Searches cells a library n l positions goals o positions' goals' =
    Blank (length l.placed) positions → Blank (length l.noted) goals → SearchFound cells a library n l o positions' goals'
