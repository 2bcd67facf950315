-- What the list comes to if the search was done, and left these lists and heads.
use Rattle.std.specs.Prelude.{ℕ, ◌≤◌, ◌≡◌, List, length}
use Rattle.search_rules.specs.declared.Asked.{Asked}
use Rattle.search_rules.specs.Search.{placed, noted}
use Rattle.search.specs.declared.SearchCounts.{SearchCounts}
use Rattle.search.specs.visit.Visits.{segments_in}
use Rattle.search.specs.Fills.{Sought}
use Rattle.search.specs.Outcome.{SearchLists as Searchable}
use Rattle.listing_rules.specs.Listing.{SkipAmount}
use Rattle.listing.specs.Outcome.{FindAnswer, find_outcome}
use Rattle.listing.specs.OutcomeLaws.{SearchDone}

abbrev pub ListsFound : List ℕ → Asked → SkipAmount → List ℕ → ℕ → SearchCounts → Searchable → List ℕ → List ℕ → List ℕ → FindAnswer → Searchable → List ℕ → Type 0
ListsFound cells a skip library n rows left positions goals lines r left' lines' =
    (l : Searchable) (short : length cells ≤ 65536) → length l.placed ≡ length left.placed → length l.noted ≡ length left.noted → SearchDone cells a library n l short rows left
    → Sought library (placed library cells a (segments_in l.stored n)) (noted library cells a (segments_in l.stored n)) left.placed positions left.noted goals
    → record { answer = r; left = record { searched = left'; lines = lines' } } ≡ find_outcome cells a skip library n (record { searched = l; lines = lines })
