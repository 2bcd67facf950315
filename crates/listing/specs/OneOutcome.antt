-- Search and list have one outcome, by the contract alone: the answer, and each lent list. Assumes nothing.
use Rattle.std.specs.Prelude.{ℕ, ◌≡◌, List}
use Rattle.lent.specs.OneOutcome.{Determines, by-equation}
use Rattle.search_rules.specs.declared.Asked.{Asked}
use Rattle.listing_rules.specs.Listing.{SkipAmount}
use Rattle.listing.specs.Outcome.{FindLists, FindOutcome, find_outcome}

pub find-one : (cells : List ℕ) (a : Asked) (skip : SkipAmount) (library : List ℕ) (n : ℕ) (l : FindLists) → Determines (λ (o : FindOutcome). o ≡ find_outcome cells a skip library n l)
find-one cells a skip library n l = by-equation (find_outcome cells a skip library n l)
