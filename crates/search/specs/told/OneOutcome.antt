-- What is remembered has one outcome, by the contracts alone. Assumes nothing.
use Rattle.std.specs.Prelude.{◌≡◌, ℕ, Bool, List, slice_index}
use Rattle.lent.specs.OneOutcome.{Determines, by-equation}
use Rattle.search.specs.told.Answers.{recall_of, remembered}

pub answer-at-one : (told : List ℕ) (at : ℕ) → Determines (λ r. r ≡ slice_index told at)
answer-at-one told at = by-equation (slice_index told at)

pub recall-one : (answer number depth : ℕ) → Determines (λ r. r ≡ recall_of answer number depth)
recall-one answer number depth = by-equation (recall_of answer number depth)

pub remember-one : (told : List ℕ) (number at depth : ℕ) (holds : Bool) → Determines (λ m. m ≡ remembered told number at depth holds)
remember-one told number at depth holds = by-equation (remembered told number at depth holds)
