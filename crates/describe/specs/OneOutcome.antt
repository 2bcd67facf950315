-- `describe` has one outcome, the answer and the buffer afterwards, by its contract alone; so has a byte of what all words say,
-- and what is taken off a name. Assumes nothing.
use Rattle.std.specs.Prelude.{ℕ, ◌≡◌, List, get_or}
use Rattle.lent.specs.OneOutcome.{Determines, by-equation}
use Rattle.describe.specs.Describe.{Words, one_of}
use Rattle.describe.specs.Described.{said, described}

pub describe-one : (name out : List ℕ) → Determines (λ o. o ≡ described name out)
describe-one name out = by-equation (described name out)

pub said-at-one : (at : ℕ) → Determines (λ r. r ≡ get_or said at 0)
said-at-one at = by-equation (get_or said at 0)

-- what is said, and the rest of the name
pub one-of-one : (words : Words) (name : List ℕ) → Determines (λ s. s ≡ one_of words name)
one-of-one words name = by-equation (one_of words name)
