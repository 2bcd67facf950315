-- A flag has one outcome, by the contract alone. Assumes nothing.
use Rattle.std.specs.Prelude.{ℕ, ◌≡◌, List, get_or}
use Rattle.lent.specs.OneOutcome.{Determines, by-equation}

pub flag-at-one : (flags : List ℕ) (b : ℕ) → Determines (λ r. r ≡ get_or flags b 0)
flag-at-one flags b = by-equation (get_or flags b 0)
