-- Whether a reference failed has one outcome, by the contract alone. Assumes nothing.
use Rattle.std.specs.Prelude.{◌≡◌, not, is_ok}
use Rattle.lent.specs.OneOutcome.{Determines, by-equation}
use Rattle.search_rules.specs.Search.{Checked}

pub is-failed-one : (f : Checked) → Determines (λ r. r ≡ not (is_ok f))
is-failed-one f = by-equation (not (is_ok f))
