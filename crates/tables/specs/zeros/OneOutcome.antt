-- A table that is made has one outcome, by the contract alone. Assumes nothing.
use Rattle.std.specs.Prelude.{◌≡◌, ℕ}
use Rattle.lent.specs.OneOutcome.{Determines, by-equation}
use Rattle.tables.specs.zeros.Zeros.{repeated}

-- whatever the zero of its type is; `zero_list n` is `repeated n 0`
pub zeros-one : {A : Type 0} (n : ℕ) (zero : A) → Determines (λ r. r ≡ repeated n zero)
zeros-one n zero = by-equation (repeated n zero)
