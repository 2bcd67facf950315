-- What the file of a board is has one outcome, by the contracts alone; that of the whole run is `one-outcome` of the demands. Assumes nothing.
use Rattle.std.specs.Prelude.{ℕ, ◌≡◌}
use Rattle.lent.specs.OneOutcome.{Determines, by-equation}
use Rattle.libfind.specs.Begin.{checked}
use Rattle.bank_rules.specs.Banks.{banks_in, not_banked}

pub board-one : (size : ℕ) → Determines (λ r. r ≡ checked (not_banked size))
board-one size = by-equation (checked (not_banked size))

pub banks-in-one : (size : ℕ) → Determines (λ (r : ℕ). r ≡ banks_in size)
banks-in-one size = by-equation (banks_in size)
