-- The first number between two bounds that passes a test; as a link, it is one more, or 0 where there is none.
use Rattle.std.specs.Prelude.{ℕ, zero, suc, ◌+◌, ◌-◌, Bool, if◌then◌else◌}
use Rattle.std.proofs.Math.Option.{Option, none, some}

unfoldable pub first_of : (ℕ → Bool) → ℕ → ℕ → Option ℕ
first_of p zero at = none
first_of p (suc n) at = if p at then some at else first_of p n (at + 1)

-- the first number from `low` on and below `high` that passes the test
abbrev pub first_in : (ℕ → Bool) → ℕ → ℕ → Option ℕ
first_in p low high = first_of p (high - low) low

abbrev pub link_to : Option ℕ → ℕ
link_to none = 0
link_to (some n) = n + 1
