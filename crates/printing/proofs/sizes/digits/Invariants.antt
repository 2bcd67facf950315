-- `digits` counts as the definition does: the count so far, and what is left of the number, give the whole. Assumes nothing.
use Prim.Native.Nat.{ℕ, ◌+◌, ◌-◌, ◌/◌, ◌≤◌}
use mathlib.Core.Path.{◌≡◌}
use Rattle.listing_rules.specs.Print.{more_digits}
use Rattle.printing.proofs.sizes.digits.Given as goal

pub record Turn (address rest n : ℕ) : Type 0 where
  pub within : n ≤ 16
  pub same : n + more_digits (16 - n) rest ≡ 4 + more_digits 12 (address / 0x10000)

abbrev pub invariant-loop-n : goal.invariant-loop-n
invariant-loop-n l =
    Turn l.address l.rest l.n
