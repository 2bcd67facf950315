-- `put_digits` meets its contract: the digits that are left, of what is left of the number, complete what all stored. Assumes nothing.
use Prim.Native.Nat.{ℕ, ◌≤◌}
use mathlib.Core.Path.{◌≡◌}
use mathlib.Core.List.{List}
use lib.ListN.{length}
use lib.Seq.{sets}
use Rattle.listing_rules.specs.Print.{digits}
use Rattle.printing.proofs.pieces.put_digits.Given as goal

pub record Turn (out₀ : List ℕ) (at n number : ℕ) (out : List ℕ) (rest j : ℕ) : Type 0 where
  pub within : j ≤ n
  pub long : length out ≡ length out₀
  pub same : sets out at (digits j rest) ≡ sets out₀ at (digits n number)

abbrev pub invariant-loop-j : goal.invariant-loop-j
invariant-loop-j l =
    Turn l.initial.out l.at l.n l.number l.out l.rest l.j
