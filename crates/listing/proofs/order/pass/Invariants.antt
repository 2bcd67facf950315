-- `pass` lets one line after another sink. The invariant: the first i are passed. Assumes nothing.
use Prim.Native.Nat.{ℕ}
use mathlib.Core.Path.{◌≡◌}
use mathlib.Core.List.{List}
use lib.ListN.{length}
use Rattle.listing.specs.order.Order.{Region}
use Rattle.listing.specs.order.Passes.{Stands, Passed}
use Rattle.listing.proofs.order.pass.Given as goal

pub record Inv (library m₀ : List ℕ) (from n gap : ℕ) (m : List ℕ) (i : ℕ) : Type 0 where
  pub long : length m ≡ length m₀
  pub passed : (r : Region library from n) → Stands r m₀ → Passed r gap i m

abbrev pub invariant-loop-i : goal.invariant-loop-i
invariant-loop-i l =
    Inv l.library l.initial.m l.from l.n l.gap l.m l.i
