-- `order` makes passes. The invariant: the last pass left the region in another order. Assumes nothing.
use Prim.Native.Nat.{ℕ}
use mathlib.Core.Path.{◌≡◌}
use mathlib.Core.List.{List}
use lib.ListN.{length}
use Rattle.listing.specs.order.Order.{Region, memory}
use Rattle.listing.specs.order.Passes.{Passed}
use Rattle.listing.proofs.order.order.Given as goal

pub record Inv (library m₀ : List ℕ) (from n : ℕ) (m : List ℕ) (gap : ℕ) : Type 0 where
  pub long : length m ≡ length m₀
  pub some : gap ≡ 0 → n ≡ 0
  pub passed : (r : Region library from n) → m₀ ≡ memory r r.lines → Passed r gap n m

abbrev pub invariant-loop-gap : goal.invariant-loop-gap
invariant-loop-gap l =
    Inv l.library l.initial.m l.from l.n l.m l.gap

abbrev pub decreases-loop-gap : goal.decreases-loop-gap
decreases-loop-gap l =
    l.gap
