-- `sink` holds line i, and puts each line that it passes one step up. The invariant: with the held line in place j the region is what it was, in another order. Assumes nothing.
use Prim.Native.Nat.{ℕ, ◌≤◌, ◌<◌}
use mathlib.Core.Path.{◌≡◌}
use mathlib.Core.List.{List}
use lib.ListN.{length}
use Rattle.listing_rules.specs.declared.Line.{Line}
use Rattle.listing.specs.order.Order.{Region}
use Rattle.listing.specs.order.Passes.{Passed, Held}
use Rattle.listing.proofs.order.sink.Given as goal

pub record Inv (library m₀ : List ℕ) (from gap i : ℕ) (x : Line) (m : List ℕ) (j : ℕ) : Type 0 where
  pub within : j ≤ i
  pub long : length m ≡ length m₀
  pub held : (n : ℕ) (r : Region library from n) → Passed r gap i m₀ → i < n → Held r gap i x m j

abbrev pub invariant-loop-j : goal.invariant-loop-j
invariant-loop-j l =
    Inv l.library l.initial.m l.from l.gap l.i l.x l.m l.j

abbrev pub decreases-loop-j : goal.decreases-loop-j
decreases-loop-j l =
    l.j
