-- `link` goes from the last thing to the first. The invariant: the things from here on are linked. Assumes nothing.
use Rattle.std.proofs.Common.{◌≡◌, ℕ, ◌≤◌, List, length}
use Rattle.tables.specs.links.Index.{LinkedThings}
use Rattle.tables.proofs.links.link.Given as goal

pub record Inv (things₀ : List ℕ) (n : ℕ) (first₀ things first : List ℕ) (i : ℕ) : Type 0 where
  pub within : i ≤ n
  pub things-long : length things ≡ length things₀
  pub heads-long : length first ≡ length first₀
  pub linked : LinkedThings things₀ n i things first

abbrev pub invariant-loop-i : goal.invariant-loop-i
invariant-loop-i l =
    Inv l.initial.things l.n l.initial.first l.things l.first l.i
