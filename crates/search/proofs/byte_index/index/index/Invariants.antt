-- `index` goes from the last place to the first. The invariant: the places from here on are linked. Assumes nothing.
use Rattle.std.proofs.Common.{◌≡◌, ℕ, ◌≤◌, List, length}
use Rattle.tables.specs.links.Index.{LinkedIn}
use Rattle.search.proofs.byte_index.index.index.Given as goal

pub record Inv (image first₀ next₀ first next : List ℕ) (i : ℕ) : Type 0 where
  pub within : i ≤ length image
  pub heads-long : length first ≡ length first₀
  pub next-long : length next ≡ length next₀
  pub linked : LinkedIn 256 image i first next

abbrev pub invariant-loop-i : goal.invariant-loop-i
invariant-loop-i l =
    Inv l.image l.initial.first l.initial.next l.first l.next l.i

abbrev pub decreases-loop-i : goal.decreases-loop-i
decreases-loop-i l =
    l.i
