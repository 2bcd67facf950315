-- `part_agrees` puts together what differs. The invariant: it is nothing exactly if all bytes so far agree. Assumes nothing.
use Rattle.std.proofs.Common.{◌≡◌, ℕ, ◌≤◌, eqb, List}
use Rattle.image.specs.Match.{part_agrees}
use Rattle.image.proofs.part_agrees.Given as goal

pub record Inv (image bytes masks : List ℕ) (at i differ j : ℕ) : Type 0 where
  pub inside : j ≤ 32
  pub agree : eqb differ 0 ≡ part_agrees image bytes masks at i j

abbrev pub invariant-loop-j : goal.invariant-loop-j
invariant-loop-j l =
    Inv l.image l.bytes l.masks l.at l.i l.differ l.j
