-- `parts_agreeing` goes by parts of 32 bytes. The invariant: all bytes so far agree. Assumes nothing.
use Rattle.std.proofs.Common.{◌≡◌, ℕ, ◌+◌, ◌-◌, List}
use Rattle.image.specs.Match.{Agreeing}
use Rattle.image.proofs.parts_agreeing.Given as goal

pub record Inv (image bytes masks : List ℕ) (at n last i : ℕ) : Type 0 where
  pub last-is : last + 32 ≡ n
  pub known : Agreeing image bytes masks at n i

abbrev pub invariant-loop-i : goal.invariant-loop-i
invariant-loop-i l =
    Inv l.image l.bytes l.masks l.at l.n l.last l.i

abbrev pub decreases-loop-i : goal.decreases-loop-i
decreases-loop-i l =
    l.n - l.i
