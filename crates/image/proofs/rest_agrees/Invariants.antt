-- `rest_agrees` goes byte by byte. The invariant: all bytes so far agree. Assumes nothing.
use Rattle.image.specs.Match.{Agreeing}
use Rattle.image.proofs.rest_agrees.Given as goal

abbrev pub invariant-loop-i : goal.invariant-loop-i
invariant-loop-i l =
    Agreeing l.image l.bytes l.masks l.at l.n l.i
