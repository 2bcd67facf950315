-- `passes_end` goes from stretch to stretch. The invariant: those that are left decide. Assumes nothing.
use Rattle.std.proofs.Common.{◌≡◌, length}
use Rattle.image.specs.View.{stretches_in}
use Rattle.image.specs.Cover.{passes_end}
use Rattle.image.proofs.cover.passes_end.Given as goal

abbrev pub invariant-loop-rest : goal.invariant-loop-rest
invariant-loop-rest l =
    passes_end l.len (stretches_in l.rest) ≡ passes_end l.len (stretches_in l.s)

abbrev pub decreases-loop-rest : goal.decreases-loop-rest
decreases-loop-rest l =
    length l.rest
