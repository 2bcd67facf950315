-- `gather` goes from pair to pair. The invariant: with those that are left it gathers all. Assumes nothing.
use Rattle.std.proofs.Common.{◌≡◌, length}
use Rattle.image.specs.Cover.{no_stretches, gathered}
use Rattle.image.proofs.cover.gather.Given as goal

abbrev pub invariant-loop-rest : goal.invariant-loop-rest
invariant-loop-rest l =
    gathered l.w l.rest ≡ gathered no_stretches l.numbers

abbrev pub decreases-loop-rest : goal.decreases-loop-rest
decreases-loop-rest l =
    length l.rest
