-- `apart_from_all` asks the first stretch, and calls itself for those behind it. The measure is the list's length. Assumes nothing.
use Rattle.std.proofs.Common.{length}
use Rattle.image.proofs.+apart_from_all.Given as goal

abbrev pub decreases-apart_from_all : goal.decreases-apart_from_all
decreases-apart_from_all l = length l.s.now
