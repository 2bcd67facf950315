-- `follow`: at each turn the rows so far stand in the lent ones, and what is left of the walk, behind them, is the whole. Assumes nothing.
use lib.ListN.{length}
use Rattle.image.specs.View.{stretches_in, view}
use Rattle.routine.proofs.WalkLaws.{Going}
use Rattle.routine.proofs.walk.follow.Given as goal

abbrev pub invariant-loop-i : goal.invariant-loop-i
invariant-loop-i l =
    Going (view l.image (stretches_in l.s)) l.start (length l.fn.rows) l.rows l.at l.i
