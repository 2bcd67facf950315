-- `digit` gives what the definition says: a figure, or a letter. Assumes nothing.
use native.Mathlib.Omega.{arith}
use borrow.Author.Tests.{le-ltb}
use Rattle.printing.proofs.pieces.digit.Goals as goal

pub returns-else-n-lt10 : goal.returns-else-n-lt10
returns-else-n-lt10 c =
    let n = c.args.n in rw (le-ltb n 10 c.if-n-lt10.false) (omega arith)
