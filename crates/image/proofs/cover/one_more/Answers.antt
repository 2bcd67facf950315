-- `one_more`: too many, or a pair behind the others. Assumes nothing.
use Rattle.std.proofs.Common.{arith, le-leb}
use borrow.Author.Tests.{lt-leb}
use Rattle.image.proofs.cover.one_more.Goals as goal

pub returns-then-count-ge-MOST_STRETCHES : goal.returns-then-count-ge-MOST_STRETCHES
returns-then-count-ge-MOST_STRETCHES c =
    rw (le-leb 16 c.args.w.count (omega (arith, c.if-count-ge-MOST_STRETCHES.true)))

pub returns : goal.returns
returns c =
    rw (lt-leb 16 c.args.w.count (omega (arith, c.if-count-ge-MOST_STRETCHES.false)))
