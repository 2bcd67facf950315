-- `value` meets its contract: two ranges, each told by one test. Assumes nothing.
use Rattle.std.proofs.Common.{arith, lt-ltb, le-ltb}
use Rattle.intel_hex.proofs.DigitLaws.{figure, letter, value-by}
use Rattle.intel_hex.proofs.digits.value.Goals as goal

pub returns-then-figure-lt10 : goal.returns-then-figure-lt10
returns-then-figure-lt10 c =
    let x = c.args.c in
    rw (lt-ltb (figure x) 10 c.if-figure-lt10.true) at (value-by x (omega arith))

pub returns-then-letter-lt6 : goal.returns-then-letter-lt6
returns-then-letter-lt6 c =
    let x = c.args.c in
    rw (le-ltb (figure x) 10 c.if-figure-lt10.false, lt-ltb (letter x) 6 c.if-letter-lt6.true) at (value-by x (omega arith))

pub returns-else-letter-lt6 : goal.returns-else-letter-lt6
returns-else-letter-lt6 c =
    let x = c.args.c in
    rw (le-ltb (figure x) 10 c.if-figure-lt10.false, le-ltb (letter x) 6 c.if-letter-lt6.false) at (value-by x (omega arith))
