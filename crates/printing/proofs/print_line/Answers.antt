-- `print_line` meets its contract: no room, or the line. Assumes nothing.
use native.Mathlib.Omega.{arith}
use Rattle.listing_rules.specs.Print.{printed_line}
use Rattle.printing.specs.PrintedTextLaws.{too_long, fitting}
use Rattle.printing.proofs.print_line.Goals as goal

pub returns-then-out-line : goal.returns-then-out-line
returns-then-out-line c =
    let a = c.args in too_long (printed_line a.library.now a.line) a.out.now (omega (arith, c.line.ensures))

pub returns : goal.returns
returns c =
    let a = c.args in fitting (printed_line a.library.now a.line)
    a.out.now (omega (arith, c.line.ensures, c.if-out-line.false)) c.put_line.ensures
