-- `print_heading` meets its contract: no room, or the heading. Assumes nothing.
use Rattle.listing_rules.specs.Print.{heading}
use Rattle.printing.specs.PrintedTextLaws.{too_long, fitting}
use Rattle.printing.proofs.print_heading.Goals as goal

pub returns-then-out : goal.returns-then-out
returns-then-out c =
    too_long heading c.args.out.now c.if-out.true

pub returns : goal.returns
returns c =
    fitting heading c.args.out.now c.if-out.false c.put.ensures
