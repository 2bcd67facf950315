-- `print` meets its contract: the heading and the lines, or no room. Assumes nothing.
use mathlib.Core.Path.{sym, ◌∙◌}
use lib.ListN.{length}
use borrow.Author.Tests.{leb-true, leb-false}
use Rattle.listing_rules.specs.Print.{printed}
use Rattle.printing.specs.PrintedText.{stored_lines}
use Rattle.printing.specs.PrintedTextLaws.{too_long, fitting}
use Rattle.printing.proofs.print.Goals as goal

pub returns-then-not-fits : goal.returns-then-not-fits
returns-then-not-fits c =
    let a = c.args in
    let t = printed a.library.now (stored_lines a.lines.now a.n) in
    too_long t a.out.now (leb-false (length t) (length a.out.now) (sym c.fits.ensures ∙ c.if-not-fits.true))

pub put_all-requires : goal.put_all-requires
put_all-requires c =
    let a = c.args in
    let t = printed a.library.now (stored_lines a.lines.now a.n) in
    leb-true (length t) (length a.out.now) (sym c.fits.ensures ∙ c.if-not-fits.false)

pub returns : goal.returns
returns c =
    let a = c.args in
    let t = printed a.library.now (stored_lines a.lines.now a.n) in
    fitting t a.out.now (leb-true (length t) (length a.out.now) (sym c.fits.ensures ∙ c.if-not-fits.false)) c.put_all.ensures
