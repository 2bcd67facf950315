-- `read_stretch` reads the number before the colon, then the number behind it. Assumes nothing.
use Rattle.std.proofs.Common.{length, refl, sym, ◌∙◌}
use Rattle.std.proofs.lemmas.Result.{err_from_is_err_and}
use borrow.Author.Tests.{le-leb}
use Rattle.command.specs.Stretches.{colon_in, stretch_read}
use Rattle.command.specs.StretchLaws.{stretch-of, colon-none, colon-some}
use Rattle.command.proofs.stretch.read_stretch.Goals as goal

pub returns-in_default : goal.returns-in_default
unfolding stretch_read
returns-in_default c =
    let word = c.args.word.now in
    rw (c.at.ensures, le-leb (length word) (colon_in word) (colon-none word (sym c.colon.ensures ∙ c.in_default.is)))

pub returns-in_err-start : goal.returns-in_err-start
returns-in_err-start c =
    let p = err_from_is_err_and c.from_residual.result c.from_residual.ensures.1 in
    let at = colon-some c.args.word.now c.in-Some.at (sym c.colon.ensures ∙ c.in-Some.is) in
    rw (p.1, p.2) (stretch-of c.args.word.now c.args.i at.0 at.1 (sym c.in_err-start.was ∙ c.read_number.ensures) refl)

pub returns-in_err-len : goal.returns-in_err-len
returns-in_err-len c =
    let p = err_from_is_err_and c.from_residual-in_err-len.result c.from_residual-in_err-len.ensures.1 in
    let at = colon-some c.args.word.now c.in-Some.at (sym c.colon.ensures ∙ c.in-Some.is) in
    rw (p.1, p.2)
    (stretch-of c.args.word.now c.args.i at.0 at.1 (sym c.in_ok-start.was ∙ c.read_number.ensures) (sym c.in_err-len.was ∙ c.read_number-2.ensures))

pub returns : goal.returns
returns c =
    let at = colon-some c.args.word.now c.in-Some.at (sym c.colon.ensures ∙ c.in-Some.is) in
    stretch-of c.args.word.now c.args.i at.0 at.1 (sym c.in_ok-start.was ∙ c.read_number.ensures) (sym c.in_ok-len.was ∙ c.read_number-2.ensures)
