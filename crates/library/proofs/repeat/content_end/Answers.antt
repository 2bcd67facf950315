-- `content_end`: the record, room for its id and offset, and then its fixups. Assumes nothing.
use Rattle.std.specs.Prelude.{◌+◌, ◌≡◌}
use Rattle.std.proofs.Common.{sym, ◌∙◌}
use native.Mathlib.Omega.{arith}
use Rattle.omf51.specs.Reader.{read}
use Rattle.omf51.specs.Record.{expected_by}
use Rattle.omf51.proofs.RecordLaws.{Fits, read_by}
use Rattle.omf51.proofs.Exits.{handed_on}
use Rattle.omf51.specs.Module.{fills}
use Rattle.library.specs.SectionLaws.{content-halts, content-refuses, content-cut, content-whole}
use Rattle.library.proofs.repeat.content_end.Given as given
use Rattle.library.proofs.repeat.content_end.Goals as goal
use Rattle.library.proofs.repeat.content_end.Goals.{In-Some}

framed : (g : given.Over) (c : In-Some g) → let a = c.args in expected_by g.E.ReadBy.edition a.library.now fills a.at ≡ read c.in-Some.f (c.in-Some.f.end + 1)
framed g c =
    let a = c.args in sym (rw c.in-Some.is at c.in_ok-f.ensures)

fits : (g : given.Over) (c : In-Some g) → let a = c.args in Fits a.library.now a.at c.in-Some.f (c.in-Some.f.end + 1)
fits g c =
    let a = c.args in read_by a.library.now fills a.at g.E.ReadBy.edition (framed g c)

pub returns-in_err-f : goal.returns-in_err-f
returns-in_err-f g c =
    let a = c.args in
    handed_on c.from_residual.result c.from_residual.ensures.1 ∙ sym (content-refuses g.E.ReadBy.edition a.library.now a.at (sym c.in_err-f.ensures))

pub returns-in_default : goal.returns-in_default
returns-in_default g c =
    let a = c.args in
    sym (content-halts g.E.ReadBy.edition a.library.now a.at (sym (rw c.in_default.is at c.in_ok-f.ensures)))

pub overflow_sub-end : goal.overflow_sub-end
overflow_sub-end g c =
    omega (arith, fits g (goal.at.overflow_sub-end g c).In-Some)

pub returns-then-end-body : goal.returns-then-end-body
returns-then-end-body g c =
    let a = c.args in
    let p = (goal.at.returns-then-end-body g c).In-Some in
    sym (content-cut g.E.ReadBy.edition a.library.now a.at (framed g p) c.id_size.ensures.0 (omega (arith, fits g p)))

pub overflow_add-end : goal.overflow_add-end
overflow_add-end g c =
    omega (arith, fits g (goal.at.overflow_add-end g c).In-Some)

pub returns-in_err-skip : goal.returns-in_err-skip
returns-in_err-skip g c =
    let a = c.args in
    let p = (goal.at.returns-in_err-skip g c).In-Some in
    handed_on c.from_residual-in_err-skip.result c.from_residual-in_err-skip.ensures.1 ∙ c.in_err-skip.ensures
    ∙ sym (content-whole g.E.ReadBy.edition a.library.now a.at (framed g p) c.id_size.ensures.0 (omega (arith, fits g p)))

pub returns : goal.returns
returns g c =
    let a = c.args in
    let p = (goal.at.returns g c).In-Some in
    c.in_ok-skip.ensures ∙ sym (content-whole g.E.ReadBy.edition a.library.now a.at (framed g p) c.id_size.ensures.0 (omega (arith, fits g p)))
