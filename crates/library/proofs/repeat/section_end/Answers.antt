-- `section_end`: the type byte tells a content from a record that is skipped. Assumes nothing.
use Rattle.std.specs.Prelude.{◌+◌, ◌≡◌, false}
use Rattle.std.proofs.Common.{sym, ap, ◌∙◌}
use native.Mathlib.Omega.{arith}
use Rattle.omf51.specs.Reader.{read}
use Rattle.omf51.specs.Record.{expected_by}
use Rattle.lent.specs.Parts.{byte_at}
use Rattle.omf51.proofs.RecordLaws.{read_by}
use Rattle.omf51.proofs.Exits.{handed_on}
use Rattle.omf51.specs.Module.{fills, is_idle}
use Rattle.library.specs.SectionLaws.{section-content, section-idle}
use Rattle.library.proofs.repeat.section_end.Given as given
use Rattle.library.proofs.repeat.section_end.Goals as goal
use Rattle.library.proofs.repeat.section_end.Goals.{In-Some, Else-fills}

framed : (g : given.Over) (c : In-Some g) → let a = c.args in expected_by g.E.ReadBy.edition a.library.now is_idle a.at ≡ read c.in-Some.f (c.in-Some.f.end + 1)
framed g c =
    let a = c.args in sym (rw c.in-Some.is at c.in_ok-f.ensures)

other : (g : given.Over) (c : Else-fills g) → fills (byte_at c.args.library.now c.args.at) ≡ false
other g c =
    ap fills (sym c.byte_at.ensures) ∙ sym c.fills.ensures ∙ c.if-fills.false

pub returns-then-fills : goal.returns-then-fills
returns-then-fills g c =
    let a = c.args in
    c.content_end.ensures ∙ sym (section-content g.E.ReadBy.edition a.library.now a.at (ap fills (sym c.byte_at.ensures) ∙ sym c.fills.ensures ∙ c.if-fills.true))

pub returns-in_err-f : goal.returns-in_err-f
returns-in_err-f g c =
    let a = c.args in
    handed_on c.from_residual.result c.from_residual.ensures.1
    ∙ sym (section-idle g.E.ReadBy.edition a.library.now a.at (other g (goal.at.returns-in_err-f g c).Else-fills) (sym c.in_err-f.ensures))

pub returns-in_default : goal.returns-in_default
returns-in_default g c =
    let a = c.args in
    sym (section-idle g.E.ReadBy.edition a.library.now a.at (other g (goal.at.returns-in_default g c).Else-fills) (sym (rw c.in_default.is at c.in_ok-f.ensures)))

pub overflow_add-result : goal.overflow_add-result
overflow_add-result g c =
    let a = c.args in
    omega (arith, read_by a.library.now is_idle a.at g.E.ReadBy.edition (framed g (goal.at.overflow_add-result g c).In-Some))

pub returns : goal.returns
returns g c =
    let a = c.args in
    let p = goal.at.returns g c in
    sym (section-idle g.E.ReadBy.edition a.library.now a.at (other g p.Else-fills) (framed g p.In-Some))
