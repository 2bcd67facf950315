-- `type_end`: the record's frame says it. Assumes nothing.
use Rattle.std.specs.Prelude.{◌+◌, ◌≡◌}
use Rattle.std.proofs.Common.{sym, ◌∙◌}
use native.Mathlib.Omega.{arith}
use Rattle.omf51.specs.Reader.{read}
use Rattle.omf51.specs.Record.{expected_by}
use Rattle.omf51.proofs.RecordLaws.{read_by}
use Rattle.omf51.proofs.Exits.{handed_on}
use Rattle.omf51.specs.Expected.{one_type}
use Rattle.library.specs.ReadingLaws.{type-known}
use Rattle.library.proofs.file.type_end.Goals as goal
use Rattle.library.proofs.file.type_end.Goals.{In-Some}

framed : (c : In-Some) → let a = c.args in expected_by a.edition a.library.now (one_type a.kind) a.at ≡ read c.in-Some.f (c.in-Some.f.end + 1)
framed c =
    sym (rw c.in-Some.is at c.in_ok-f.ensures)

pub returns-in_err-f : goal.returns-in_err-f
returns-in_err-f c =
    let a = c.args in
    handed_on c.from_residual.result c.from_residual.ensures.1 ∙ sym (type-known a.edition a.library.now a.kind a.at (sym c.in_err-f.ensures))

pub returns-in_default : goal.returns-in_default
returns-in_default c =
    let a = c.args in
    sym (type-known a.edition a.library.now a.kind a.at (sym (rw c.in_default.is at c.in_ok-f.ensures)))

pub overflow_add-result : goal.overflow_add-result
overflow_add-result c =
    let a = c.args in
    omega (arith, read_by a.library.now (one_type a.kind) a.at a.edition (framed (goal.at.overflow_add-result c).In-Some))

pub returns : goal.returns
returns c =
    let a = c.args in
    sym (type-known a.edition a.library.now a.kind a.at (framed (goal.at.returns c).In-Some))
