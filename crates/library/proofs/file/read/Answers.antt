-- `read`: the first byte tells a 2Ch library from bare modules. Assumes nothing.
use Rattle.std.specs.Prelude.{◌+◌, ◌≡◌}
use Rattle.std.proofs.Common.{sym, ◌∙◌}
use native.Mathlib.Omega.{arith}
use Rattle.lent.specs.Parts.{byte_at}
use Rattle.omf51.specs.Reader.{read}
use Rattle.omf51.specs.Record.{expected_by}
use Rattle.omf51.proofs.RecordLaws.{read_by}
use Rattle.omf51.proofs.Exits.{handed_on}
use Rattle.omf51.specs.Expected.{one_type}
use Rattle.library.specs.ReadingLaws.{bare-known, library-read, library-halts, library-refuses}
use Rattle.library.proofs.file.read.Goals as goal
use Rattle.library.proofs.file.read.Goals.{Else-byte_at-eq44, Then-byte_at-eq44, In-Some}

is : (c : Then-byte_at-eq44) → byte_at c.args.library.now 0 ≡ 0x2c
is c =
    sym c.byte_at.ensures ∙ c.if-byte_at-eq44.true

is-not : (c : Else-byte_at-eq44) → byte_at c.args.library.now 0 ≡ 0x2c → ⊥
is-not c e =
    c.if-byte_at-eq44.false (c.byte_at.ensures ∙ e)

framed : (c : In-Some) → let a = c.args in expected_by a.edition a.library.now (one_type 0x2c) 0 ≡ read c.in-Some.f (c.in-Some.f.end + 1)
framed c =
    sym (rw c.in-Some.is at c.in_ok-f.ensures)

pub returns-in_err-f : goal.returns-in_err-f
returns-in_err-f c =
    let a = c.args in
    handed_on c.from_residual.result c.from_residual.ensures.1
    ∙ sym (library-refuses a.edition a.library.now (is (goal.at.returns-in_err-f c).Then-byte_at-eq44) (sym c.in_err-f.ensures))

pub returns-in_default : goal.returns-in_default
returns-in_default c =
    let a = c.args in
    sym (library-halts a.edition a.library.now (is (goal.at.returns-in_default c).Then-byte_at-eq44) (sym (rw c.in_default.is at c.in_ok-f.ensures)))

pub overflow_add-f : goal.overflow_add-f
overflow_add-f c =
    let a = c.args in
    omega (arith, read_by a.library.now (one_type 0x2c) 0 a.edition (framed (goal.at.overflow_add-f c).In-Some))

pub returns-then-byte_at-eq44 : goal.returns-then-byte_at-eq44
returns-then-byte_at-eq44 c =
    let a = c.args in
    let p = goal.at.returns-then-byte_at-eq44 c in
    c.library_from.ensures ∙ sym (library-read a.edition a.library.now (is p.Then-byte_at-eq44) (framed p.In-Some))

pub returns-in_err-modules : goal.returns-in_err-modules
returns-in_err-modules c =
    let a = c.args in
    handed_on c.from_residual-in_err-modules.result c.from_residual-in_err-modules.ensures.1
    ∙ sym (bare-known a.edition a.library.now (is-not (goal.at.returns-in_err-modules c).Else-byte_at-eq44) (sym c.in_err-modules.ensures))

pub returns : goal.returns
returns c =
    let a = c.args in
    c.used_reading.ensures ∙ sym (bare-known a.edition a.library.now (is-not (goal.at.returns c).Else-byte_at-eq44) (sym c.in_ok-modules.ensures))
