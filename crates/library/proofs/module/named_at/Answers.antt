-- `named_at`: the record, then room in its body for the name and what follows it, then that nothing is left over. Assumes
-- nothing.
use Rattle.std.specs.Prelude.{◌+◌, ◌≡◌}
use Rattle.std.proofs.Common.{sym, ◌∙◌}
use native.Mathlib.Omega.{arith}
use Rattle.lent.specs.Parts.{byte_at}
use Rattle.omf51.specs.Reader.{read}
use Rattle.omf51.specs.Record.{expected_by}
use Rattle.omf51.proofs.RecordLaws.{Fits, read_by, record-framed}
use Rattle.omf51.proofs.Exits.{handed_on}
use Rattle.omf51.specs.Entry.{name_with}
use Rattle.omf51.proofs.EntryLaws.{named-cut, named-whole, named-over}
use Rattle.omf51.specs.Expected.{one_type}
use Rattle.library.proofs.module.named_at.Given as given
use Rattle.library.proofs.module.named_at.Goals as goal
use Rattle.library.proofs.module.named_at.Goals.{In-Some, After-from}

framed : (g : given.Over) (c : In-Some g) → let a = c.args in expected_by g.E.ReadBy.edition a.library.now (one_type a.kind) a.at ≡ read c.in-Some.f (c.in-Some.f.end + 1)
framed g c =
    sym (rw c.in-Some.is at c.in_ok-f.ensures)

fits : (g : given.Over) (c : In-Some g) → let a = c.args in Fits a.library.now a.at c.in-Some.f (c.in-Some.f.end + 1)
fits g c =
    let a = c.args in read_by a.library.now (one_type a.kind) a.at g.E.ReadBy.edition (framed g c)

len : (g : given.Over) (c : After-from g) → c.from-len.result ≡ byte_at c.args.library.now c.in-Some.f.body
len g c =
    c.from-len.ensures ∙ c.byte_at.ensures

pub returns-in_err-f : goal.returns-in_err-f
returns-in_err-f g c =
    let a = c.args in
    rw (handed_on c.from_residual.result c.from_residual.ensures.1)
    (sym (record-framed g.E.ReadBy.edition a.library.now (one_type a.kind) (name_with a.more a.library.now) a.at (sym c.in_err-f.ensures)))

pub returns-in_default : goal.returns-in_default
returns-in_default g c =
    let a = c.args in
    sym (record-framed g.E.ReadBy.edition a.library.now (one_type a.kind) (name_with a.more a.library.now) a.at (sym (rw c.in_default.is at c.in_ok-f.ensures)))

pub overflow_sub-end : goal.overflow_sub-end
overflow_sub-end g c =
    omega (arith, fits g (goal.at.overflow_sub-end g c).In-Some)

pub returns-then-end-body : goal.returns-then-end-body
returns-then-end-body g c =
    let a = c.args in
    let p = goal.at.returns-then-end-body g c in
    sym (named-cut g.E.ReadBy.edition a.library.now (one_type a.kind) a.more a.at (framed g p.In-Some) (len g p.After-from) (omega (arith, c.from.ensures, fits g p.In-Some)))

pub returns-then-leaves_over : goal.returns-then-leaves_over
returns-then-leaves_over g c =
    let a = c.args in
    let p = goal.at.returns-then-leaves_over g c in
    sym (named-over g.E.ReadBy.edition a.library.now (one_type a.kind) a.more a.at (framed g p.In-Some) (len g p.After-from) (omega (arith, c.from.ensures)) (omega (arith, fits g p.In-Some))
    (sym c.leaves_over.ensures ∙ c.if-leaves_over.true))

pub overflow_add-result-2 : goal.overflow_add-result-2
overflow_add-result-2 g c =
    omega (arith, fits g (goal.at.overflow_add-result-2 g c).In-Some)

pub returns : goal.returns
returns g c =
    let a = c.args in
    let p = goal.at.returns g c in
    sym (named-whole g.E.ReadBy.edition a.library.now (one_type a.kind) a.more a.at (framed g p.In-Some) (len g p.After-from) (omega (arith, c.from.ensures)) (omega (arith, fits g p.In-Some))
    (sym c.leaves_over.ensures ∙ c.if-leaves_over.false))
