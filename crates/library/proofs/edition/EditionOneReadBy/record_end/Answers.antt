-- `record_end` in edition 1: the frame, then the first entry. Assumes nothing.
use Rattle.std.specs.Prelude.{◌+◌, ◌≡◌, true}
use Rattle.std.proofs.Common.{sym, ap, ◌∙◌}
use native.Mathlib.Omega.{arith}
use Rattle.omf51.specs.declared.Edition.TheVariants.{One}
use Rattle.omf51.specs.Reader.{read}
use Rattle.omf51.specs.Record.{expected_by}
use Rattle.omf51.proofs.RecordLaws.{Fits, read_by, first-expected}
use Rattle.omf51.proofs.Exits.{handed_on}
use Rattle.omf51.specs.Expected.{allows}
use Rattle.omf51.specs.Ends.{entry_end}
use Rattle.library.specs.Passes.{allowed_for, holds, record_end}
use Rattle.library.specs.EndLaws.{own_end, used-own, own-none, own-some}
use Rattle.library.specs.PassLaws.{record-halts, record-refuses, record-holds, record-skipped}
use Rattle.library.proofs.edition.EditionOneReadBy.record_end.Goals as goal
use Rattle.library.proofs.edition.EditionOneReadBy.record_end.Goals.{In-Some, else-holds-via-then-holds+else-is_none, else-holds-via-else-holds}

framed : (c : In-Some) → let a = c.args in expected_by One a.library.now (allows (allowed_for a.what)) a.at ≡ read c.in-Some.f (c.in-Some.f.end + 1)
framed c =
    let a = c.args in ap (λ w. expected_by One a.library.now (allows w) a.at) (sym c.allowed_for.ensures) ∙ first-expected a.library.now _ a.at ∙ sym (rw c.in-Some.is at c.in_ok-f.ensures)

fits : (c : In-Some) → let a = c.args in Fits a.library.now a.at c.in-Some.f (c.in-Some.f.end + 1)
fits c =
    let a = c.args in read_by a.library.now (allows (allowed_for a.what)) a.at One (framed c)

-- the record's own end, by its first entry
owned : (c : In-Some) → holds c.args.what c.in-Some.f.kind ≡ true
    → let a = c.args in let f = c.in-Some.f in record_end a.what a.library.now a.at ≡ own_end (f.end + 1) (entry_end a.what a.library.now f f.body)
owned c h =
    let a = c.args in
    let f = c.in-Some.f in
    record-holds One a.what a.library.now a.at (framed c) h ∙ used-own f.end (f.end + 1) (entry_end a.what a.library.now f f.body)

pub returns-in_err-f : goal.returns-in_err-f
returns-in_err-f c =
    let a = c.args in
    handed_on c.from_residual.result c.from_residual.ensures.1
    ∙ sym (record-refuses One a.what a.library.now a.at (ap (λ w. expected_by One a.library.now (allows w) a.at) (sym c.allowed_for.ensures) ∙ first-expected a.library.now _ a.at ∙ sym c.in_err-f.ensures))

pub returns-in_default : goal.returns-in_default
returns-in_default c =
    let a = c.args in
    sym (record-halts One a.what a.library.now a.at (ap (λ w. expected_by One a.library.now (allows w) a.at) (sym c.allowed_for.ensures) ∙ first-expected a.library.now _ a.at ∙ sym (rw c.in_default.is at c.in_ok-f.ensures)))

pub returns-then-is_none : goal.returns-then-is_none
returns-then-is_none c =
    let next = c.in-Some.f.end + 1 in
    sym (owned (goal.at.returns-then-is_none c).In-Some (sym c.if-holds.ensures) ∙ ap (own_end next) (sym c.entry_end.ensures) ∙ own-none next c.entry_end.result c.if-is_none.ensures)

pub overflow_add-result : goal.overflow_add-result
overflow_add-result c =
    omega (arith, fits (goal.at.overflow_add-result c).In-Some)

pub returns : goal.returns
returns c =
    let a = c.args in
    let next = c.in-Some.f.end + 1 in
    let p = (goal.at.returns c).In-Some in
    elim c.else-holds.branch [
      | else-holds-via-then-holds+else-is_none w ↦ sym (owned p (sym w.if-holds.ensures) ∙ ap (own_end next) (sym w.entry_end.ensures) ∙ own-some next w.entry_end.result w.if-is_none.ensures)
      | else-holds-via-else-holds w ↦ sym (record-skipped One a.what a.library.now a.at (framed p) (sym w.if-holds.ensures))
    ]
