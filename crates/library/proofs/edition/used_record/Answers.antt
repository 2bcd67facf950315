-- `used_record`: the frame, then the entries of its body, and whether they use it up. Assumes nothing.
use Rattle.std.specs.Prelude.{◌+◌, ◌≤◌, ◌≡◌, length, true, Ok}
use Rattle.std.proofs.Common.{sym, ap, ◌∙◌}
use native.Mathlib.Omega.{arith}
use Rattle.omf51.specs.declared.Edition.TheVariants.{Two}
use Rattle.omf51.specs.Reader.{read}
use Rattle.omf51.specs.Record.{expected_by, leaves_over}
use Rattle.omf51.proofs.RecordLaws.{Fits, read_by}
use Rattle.omf51.proofs.Exits.{handed_on}
use Rattle.omf51.specs.Expected.{allows}
use Rattle.omf51.specs.Ends.{End, entry_end, rest_end}
use Rattle.library.specs.Passes.{allowed_for, holds, record_end_by}
use Rattle.library.specs.BodyLaws.{entries-known}
use Rattle.library.specs.EndLaws.{used_end, then_end}
use Rattle.library.specs.PassLaws.{record-halts, record-refuses, record-holds, record-skipped}
use Rattle.library.proofs.edition.used_record.Given as given
use Rattle.library.proofs.edition.used_record.Goals as goal
use Rattle.library.proofs.edition.used_record.Goals.{In-Some, then-holds+in-Some-entry_end+else-leaves_over, else-holds}

framed : (g : given.Over) (c : In-Some g) → let a = c.args in expected_by Two a.library.now (allows (allowed_for c.entries_of-what.result)) a.at ≡ read c.in-Some.f (c.in-Some.f.end + 1)
framed g c =
    let a = c.args in ap (λ w. expected_by Two a.library.now (allows w) a.at) (sym c.allowed_for.ensures) ∙ sym (rw c.in-Some.is at c.in_ok-f.ensures)

fits : (g : given.Over) (c : In-Some g) → let a = c.args in Fits a.library.now a.at c.in-Some.f (c.in-Some.f.end + 1)
fits g c =
    let a = c.args in read_by a.library.now (allows (allowed_for c.entries_of-what.result)) a.at Two (framed g c)

-- the record's end, by its first entry and those behind it
entered : (g : given.Over) (c : In-Some g) → holds c.entries_of-what.result c.in-Some.f.kind ≡ true → {x : End} → entry_end c.entries_of-what.result c.args.library.now c.in-Some.f c.in-Some.f.body ≡ x
    → let a = c.args in let f = c.in-Some.f in record_end_by Two c.entries_of-what.result a.library.now a.at ≡ used_end Two f.end (f.end + 1) (then_end (rest_end c.entries_of-what.result a.library.now f) x)
entered g c h q =
    let a = c.args in
    let f = c.in-Some.f in
    let within : f.end ≤ length a.library.now = omega (arith, fits g c) in
    record-holds Two c.entries_of-what.result a.library.now a.at (framed g c) h ∙ ap (used_end Two f.end (f.end + 1)) (entries-known a.library.now f within c.entries_of-what.result q)

pub returns-in_err-f : goal.returns-in_err-f
returns-in_err-f g c =
    let a = c.args in
    handed_on c.from_residual.result c.from_residual.ensures.1
    ∙ sym (record-refuses Two c.entries_of-what.result a.library.now a.at (ap (λ w. expected_by Two a.library.now (allows w) a.at) (sym c.allowed_for.ensures) ∙ sym c.in_err-f.ensures))
    ∙ ap (λ w. record_end_by Two w a.library.now a.at) c.entries_of-what.ensures

pub returns-in_default : goal.returns-in_default
returns-in_default g c =
    let a = c.args in
    sym (record-halts Two c.entries_of-what.result a.library.now a.at (ap (λ w. expected_by Two a.library.now (allows w) a.at) (sym c.allowed_for.ensures) ∙ sym (rw c.in_default.is at c.in_ok-f.ensures)))
    ∙ ap (λ w. record_end_by Two w a.library.now a.at) c.entries_of-what.ensures

pub returns-in_default-entry_end : goal.returns-in_default-entry_end
returns-in_default-entry_end g c =
    let a = c.args in
    sym (entered g (goal.at.returns-in_default-entry_end g c).In-Some (sym c.holds.ensures ∙ c.if-holds.true) (sym c.entry_end.ensures ∙ ap Ok c.in_default-entry_end.is))
    ∙ ap (λ w. record_end_by Two w a.library.now a.at) c.entries_of-what.ensures

pub rest_end-requires : goal.rest_end-requires
rest_end-requires g c =
    omega (arith, fits g (goal.at.rest_end-requires g c).In-Some)

pub returns-then-leaves_over : goal.returns-then-leaves_over
returns-then-leaves_over g c =
    let a = c.args in
    let f = c.in-Some.f in
    let over : leaves_over Two c.rest_end.result f.end ≡ true = sym c.leaves_over.ensures ∙ c.if-leaves_over.true in
    sym (entered g (goal.at.returns-then-leaves_over g c).In-Some (sym c.holds.ensures ∙ c.if-holds.true) (sym c.entry_end.ensures ∙ ap Ok c.in-Some-entry_end.is)
    ∙ ap (used_end Two f.end (f.end + 1)) (sym c.rest_end.ensures) ∙ rw over)
    ∙ ap (λ w. record_end_by Two w a.library.now a.at) c.entries_of-what.ensures

pub overflow_add-result : goal.overflow_add-result
overflow_add-result g c =
    omega (arith, fits g (goal.at.overflow_add-result g c).In-Some)

pub returns : goal.returns
returns g c =
    let a = c.args in
    let f = c.in-Some.f in
    let p = (goal.at.returns g c).In-Some in
    let named = ap (λ w. record_end_by Two w a.library.now a.at) c.entries_of-what.ensures in
    elim c.if-holds.branch [
      | then-holds+in-Some-entry_end+else-leaves_over w ↦
          sym (entered g p (sym c.holds.ensures ∙ w.if-holds.true) (sym w.entry_end.ensures ∙ ap Ok w.in-Some-entry_end.is)
          ∙ ap (used_end Two f.end (f.end + 1)) (sym w.rest_end.ensures) ∙ rw (sym w.leaves_over.ensures ∙ w.if-leaves_over.false)) ∙ named
      | else-holds w ↦ sym (record-skipped Two c.entries_of-what.result a.library.now a.at (framed g p) (sym c.holds.ensures ∙ w.if-holds.false)) ∙ named
    ]
