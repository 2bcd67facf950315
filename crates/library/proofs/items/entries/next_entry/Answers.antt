-- `next_entry`: from body to body. Assumes nothing.
use Rattle.std.specs.Prelude.{suc, ◌-◌, ◌≡◌, length, None, Ok}
use Rattle.std.proofs.Common.{refl, sym, subst, ◌∙◌, rules}
use native.Mathlib.Omega.{arith}
use Rattle.omf51.specs.declared.Edition.TheVariants.{One}
use Rattle.library.specs.EndLaws.{Halts}
use Rattle.library.specs.PassLaws.{record-moved}
use Rattle.library.specs.items.WalkLaws.{step-item, step-record, step-done}
use Rattle.library.proofs.items.entries.next_entry.Goals as goal

pub loop-end-init : goal.loop-end-init
loop-end-init c =
    record { count = suc (length c.args.library.now); enough = omega arith; same = refl }

pub returns-in-Some : goal.returns-in-Some
returns-in-Some c =
    let a = c.args in
    let l = c.loop-end in
    rw c.moved.ensures
    (sym (step-item l.invariant.count a.what a.library.now l.c (omega (arith, l.invariant.enough)) (sym c.in-Some.ensures)) ∙ l.invariant.same)

pub returns-in_default-record_end : goal.returns-in_default-record_end
returns-in_default-record_end c =
    let a = c.args in
    let l = c.loop-end in
    let none : c.record_end.result ≡ Ok None = search rules in
    sym (step-done l.invariant.count a.what a.library.now l.c (omega (arith, l.invariant.enough)) (subst Halts c.in_default.ensures tt) (subst Halts (rw none at c.record_end.ensures) tt)) ∙ l.invariant.same

pub returns-in_default-record_end-2 : goal.returns-in_default-record_end-2
returns-in_default-record_end-2 c =
    let a = c.args in
    let l = c.loop-end in
    sym (step-done l.invariant.count a.what a.library.now l.c (omega (arith, l.invariant.enough)) (subst Halts c.in_default.ensures tt) (subst Halts (rw c.in_default-record_end.is at c.record_end.ensures) tt)) ∙ l.invariant.same

pub entered-c-requires : goal.entered-c-requires
entered-c-requires c =
    let a = c.args in
    record-moved One a.what a.library.now c.loop-end.c.next (sym (rw c.in-Ok-Some.field-0-is at c.in-Ok-Some.ensures))

pub loop-end-smaller : goal.loop-end-smaller
loop-end-smaller c =
    let a = c.args in
    rw c.entered-c.ensures (omega (arith, record-moved One a.what a.library.now c.loop-end.c.next (sym (rw c.in-Ok-Some.field-0-is at c.in-Ok-Some.ensures))))

pub loop-end-preserved : goal.loop-end-preserved
loop-end-preserved c =
    let a = c.args in
    let l = c.loop-end in
    let e = sym (rw c.in-Ok-Some.field-0-is at c.in-Ok-Some.ensures) in
    let m = record-moved One a.what a.library.now l.c.next e in
    rw c.entered-c.ensures (record {
      count = l.invariant.count - 1;
      enough = omega (arith, m, l.invariant.enough);
      same = sym (step-record l.invariant.count a.what a.library.now l.c (omega (arith, l.invariant.enough)) (subst Halts c.in_default.ensures tt) e) ∙ l.invariant.same;
    })
