-- `next_content`: from record to record. Assumes nothing.
use Rattle.std.specs.Prelude.{suc, ◌+◌, ◌-◌, ◌≡◌, length, Some, Ok}
use Rattle.std.proofs.Common.{refl, sym, subst, ◌∙◌, rules}
use native.Mathlib.Omega.{arith}
use Rattle.omf51.specs.declared.Edition.TheVariants.{One}
use Rattle.omf51.specs.Reader.{read}
use Rattle.omf51.specs.Record.{expected}
use Rattle.omf51.proofs.RecordLaws.{Fits, read_fits}
use Rattle.omf51.specs.Module.{fills, sections_at}
use Rattle.omf51.specs.Ends.{end_of}
use Rattle.library.specs.EndLaws.{Halts}
use Rattle.library.specs.SectionLaws.{section-moved}
use Rattle.library.specs.items.ContentLaws.{Absent, seek-done, seek-item, seek-on, section-passed}
use Rattle.omf51.specs.Expected.{frame_read}
use Rattle.library.proofs.items.contents.next_content.Invariants.{Inv}
use Rattle.library.proofs.items.contents.next_content.Goals as goal
use Rattle.library.proofs.items.contents.next_content.Goals.{In-Ok-Some, In-Ok-Some-record_at}

passes : (c : In-Ok-Some) → end_of (sections_at c.args.library.now c.loop-next.at) ≡ Ok (Some c.in-Ok-Some.next)
passes c =
    sym (rw c.in-Ok-Some.field-0-is at c.in-Ok-Some.ensures)

framed : (c : In-Ok-Some-record_at) → let f = c.in-Ok-Some-record_at.f in expected c.args.library.now fills c.loop-next.at ≡ read f (f.end + 1)
framed c =
    sym (rw c.in-Ok-Some-record_at.field-0-is at c.in-Ok-Some-record_at.ensures)

fits : (c : In-Ok-Some-record_at) → let f = c.in-Ok-Some-record_at.f in Fits c.args.library.now c.loop-next.at f (f.end + 1)
fits c =
    read_fits c.args.library.now fills c.loop-next.at (framed c)

pub loop-next-init : goal.loop-next-init
loop-next-init c =
    record { count = suc (length c.args.library.now); enough = omega arith; same = refl }

pub content_of-content-requires : goal.content_of-content-requires
content_of-content-requires c =
    let p = goal.at.content_of-content-requires c in
    ((section-passed c.args.library.now c.loop-next.at (framed p.In-Ok-Some-record_at) (passes p.In-Ok-Some)).room, omega (arith, fits p.In-Ok-Some-record_at))

pub overflow_add-f : goal.overflow_add-f
overflow_add-f c =
    omega (arith, fits (goal.at.overflow_add-f c).In-Ok-Some-record_at)

pub returns-in-Ok-Some-record_at : goal.returns-in-Ok-Some-record_at
returns-in-Ok-Some-record_at c =
    let l = c.loop-next in
    let p = goal.at.returns-in-Ok-Some-record_at c in
    rw (c.content_of-content.ensures, c.start-fixups.ensures)
    (sym (seek-item l.invariant.count c.args.library.now l.at (omega (arith, l.invariant.enough)) (passes p.In-Ok-Some) (framed p.In-Ok-Some-record_at)) ∙ l.invariant.same)

pub loop-next-smaller-in-Ok-Some : goal.loop-next-smaller-in-Ok-Some
loop-next-smaller-in-Ok-Some c =
    omega (arith, section-moved One c.args.library.now c.loop-next.at (passes (goal.at.loop-next-smaller-in-Ok-Some c).In-Ok-Some))

pub loop-next-smaller : goal.loop-next-smaller
loop-next-smaller c =
    omega (arith, section-moved One c.args.library.now c.loop-next.at (passes (goal.at.loop-next-smaller c).In-Ok-Some))

-- on from a record that is no content
onward : (c : In-Ok-Some) → Absent (expected c.args.library.now fills c.loop-next.at) → Inv c.args.library.now c.args.from c.in-Ok-Some.next
onward c none =
    let l = c.loop-next in
    let m = section-moved One c.args.library.now l.at (passes c) in
    record {
      count = l.invariant.count - 1;
      enough = omega (arith, m, l.invariant.enough);
      same = sym (seek-on l.invariant.count c.args.library.now l.at (omega (arith, l.invariant.enough)) (passes c) none) ∙ l.invariant.same;
    }

pub loop-next-preserved-in-Ok-Some : goal.loop-next-preserved-in-Ok-Some
loop-next-preserved-in-Ok-Some c =
    let none : Absent (frame_read c.record_at.result) = search rules in
    onward (goal.at.loop-next-preserved-in-Ok-Some c).In-Ok-Some (subst Absent c.record_at.ensures none)

pub loop-next-preserved : goal.loop-next-preserved
loop-next-preserved c =
    let none : Absent (frame_read c.record_at.result) = search rules in
    onward (goal.at.loop-next-preserved c).In-Ok-Some (subst Absent c.record_at.ensures none)

pub returns-in_default : goal.returns-in_default
returns-in_default c =
    let l = c.loop-next in
    let none : Halts c.section_end.result = search rules in
    sym (seek-done l.invariant.count c.args.library.now l.at (omega (arith, l.invariant.enough)) (subst Halts c.section_end.ensures none)) ∙ l.invariant.same

pub returns-in_default-2 : goal.returns-in_default-2
returns-in_default-2 c =
    let l = c.loop-next in
    let none : Halts c.section_end.result = search rules in
    sym (seek-done l.invariant.count c.args.library.now l.at (omega (arith, l.invariant.enough)) (subst Halts c.section_end.ensures none)) ∙ l.invariant.same
