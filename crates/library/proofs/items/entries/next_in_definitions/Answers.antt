-- `next_in_definitions`: in the cursor's body, or in the next record, or else as `next_entry` goes on from there. Assumes nothing.
use Rattle.std.specs.Prelude.{suc, ◌≡◌, length, None, Ok}
use Rattle.std.proofs.Common.{sym, ap, subst, ◌∙◌, rules}
use native.Mathlib.Omega.{arith}
use Rattle.omf51.specs.declared.entry.Entries.TheVariants.{Definitions}
use Rattle.omf51.specs.declared.Edition.TheVariants.{One}
use Rattle.library.specs.EndLaws.{Halts}
use Rattle.library.specs.PassLaws.{record-moved}
use Rattle.library.specs.items.Walk.{next_entry}
use Rattle.library.specs.items.WalkLaws.{step-item, step-done, next-record}
use Rattle.library.proofs.items.entries.next_in_definitions.Goals as goal
use Rattle.library.proofs.items.entries.next_in_definitions.Goals.{After-entered-c}

-- in the record that follows
moved : (c : After-entered-c) → let a = c.args in next_entry Definitions a.library.now a.from ≡ next_entry Definitions a.library.now c.entered-c.result
moved c =
    let a = c.args in
    next-record Definitions a.library.now a.from (subst Halts c.in_default.ensures tt) (sym (rw c.in-Ok-Some.field-0-is at c.in-Ok-Some.ensures))
    ∙ ap (next_entry Definitions a.library.now) (sym c.entered-c.ensures)

pub returns-in-Some : goal.returns-in-Some
returns-in-Some c =
    let a = c.args in
    rw c.moved.ensures (sym (step-item (suc (length a.library.now)) Definitions a.library.now a.from (omega arith) (sym c.in-Some.ensures)))

pub returns-in_default-record_end : goal.returns-in_default-record_end
returns-in_default-record_end c =
    let a = c.args in
    let none : c.record_end.result ≡ Ok None = search rules in
    sym (step-done (suc (length a.library.now)) Definitions a.library.now a.from (omega arith) (subst Halts c.in_default.ensures tt) (subst Halts (rw none at c.record_end.ensures) tt))

pub returns-in_default-record_end-2 : goal.returns-in_default-record_end-2
returns-in_default-record_end-2 c =
    let a = c.args in
    sym (step-done (suc (length a.library.now)) Definitions a.library.now a.from (omega arith) (subst Halts c.in_default.ensures tt)
    (subst Halts (rw c.in_default-record_end.is at c.record_end.ensures) tt))

pub entered-c-requires : goal.entered-c-requires
entered-c-requires c =
    let a = c.args in
    record-moved One Definitions a.library.now a.from.next (sym (rw c.in-Ok-Some.field-0-is at c.in-Ok-Some.ensures))

pub returns-in-Some-entry_in : goal.returns-in-Some-entry_in
returns-in-Some-entry_in c =
    let a = c.args in
    rw c.moved-in-Some-entry_in.ensures
    (sym (moved (goal.at.returns-in-Some-entry_in c).After-entered-c
    ∙ step-item (suc (length a.library.now)) Definitions a.library.now c.entered-c.result (omega arith) (sym c.in-Some-entry_in.ensures)))

pub returns : goal.returns
returns c =
    c.next_entry.ensures ∙ sym (moved (goal.at.returns c).After-entered-c)
