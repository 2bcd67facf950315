-- What stands at a place of the view: an instruction that is shown, or a reason to stop before it.
use Rattle.std.specs.Prelude.{ℕ, ◌+◌, not, List, Result, Ok, Err, eqb, leb, length, if◌then◌else◌}
use Rattle.image.specs.View.{cell_at}
use Rattle.image.specs.declared.fixup.Kind.{Kind}
use Rattle.image.specs.declared.fixup.Kind.TheVariants.{Relative, Word, Inblock}
use Rattle.image.specs.declared.fixup.Rules.TheVariants.{Documented}
use Rattle.image.specs.declared.fixup.Target.{Target}
use Rattle.image.specs.declared.fixup.Target.TheVariants.{At, PastEnd, Withheld}
use Rattle.image.specs.fixup.Target.{passes, shown, target}
use Rattle.opcodes.specs.declared.Leads.{Leads}
use Rattle.opcodes.specs.declared.Leads.TheVariants.{Nowhere, PageJump, PageCall, LongJump, LongCall, ShortJump, LaterJump}
use Rattle.opcodes.specs.Lengths.{length_of, is_return}
use Rattle.opcodes.specs.Leads.{leads_of, place_of}
use Rattle.routine.specs.declared.Row.{Row}
use Rattle.routine.specs.declared.What.{What}
use Rattle.routine.specs.declared.What.TheVariants.{Neither, Call, Jump}
use Rattle.routine.specs.declared.Why.{Why}
use Rattle.routine.specs.declared.step.Shown.{Shown}

-- the address of a target; 0 where there is none
abbrev pub told_by : Target → ℕ
told_by (At t) = t
told_by PastEnd = 0
told_by Withheld = 0

-- the target of the instruction at a place, by rule set 1: that of a reference of a kind, with no fixup's offset, which
-- reads the instruction's bytes from its place on
abbrev pub reference : List ℕ → ℕ → Leads → Kind → ℕ
reference cells at l kind = told_by (target cells Documented (at + place_of l) kind 0)

abbrev pub target_of : List ℕ → ℕ → Leads → ℕ
target_of cells at Nowhere = 0
target_of cells at PageJump = reference cells at PageJump Inblock
target_of cells at PageCall = reference cells at PageCall Inblock
target_of cells at LongJump = reference cells at LongJump Word
target_of cells at LongCall = reference cells at LongCall Word
target_of cells at ShortJump = reference cells at ShortJump Relative
target_of cells at LaterJump = reference cells at LaterJump Relative

-- what an instruction is: a call, a jump, or neither; the first two with their target
abbrev pub what_of : Leads → ℕ → What
what_of Nowhere target = Neither
what_of PageJump target = Jump target
what_of PageCall target = Call target
what_of LongJump target = Jump target
what_of LongCall target = Call target
what_of ShortJump target = Jump target
what_of LaterJump target = Jump target

-- the row of the instruction at a place
abbrev pub row_at : List ℕ → ℕ → Row
row_at cells at =
    let l = leads_of (cell_at cells at) in
    record { address = at; what = what_of l (target_of cells at l) }

-- what stands at a place: past the end, nothing; a withheld opcode; A5h, which the manual reserves; an instruction that
-- passes the end, whatever of it is withheld; one that has withheld bytes; else one that is shown, with the place behind it
unfoldable pub step_at : List ℕ → ℕ → Result Shown Why
step_at cells at =
    let opcode = cell_at cells at in
    let n = length_of opcode in
    if leb (length cells) at then Err Why.End
    else if not (shown cells at 1) then Err Why.Withheld
    else if eqb opcode 0xA5 then Err Why.Reserved
    else if passes cells at n then Err Why.End
    else if not (shown cells at n) then Err Why.Withheld
    else Ok (record { row = row_at cells at; next = at + n; last = is_return opcode })
