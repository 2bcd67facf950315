-- Refusals 10 to 13 by what an id leads to.
use Rattle.std.specs.Prelude.{◌+◌, Bool, true, false, not, ◌&&◌, eqb, ltb, is_some, Some, None, Ok, Err, Result, if◌then◌else◌}
use Rattle.std.specs.Prelude.{Option as Optional}
use Rattle.std.proofs.Math.Option.{Option, none, some}
use Rattle.lent.specs.declared.refusal.Refusal.{Refusal}
use Rattle.lent.specs.declared.refusal.Refusal.TheVariants.{UnknownKind, UnknownBlock, ContentPastSegment, NoKeptSegment}
use Rattle.lent.specs.Choice.{when}
use Rattle.omf51.specs.declared.Content.{Content}
use Rattle.omf51.specs.declared.Fixup.{Fixup}
use Rattle.module_ids.specs.declared.Mark.{Mark}
use Rattle.module_ids.specs.declared.Mark.TheVariants.{Missing, Other, Code}
use Rattle.module_ids.specs.declared.KeptSegment.{KeptSegment}
use Rattle.module_ids.specs.declared.IdRow.{IdRow}

abbrev pub is_code_mark : Mark → Bool
is_code_mark Missing = false
is_code_mark Other = false
is_code_mark Code = true

abbrev pub passes_kept : Content → Optional KeptSegment → Bool
passes_kept c None = false
passes_kept c (Some k) = ltb k.size (c.offset + c.part.len)

unfoldable pub fixup_fault : IdRow → Fixup → Option Refusal
fixup_fault row f =
    if eqb f.block 3 then none
    else if ltb 7 f.kind then some UnknownKind
    else if ltb 3 f.block then some UnknownBlock
    else when (eqb f.block 1 && is_code_mark row.segment && not (is_some row.kept)) NoKeptSegment

unfoldable pub content_fault : IdRow → Content → Option Refusal
content_fault row c = when (passes_kept c row.kept) ContentPastSegment

-- the code's answer
abbrev pub verdict_of : Option Refusal → Result Unit Refusal
verdict_of none = Ok tt
verdict_of (some r) = Err r
