-- What a fixup leaves, by what its id leads to.
use Rattle.std.specs.Prelude.{ℕ, ◌+◌, Bool, false, ◌&&◌, List, [], eqb, Some, None, if◌then◌else◌}
use Rattle.std.specs.Prelude.{Option as Optional}
use Rattle.std.proofs.Math.Option.{Option, none, some}
use Rattle.lent.specs.Lists.{one}
use Rattle.image.specs.declared.fixup.Kind.{Kind}
use Rattle.image.specs.fixup.Target.{kind_of}
use Rattle.omf51.specs.declared.Fixup.{Fixup}
use Rattle.segments.specs.declared.Goal.{Goal}
use Rattle.segments.specs.declared.Reference.{Reference}
use Rattle.segments.specs.Collect.{left, is_none}
use Rattle.module_ids.specs.declared.KeptSegment.{KeptSegment}
use Rattle.module_ids.specs.declared.IdRow.{IdRow}
use Rattle.module_ids.specs.fault.Faults.{is_code_mark, fixup_fault}

abbrev pub code_named : IdRow → Fixup → Bool
code_named row f = if eqb f.block 1 then is_code_mark row.segment else if eqb f.block 2 then is_code_mark row.external else false

abbrev pub place_in : Optional KeptSegment → ℕ
place_in None = 0
place_in (Some k) = k.place

abbrev pub goal_by : IdRow → ℕ → Fixup → Goal
goal_by row number f = if eqb f.block 1 then Goal.Segment (record { 0 = number + place_in row.kept }) else Goal.Name row.name

unfoldable pub leaves_by : IdRow → ℕ → ℕ → Fixup → List Reference
leaves_by row number base f =
    left (is_none (fixup_fault row f) && code_named row f) (kind_of f.kind) (base + f.location) f.offset (goal_by row number f)

-- the code's answers
abbrev pub known_of : Option Kind → Optional Kind
known_of none = None
known_of (some kind) = Some kind

abbrev pub kind_known : ℕ → Optional Kind
kind_known n = known_of (kind_of n)

abbrev pub left_by : Optional Reference → List Reference
left_by (Some r) = one r
left_by None = []
