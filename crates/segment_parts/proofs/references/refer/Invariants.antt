-- `refer` goes from fixup to fixup. The invariant: whoever adds what those that are left leave has added all. Assumes nothing.
use Prim.Native.Nat.{ℕ}
use mathlib.Core.Path.{◌≡◌}
use mathlib.Core.List.{List}
use lib.ListN.{length}
use Rattle.lent.specs.Lists.{joined}
use Rattle.tables.specs.declared.fill.Fill.{Fill}
use Rattle.tables.specs.fill.FilledRows.{Leads}
use Rattle.omf51.specs.declared.Definition.{Definition}
use Rattle.library.specs.declared.items.Cursor.{Cursor}
use Rattle.library.specs.items.Left.{fixups_left}
use Rattle.segments.specs.SegmentLayouts.{reference_layout}
use Rattle.module_ids.specs.Noted.{Tells}
use Rattle.segment_parts.specs.AddedReferences.{leaves_in}
use Rattle.segment_parts.proofs.references.refer.Given as goal

pub record Inv (library table : List ℕ) (number base : ℕ) (m₀ : List ℕ) (c₀ : Cursor) (f₀ : Fill) (m : List ℕ) (c : Cursor) (f : Fill) : Type 0 where
  pub long : length m ≡ length m₀
  pub leads : (ds : List Definition) → Tells ds table
      → Leads reference_layout (joined (leaves_in ds number base) (fixups_left library c)) m f (joined (leaves_in ds number base) (fixups_left library c₀)) m₀ f₀

abbrev pub invariant-loop-fixup : goal.invariant-loop-fixup
invariant-loop-fixup l =
    Inv l.library l.table l.number l.base l.initial.m l.initial.c l.initial.f l.m l.c l.f

abbrev pub decreases-loop-fixup : goal.decreases-loop-fixup
decreases-loop-fixup l =
    length (fixups_left l.library l.c)
