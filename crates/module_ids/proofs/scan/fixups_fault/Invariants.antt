-- `fixups_fault` goes from fixup to fixup. The invariant: those that are left decide as all did. Assumes nothing.
use Prim.Native.Nat.{ℕ}
use mathlib.Core.Path.{◌≡◌}
use mathlib.Core.List.{List}
use lib.ListN.{length}
use Rattle.omf51.specs.declared.Definition.{Definition}
use Rattle.library.specs.declared.items.Cursor.{Cursor}
use Rattle.library.specs.items.Left.{fixups_left}
use Rattle.module_ids.specs.Noted.{Tells}
use Rattle.module_ids.specs.fault.Scan.{fixups_fault}
use Rattle.module_ids.proofs.scan.fixups_fault.Given as goal

abbrev pub Inv : List ℕ → List ℕ → Cursor → Cursor → Type 0
Inv library table from c = (ds : List Definition) → Tells ds table → fixups_fault ds (fixups_left library c) ≡ fixups_fault ds (fixups_left library from)

abbrev pub invariant-loop-fixup : goal.invariant-loop-fixup
invariant-loop-fixup l =
    Inv l.library l.table l.initial.c l.c

abbrev pub decreases-loop-fixup : goal.decreases-loop-fixup
decreases-loop-fixup l =
    length (fixups_left l.library l.c)
