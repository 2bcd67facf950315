-- `sections_fault` goes from content to content. The invariant: those that are left decide as all did. Assumes nothing.
use Prim.Native.Nat.{ℕ}
use mathlib.Core.Path.{◌≡◌}
use mathlib.Core.List.{List}
use lib.ListN.{length}
use Rattle.omf51.specs.declared.Definition.{Definition}
use Rattle.omf51.specs.Module.{Section, sections_at}
use Rattle.library.specs.Gathered.{items_at}
use Rattle.module_ids.specs.Noted.{Tells}
use Rattle.module_ids.specs.fault.Scan.{sections_fault}
use Rattle.module_ids.proofs.scan.sections_fault.Given as goal

abbrev pub left : List ℕ → ℕ → List Section
left library at = items_at library (sections_at library) at

abbrev pub Inv : List ℕ → List ℕ → ℕ → ℕ → Type 0
Inv library table from at = (ds : List Definition) → Tells ds table → sections_fault ds (left library at) ≡ sections_fault ds (left library from)

abbrev pub invariant-loop-content : goal.invariant-loop-content
invariant-loop-content l =
    Inv l.library l.table l.from l.at

abbrev pub decreases-loop-content : goal.decreases-loop-content
decreases-loop-content l =
    length (left l.library l.at)
