-- `scan` goes from module to module. The invariant: those that are left decide as all did, and the table is clear between them. Assumes nothing.
use Prim.Native.Nat.{ℕ, ◌-◌}
use mathlib.Core.Path.{◌≡◌}
use mathlib.Core.List.{List, []}
use lib.ListN.{length}
use Rattle.omf51.specs.Module.{module_at}
use Rattle.segments.specs.Refuse.{collect_refusal}
use Rattle.library.specs.Gathered.{items_at}
use Rattle.module_ids.specs.Noted.{Tells}
use Rattle.module_ids.proofs.scan.scan.Given as goal

pub record Inv (library table₀ table : List ℕ) (first at : ℕ) : Type 0 where
  pub long : length table ≡ length table₀
  pub clear : Tells [] table
  pub same : collect_refusal (items_at library (module_at library) at) ≡ collect_refusal (items_at library (module_at library) first)

abbrev pub invariant-loop-places : goal.invariant-loop-places
invariant-loop-places l =
    Inv l.library l.initial.table l.table l.first l.at

abbrev pub decreases-loop-places : goal.decreases-loop-places
decreases-loop-places l =
    length l.library - l.at
