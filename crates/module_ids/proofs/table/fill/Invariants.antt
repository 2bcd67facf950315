-- `fill` notes one definition after another. The invariant: the table tells of those that are done, and the rest is left. Assumes nothing.
use Prim.Native.Nat.{ℕ, ◌≤◌}
use mathlib.Core.Path.{◌≡◌}
use mathlib.Core.List.{List, ◌++◌}
use lib.ListN.{length}
use Rattle.lent.specs.Lists.{keep}
use Rattle.omf51.specs.declared.Definition.{Definition}
use Rattle.omf51.specs.Module.{definitions_at}
use Rattle.library.specs.Gathered.{items_at}
use Rattle.library.specs.declared.items.Cursor.{Cursor}
use Rattle.library.specs.items.Left.{definitions_left}
use Rattle.library.specs.items.ForwardLaws.{Ordered}
use Rattle.segments.specs.Ids.{is_kept}
use Rattle.module_ids.specs.Noted.{Tells}
use Rattle.module_ids.proofs.table.fill.Given as goal

pub record Inv (library : List ℕ) (at : ℕ) (table₀ table : List ℕ) (c : Cursor) (n : ℕ) : Type 0 where
  pub long : length table ≡ length table₀
  pub done : List Definition
  pub whole : done ++ definitions_left library c ≡ items_at library (definitions_at library) at
  pub tells : Tells done table
  pub number : n ≡ length (keep is_kept done)
  pub few : n ≤ c.at
  pub ordered : Ordered c

abbrev pub invariant-loop-definition : goal.invariant-loop-definition
invariant-loop-definition l =
    Inv l.library l.at l.initial.table l.table l.c l.n

abbrev pub decreases-loop-definition : goal.decreases-loop-definition
decreases-loop-definition l =
    length (definitions_left l.library l.c)
