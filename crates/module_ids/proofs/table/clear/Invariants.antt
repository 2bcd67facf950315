-- `clear` clears the row of one id after another. The invariant: rows of ids that are not left to clear are clear. Assumes nothing.
use Prim.Native.Nat.{ℕ}
use mathlib.Core.Path.{◌≡◌}
use mathlib.Core.List.{List}
use lib.ListN.{length}
use Rattle.library.specs.declared.items.Cursor.{Cursor}
use Rattle.library.specs.items.Left.{definitions_left}
use Rattle.module_ids.proofs.ClearLaws.{Clearing}
use Rattle.module_ids.proofs.table.clear.Given as goal

pub record Inv (library : List ℕ) (table₀ table : List ℕ) (c : Cursor) : Type 0 where
  pub long : length table ≡ length table₀
  pub clearing : Clearing (definitions_left library c) table

abbrev pub invariant-loop-definition : goal.invariant-loop-definition
invariant-loop-definition l =
    Inv l.library l.initial.table l.table l.c

abbrev pub decreases-loop-definition : goal.decreases-loop-definition
decreases-loop-definition l =
    length (definitions_left l.library l.c)
