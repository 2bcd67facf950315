-- `next_entry` goes from body to body. The invariant: from here the walk comes to what it comes to from the start. Assumes nothing.
use Prim.Native.Nat.{ℕ, ◌-◌, ◌<◌}
use mathlib.Core.Path.{◌≡◌}
use mathlib.Core.List.{List}
use lib.ListN.{length}
use Rattle.omf51.specs.declared.entry.Entries.{Entries}
use Rattle.library.specs.declared.items.Cursor.{Cursor}
use Rattle.library.specs.items.Walk.{steps, next_entry}
use Rattle.library.proofs.items.entries.next_entry.Given as goal

pub record Inv (library : List ℕ) (what : Entries) (from c : Cursor) : Type 0 where
  pub count : ℕ
  pub enough : length library - c.next < count
  pub same : steps count what library c ≡ next_entry what library from

abbrev pub invariant-loop-end : goal.invariant-loop-end
invariant-loop-end l =
    Inv l.library l.what l.initial.c l.c

abbrev pub decreases-loop-end : goal.decreases-loop-end
decreases-loop-end l =
    length l.library - l.c.next
