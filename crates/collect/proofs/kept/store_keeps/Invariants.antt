-- `store_keeps` goes from definition to definition. Assumes nothing.
use Prim.Native.Nat.{ℕ, ◌-◌}
use mathlib.Core.Path.{◌≡◌}
use mathlib.Core.List.{List}
use lib.ListN.{length}
use Rattle.omf51.specs.Module.{Module, definitions_at}
use Rattle.library.specs.Gathered.{items_at}
use Rattle.library.specs.declared.items.Cursor.{Cursor}
use Rattle.library.specs.items.Left.{definitions_left}
use Rattle.segments.specs.Collect.{Collected}
use Rattle.module_index.specs.Indexed.{Indexed}
use Rattle.collect.specs.declared.stored.CollectCounts.{CollectCounts}
use Rattle.collect.specs.stored.Stores.{CollectLists, Stores, SameLengths}
use Rattle.collect.specs.stored.Progress.{Progress}
use Rattle.collect.specs.stored.Segments.{lists}
use Rattle.collect.specs.kept.Kept.{kept_segments}
use Rattle.collect.specs.kept.KeptLaws.{kept_rest}
use Rattle.collect.proofs.kept.store_keeps.Given as goal

pub record Inv (library : List ℕ) (from : ℕ) (table first contents heads definitions apart₀ apart : List ℕ) (c₀ : CollectCounts)
    (l₀ l : CollectLists) (at : Cursor) (c : CollectCounts) : Type 0 where
  pub long : SameLengths l₀ l
  pub apart-long : length apart ≡ length apart₀
  pub progress : (m : Module) (gs : List Collected) → m.definitions ≡ items_at library (definitions_at library) from → Indexed library m table first contents heads definitions → Stores gs l₀ c₀
      → Progress gs (kept_segments library m c₀.segments) (kept_rest library m c₀.segments (c.segments - c₀.segments) (definitions_left library at)) l c

abbrev pub invariant-loop-definition : goal.invariant-loop-definition
invariant-loop-definition l =
    Inv l.library l.from l.table l.first l.contents l.heads l.publics l.initial.apart l.apart l.initial.c (lists l.initial.segments l.initial.references l.initial.symbols l.initial.bytes l.initial.masks) (lists l.segments l.references l.symbols l.bytes l.masks) l.at l.c

abbrev pub decreases-loop-definition : goal.decreases-loop-definition
decreases-loop-definition l =
    length (definitions_left l.library l.at)
