-- `store_all` goes from module to module, the tables being blank between them. Assumes nothing.
use Prim.Native.Nat.{ℕ, ◌-◌, ◌*◌, ◌≤◌}
use mathlib.Core.Path.{◌≡◌}
use mathlib.Core.Bool.{Bool}
use mathlib.Core.List.{List, []}
use lib.ListN.{length}
use Rattle.image.specs.declared.fixup.Rules.{Rules}
use Rattle.omf51.specs.Module.{module_at}
use Rattle.library.specs.Gathered.{items_at}
use Rattle.module_ids.specs.Noted.{Tells}
use Rattle.module_index.specs.Indexed.{Blank}
use Rattle.collect.specs.declared.stored.CollectCounts.{CollectCounts}
use Rattle.collect.specs.stored.Stores.{CollectLists, SameLengths}
use Rattle.collect.specs.stored.Segments.{lists, own_by}
use Rattle.collect.specs.all_modules.AllLaws.{Collecting}
use Rattle.collect.proofs.all_modules.all.store_all.Given as goal

pub record Long (table₀ contents₀ first₀ publics₀ heads₀ table contents first publics heads : List ℕ) : Type 0 where
  pub table-long : length table ≡ length table₀
  pub contents-long : length contents ≡ length contents₀
  pub first-long : length first ≡ length first₀
  pub publics-long : length publics ≡ length publics₀
  pub heads-long : length heads ≡ length heads₀

pub record Inv (library : List ℕ) (from : ℕ) (own : Bool) (table contents first definitions heads apart₀ apart : List ℕ) (l₀ l : CollectLists) (at : ℕ) (c : CollectCounts) : Type 0 where
  pub long : SameLengths l₀ l
  pub apart-long : length apart ≡ length apart₀
  pub tells : Tells [] table
  pub sections : Blank 7 library contents first
  pub publics : Blank 6 library definitions heads
  pub few : c.segments * 8 ≤ length l.segments
  pub collecting : (rules : Rules) → own ≡ own_by rules → Collecting rules library (items_at library (module_at library) from) (items_at library (module_at library) at) l c

abbrev pub invariant-loop-module : goal.invariant-loop-module
invariant-loop-module l =
    Long l.initial.table l.initial.contents l.initial.first l.initial.publics l.initial.heads l.table l.contents l.first l.publics l.heads
    × Inv l.library l.from l.own l.table l.contents l.first l.publics l.heads l.initial.apart l.apart (lists l.initial.segments l.initial.references l.initial.symbols l.initial.bytes l.initial.masks) (lists l.segments l.references l.symbols l.bytes l.masks) l.at l.c

abbrev pub decreases-loop-module : goal.decreases-loop-module
decreases-loop-module l =
    length l.library - l.at
