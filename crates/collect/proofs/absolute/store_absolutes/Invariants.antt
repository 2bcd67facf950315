-- `store_absolutes` goes from link to link. Assumes nothing.
use Prim.Native.Nat.{ℕ, ◌-◌, ◌<◌, ◌^◌}
use mathlib.Core.Path.{◌≡◌}
use mathlib.Core.List.{List}
use lib.ListN.{length}
use Rattle.image.specs.declared.fixup.Rules.{Rules}
use Rattle.omf51.specs.Module.{Module}
use Rattle.segments.specs.Collect.{Collected}
use Rattle.collect.specs.declared.stored.CollectCounts.{CollectCounts}
use Rattle.collect.specs.stored.Stores.{CollectLists, Stores, SameLengths}
use Rattle.collect.specs.stored.Segments.{lists, own_by}
use Rattle.collect.specs.absolute.AbsoluteLaws.{Storing}
use Rattle.module_index.specs.gather.Places.{SectionIs}
use Rattle.tables.specs.links.Things.{places_of, next_of}
use Rattle.collect.specs.declared.absolute.Absolutes.{Absolutes}
use Rattle.segment_parts.specs.symbols_by_offset.Flags.{Clear}
use Rattle.collect.specs.absolute.Absolute.{ByOffset}
use Rattle.collect.proofs.absolute.store_absolutes.Given as goal

pub record Inv (library : List ℕ) (a : Absolutes) (table contents definitions : List ℕ) (n : ℕ) (heads apart₀ apart flags : List ℕ) (c₀ : CollectCounts)
    (l₀ l : CollectLists) (last here : ℕ) (c : CollectCounts) : Type 0 where
  pub long : SameLengths l₀ l
  pub apart-long : length apart ≡ length apart₀
  pub flags_long : length flags ≡ 683
  pub clear : Clear flags
  pub small : here < 2 ^ 32
  pub storing : (rules : Rules) (m : Module) (gs : List Collected) → a.own ≡ own_by rules → ByOffset library m a.link table contents definitions n heads → Stores gs l₀ c₀
      → Storing (SectionIs library (places_of contents)) (next_of contents) rules library m a.number gs last here l c

abbrev pub invariant-loop-last : goal.invariant-loop-last
invariant-loop-last l =
    Inv l.library l.absolutes l.table l.contents l.publics l.n l.heads l.initial.apart l.apart l.flags l.initial.c (lists l.initial.segments l.initial.references l.initial.symbols l.initial.bytes l.initial.masks) (lists l.segments l.references l.symbols l.bytes l.masks) l.last l.here l.c

abbrev pub decreases-loop-last : goal.decreases-loop-last
decreases-loop-last l =
    2 ^ 32 - l.last
