-- The two parts of a module's segments, its kept segments and its absolute contents: what each needs and leaves.
use Rattle.std.specs.Prelude.{ℕ, ◌≡◌, List, length, get_or}
use Rattle.image.specs.declared.fixup.Rules.{Rules}
use Rattle.omf51.specs.Module.{Module, definitions_at}
use Rattle.library.specs.Gathered.{items_at}
use Rattle.segments.specs.Collect.{module_segments}
use Rattle.tables.specs.links.Things.{places_of, next_of}
use Rattle.module_index.specs.gather.Places.{SectionIs, section_key}
use Rattle.module_ids.specs.Noted.{Tells}
use Rattle.module_index.specs.Indexed.{Blank, Meets}
use Rattle.collect.specs.declared.absolute.Absolutes.{Absolutes}
use Rattle.collect.specs.declared.one_module.ModuleTask.{ModuleTask}
use Rattle.collect.specs.declared.stored.CollectCounts.{CollectCounts}
use Rattle.collect.specs.stored.Rows.{Stored}
use Rattle.collect.specs.stored.Stores.{CollectLists, Extends, SameLengths}
use Rattle.collect.specs.stored.Segments.{own_by}
use Rattle.collect.specs.kept.Kept.{kept_segments}
use Rattle.collect.specs.absolute.Absolute.{absolute_segments}

-- what is known of a module while its parts are stored: its definitions, what its ids lead to, and its contents by id
pub record Known (library : List ℕ) (m : Module) (from : ℕ) (table first contents : List ℕ) : Type 0 where
  pub defined : m.definitions ≡ items_at library (definitions_at library) from
  pub tells : Tells m.definitions table
  pub sections : Meets (SectionIs library (places_of contents)) section_key m.sections first (next_of contents)

pub record StoresFirstPart (library : List ℕ) (from : ℕ) (table first contents : List ℕ) (c : CollectCounts) (definitions heads : List ℕ) (l : CollectLists) (apart : List ℕ) (after : CollectLists) (apart' : List ℕ) (w : Stored) : Type 0 where
  pub blank : Blank 6 library definitions heads
  pub long : SameLengths l after
  pub apart-long : length apart' ≡ length apart
  pub extends : (m : Module) → Known library m from table first contents → Extends (kept_segments library m c.segments) l c after w

-- the second part needs the link to the first absolute content, and no other head
pub record StoresSecondPart (library : List ℕ) (from : ℕ) (a : Absolutes) (table contents : List ℕ) (c : CollectCounts) (definitions heads : List ℕ) (l : CollectLists) (apart : List ℕ) (after : CollectLists) (apart' : List ℕ) (w : Stored) : Type 0 where
  pub blank : Blank 6 library definitions heads
  pub long : SameLengths l after
  pub apart-long : length apart' ≡ length apart
  pub extends : (rules : Rules) (m : Module) (first : List ℕ) → a.own ≡ own_by rules → a.link ≡ get_or first 0 0 → Known library m from table first contents
      → Extends (absolute_segments rules library m a.number) l c after w

pub record StoresBothParts (library : List ℕ) (task : ModuleTask) (table first contents : List ℕ) (c : CollectCounts) (definitions heads : List ℕ) (l : CollectLists) (apart : List ℕ) (after : CollectLists) (apart' : List ℕ) (w : Stored) : Type 0 where
  pub blank : Blank 6 library definitions heads
  pub long : SameLengths l after
  pub apart-long : length apart' ≡ length apart
  pub extends : (rules : Rules) (m : Module) → task.own ≡ own_by rules → Known library m task.at.definitions table first contents
      → Extends (module_segments rules library c.segments m) l c after w
