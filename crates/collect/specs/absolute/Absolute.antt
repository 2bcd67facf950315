-- The absolute contents of a module, by its tables.
use Rattle.std.specs.Prelude.{ℕ, ◌≡◌, List, map, length, take}
use Rattle.image.specs.declared.fixup.Rules.{Rules}
use Rattle.omf51.specs.Module.{Module}
use Rattle.segments.specs.Collect.{Collected, sections_of, absolute_id, absolute_segment}
use Rattle.tables.specs.links.Things.{keys_of, places_of, next_of}
use Rattle.tables.specs.links.Index.{Linked}
use Rattle.tables.specs.links.Follow.{Follows}
use Rattle.module_index.specs.gather.Places.{SectionIs}
use Rattle.module_ids.specs.Noted.{Tells}
use Rattle.module_index.specs.gather.Publics.{zero_publics}
use Rattle.segment_parts.specs.symbols_by_offset.Inside.{Standing}
use Rattle.collect.specs.declared.absolute.Absolutes.{Absolutes}
use Rattle.collect.specs.declared.stored.CollectCounts.{CollectCounts}
use Rattle.collect.specs.stored.Rows.{Stored}
use Rattle.collect.specs.stored.Stores.{CollectLists, Extends, SameLengths}
use Rattle.collect.specs.stored.Segments.{own_by}

abbrev pub absolute_segments : Rules → List ℕ → Module → ℕ → List Collected
absolute_segments rules library m number = map (absolute_segment rules library m number) (sections_of m absolute_id)

-- the tables of a module, its absolute contents being met from a link on, and the public definitions of id 0 by their offsets
pub record ByOffset (library : List ℕ) (m : Module) (link : ℕ) (table contents definitions : List ℕ) (n : ℕ) (heads : List ℕ) : Type 0 where
  pub tells : Tells m.definitions table
  pub sections : Follows (SectionIs library (places_of contents)) (next_of contents) 0 link (sections_of m absolute_id)
  pub standing : Standing library (keys_of definitions) n (places_of definitions) (zero_publics m.definitions)
  pub linked : Linked (take n (keys_of definitions)) 0 heads (next_of definitions)

pub record StoresAbsolutes (library : List ℕ) (a : Absolutes) (table contents definitions : List ℕ) (n : ℕ) (heads : List ℕ) (c : CollectCounts) (l : CollectLists) (apart : List ℕ) (after : CollectLists) (apart' : List ℕ) (w : Stored) : Type 0 where
  pub long : SameLengths l after
  pub apart-long : length apart' ≡ length apart
  pub extends : (rules : Rules) (m : Module) → a.own ≡ own_by rules → ByOffset library m a.link table contents definitions n heads
      → Extends (absolute_segments rules library m a.number) l c after w
