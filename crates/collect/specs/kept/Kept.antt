-- The kept segments of a module, by its tables.
use Rattle.std.specs.Prelude.{ℕ, ◌≡◌, List, map, length, get_or}
use Rattle.lent.specs.Lists.{numbered}
use Rattle.omf51.specs.declared.Definition.{Definition}
use Rattle.omf51.specs.Module.{Module, definitions_at}
use Rattle.library.specs.Gathered.{items_at}
use Rattle.segments.specs.Ids.{kept, id_of, size_of}
use Rattle.segments.specs.Collect.{Collected, kept_segment}
use Rattle.module_ids.specs.IdRows.{id_row_at}
use Rattle.module_index.specs.owner.Owned.{link_at}
use Rattle.module_index.specs.Indexed.{Indexed}
use Rattle.collect.specs.declared.kept.one.KeptFrom.{KeptFrom}
use Rattle.collect.specs.declared.stored.CollectCounts.{CollectCounts}
use Rattle.collect.specs.stored.Rows.{Stored}
use Rattle.collect.specs.stored.Stores.{CollectLists, Extends, SameLengths}

-- from what the kept segment that d defines is stored, by the tables of its module; `place` is its place among the kept ones
abbrev pub kept_from : Definition → ℕ → List ℕ → List ℕ → List ℕ → KeptFrom
kept_from d place table first heads = record { content = link_at first (id_of d) (id_row_at table (id_of d)) place; public = get_or heads (id_of d).0 0; size = size_of d }

-- all kept segments of a module
abbrev pub kept_segments : List ℕ → Module → ℕ → List Collected
kept_segments library m number = map (kept_segment library m number) (numbered 0 (kept m))

pub record StoresKeeps (library : List ℕ) (from : ℕ) (table first contents heads definitions : List ℕ) (c : CollectCounts) (l : CollectLists) (apart : List ℕ) (after : CollectLists) (apart' : List ℕ) (w : Stored) : Type 0 where
  pub long : SameLengths l after
  pub apart-long : length apart' ≡ length apart
  pub extends : (m : Module) → m.definitions ≡ items_at library (definitions_at library) from → Indexed library m table first contents heads definitions
      → Extends (kept_segments library m c.segments) l c after w
