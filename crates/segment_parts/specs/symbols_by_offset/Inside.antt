-- The symbols of the public definitions inside an absolute content.
use Rattle.std.specs.Prelude.{ℕ, ◌+◌, ◌<◌, ◌≡◌, Bool, List, map, length, get_or, take}
use Rattle.lent.specs.Lists.{joined}
use Rattle.tables.specs.declared.fill.Fill.{Fill}
use Rattle.tables.specs.fill.FilledRows.{Adds}
use Rattle.omf51.specs.declared.Definition.{Definition}
use Rattle.segments.specs.SegmentLayouts.{symbol_layout}
use Rattle.tables.specs.links.Index.{Linked}
use Rattle.module_index.specs.gather.Places.{PublicIs, no_definition}
use Rattle.segment_parts.specs.declared.carried.Carried.TheVariants.{Inside}
use Rattle.segment_parts.specs.AddedSymbols.{symbol_by}
use Rattle.segment_parts.specs.declared.symbols_by_offset.flags.Blocks.{Blocks}
use Rattle.module_index.specs.gather.Publics.{offset_key}
use Rattle.segment_parts.specs.symbols_by_offset.Flags.{Clear, Wide, Covers}

-- the first n keys are their offsets, and each stands at its place
pub record Standing (library keys : List ℕ) (n : ℕ) (places : List ℕ) (publics : List Definition) : Type 0 where
  pub number : n ≡ length publics
  pub keyed : take n keys ≡ map offset_key publics
  pub stand : (j : ℕ) → j < n → PublicIs library places j (get_or publics j no_definition)

-- with links by their offsets, and a flag for each block
pub record Offered (library keys : List ℕ) (n : ℕ) (places first next flags : List ℕ) (publics : List Definition) : Type 0 where
  pub standing : Standing library keys n places publics
  pub linked : Linked (take n keys) 0 first next
  pub wide : Wide (take n keys) flags

pub record NamesAt (library : List ℕ) (at len : ℕ) (own : Bool) (keys places : List ℕ) (j : ℕ) (m : List ℕ) (f : Fill) (m' : List ℕ) (g : Fill) : Type 0 where
  pub long : length m' ≡ length m
  pub adds : (d : Definition) → get_or keys j 0 ≡ offset_key d → PublicIs library places j d → Adds symbol_layout (symbol_by (Inside (record { at = at; len = len; own = own })) d) m f m' g

pub record NamesBlocks (library : List ℕ) (at len : ℕ) (own : Bool) (keys : List ℕ) (n : ℕ) (places : List ℕ) (s : Blocks) (flags m : List ℕ) (f : Fill) (m' : List ℕ) (g : Fill) : Type 0 where
  pub long : length m' ≡ length m
  pub adds : (publics : List Definition) → Standing library keys n places publics → Covers (take n keys) at (at + len) flags s
      → Adds symbol_layout (joined (symbol_by (Inside (record { at = at; len = len; own = own }))) publics) m f m' g

pub record NamesInside (library : List ℕ) (at len : ℕ) (own : Bool) (keys : List ℕ) (n : ℕ) (places first next flags flags' m : List ℕ) (f : Fill) (m' : List ℕ) (g : Fill) : Type 0 where
  pub long : length m' ≡ length m
  pub flags_long : length flags' ≡ length flags
  pub clear : Clear flags'
  pub adds : (publics : List Definition) → Offered library keys n places first next flags publics → Adds symbol_layout (joined (symbol_by (Inside (record { at = at; len = len; own = own }))) publics) m f m' g
