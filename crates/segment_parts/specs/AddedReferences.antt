-- The references that are put, by what a table of ids tells.
use Rattle.std.specs.Prelude.{ℕ, ◌+◌, ◌<◌, ◌≤◌, ◌^◌, ◌≡◌, List, length}
use Rattle.lent.specs.Lists.{joined}
use Rattle.tables.specs.declared.fill.Fill.{Fill}
use Rattle.tables.specs.fill.FilledRows.{Adds}
use Rattle.omf51.specs.declared.ModuleId.{ModuleId}
use Rattle.omf51.specs.declared.Definition.{Definition}
use Rattle.omf51.specs.declared.Fixup.{Fixup}
use Rattle.omf51.specs.Module.{Section}
use Rattle.segments.specs.declared.Reference.{Reference}
use Rattle.segments.specs.SegmentLayouts.{reference_layout}
use Rattle.tables.specs.links.Follow.{Follows}
use Rattle.module_index.specs.gather.Places.{SectionIs}
use Rattle.module_ids.specs.IdRows.{id_row, id_row_at}
use Rattle.module_ids.specs.Noted.{Tells}
use Rattle.module_ids.specs.reference.LeftReference.{place_in, leaves_by}

-- no number of a segment, and no place of a reference, passes 64 bits
pub record Placeable (table : List ℕ) (number base : ℕ) : Type 0 where
  pub numbers : (id : ModuleId) → id.0 < 65536 → number + place_in (id_row_at table id).kept < 2 ^ 64
  pub places : base + 65536 ≤ 2 ^ 64

-- what fixups leave in a module of these definitions
abbrev pub leaves_in : List Definition → ℕ → ℕ → Fixup → List Reference
leaves_in definitions number base f = leaves_by (id_row definitions f.id) number base f

abbrev pub section_leaves : List Definition → ℕ → Section → List Reference
section_leaves definitions number s = joined (leaves_in definitions number s.content.offset) s.fixups

-- they are added, and memory keeps its length
pub record Refers (table : List ℕ) (number base : ℕ) (fixups : List Fixup) (m : List ℕ) (f : Fill) (n : List ℕ) (g : Fill) : Type 0 where
  pub long : length n ≡ length m
  pub adds : (definitions : List Definition) → Tells definitions table → Adds reference_layout (joined (leaves_in definitions number base) fixups) m f n g

pub record RefersAlong (library table : List ℕ) (number link : ℕ) (next places m : List ℕ) (f : Fill) (n : List ℕ) (g : Fill) : Type 0 where
  pub long : length n ≡ length m
  pub adds : (definitions : List Definition) (sections : List Section) → Tells definitions table → Follows (SectionIs library places) next 0 link sections
      → Adds reference_layout (joined (section_leaves definitions number) sections) m f n g
