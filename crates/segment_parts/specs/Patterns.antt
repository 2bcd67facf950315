-- What pattern memory holds after contents were merged into one segment's part of it.
use Rattle.std.specs.Prelude.{ℕ, ◌≡◌, List, length}
use Rattle.lent.specs.Lists.{fold}
use Rattle.lent.specs.Parts.{bytes_of}
use Rattle.omf51.specs.declared.Content.{Content}
use Rattle.omf51.specs.declared.Fixup.{Fixup}
use Rattle.omf51.specs.Module.{Section}
use Rattle.segments.specs.Masks.{masks_of}
use Rattle.segments.specs.Collect.{data_of, data_masks}
use Rattle.tables.specs.links.Follow.{Follows}
use Rattle.module_index.specs.gather.Places.{SectionIs}
use Rattle.segment_parts.specs.merge.MergedAt.{merged_at}
use Rattle.segment_parts.specs.declared.patterns.Spot.{Spot}

abbrev pub merged_in : Spot → List ℕ → List ℕ → List ℕ
merged_in spot memory new = merged_at memory spot.start spot.size spot.offset new

-- one content: its bytes, and its masks
pub record Merges (library : List ℕ) (content : Content) (fixups : List Fixup) (spot : Spot) (bytes masks apart bytes' masks' apart' : List ℕ) : Type 0 where
  pub long : length apart' ≡ length apart
  pub bytes-are : bytes' ≡ merged_in spot bytes (bytes_of library content.part)
  pub masks-are : masks' ≡ merged_in spot masks (masks_of (length (bytes_of library content.part)) fixups)

-- several, each at its own offset, one after another
abbrev pub merged_one : ℕ → ℕ → (Section → List ℕ) → List ℕ → Section → List ℕ
merged_one start size of memory s = merged_at memory start size s.content.offset (of s)

abbrev pub merged_all : ℕ → ℕ → (Section → List ℕ) → List ℕ → List Section → List ℕ
merged_all start size of memory sections = fold (merged_one start size of) memory sections

pub record MergesAlong (library : List ℕ) (link : ℕ) (next places : List ℕ) (start size : ℕ) (bytes masks apart bytes' masks' apart' : List ℕ) : Type 0 where
  pub bytes-long : length bytes' ≡ length bytes
  pub masks-long : length masks' ≡ length masks
  pub apart-long : length apart' ≡ length apart
  pub bytes-are : (sections : List Section) → Follows (SectionIs library places) next 0 link sections → bytes' ≡ merged_all start size (data_of library) bytes sections
  pub masks-are : (sections : List Section) → Follows (SectionIs library places) next 0 link sections → masks' ≡ merged_all start size (data_masks library) masks sections
