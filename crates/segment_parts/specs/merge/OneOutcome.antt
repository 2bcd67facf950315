-- The functions that make masks and merge have one outcome each, by their contracts alone. Assumes nothing.
use Rattle.std.specs.Prelude.{ℕ, ◌≡◌, List, length}
use Rattle.lent.specs.OneOutcome.{Determines, by-equation}
use Rattle.segments.specs.Masks.{masks_of, merged}
use Rattle.library.specs.declared.items.Cursor.{Cursor}
use Rattle.library.specs.items.Left.{fixups_left}
use Rattle.segment_parts.specs.merge.MergedAt.{merged_at}

pub content-masks-one : (library : List ℕ) (fixups : Cursor) (masks : List ℕ) → Determines (λ exit. exit ≡ masks_of (length masks) (fixups_left library fixups))
content-masks-one library fixups masks = by-equation (masks_of (length masks) (fixups_left library fixups))

pub merge-one : (pattern : List ℕ) (offset : ℕ) (new : List ℕ) → Determines (λ exit. exit ≡ merged pattern offset new)
merge-one pattern offset new = by-equation (merged pattern offset new)

pub merge-at-one : (memory : List ℕ) (start size offset : ℕ) (new : List ℕ) → Determines (λ exit. exit ≡ merged_at memory start size offset new)
merge-at-one memory start size offset new = by-equation (merged_at memory start size offset new)
