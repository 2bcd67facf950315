-- `content_masks` takes one fixup after another. The invariant: those left make of the masks what all make of FFh. Assumes nothing.
use Prim.Native.Nat.{ℕ}
use mathlib.Core.Path.{◌≡◌}
use mathlib.Core.List.{List}
use lib.ListN.{length}
use Rattle.lent.specs.Lists.{fold}
use Rattle.library.specs.declared.items.Cursor.{Cursor}
use Rattle.library.specs.items.Left.{fixups_left}
use Rattle.segments.specs.Masks.{masked}
use Rattle.segment_parts.proofs.merge.masks.content_masks.Given as goal

pub record Inv (library masks₀ : List ℕ) (c₀ : Cursor) (masks : List ℕ) (c : Cursor) : Type 0 where
  pub long : length masks ≡ length masks₀
  pub whole : fold masked masks (fixups_left library c) ≡ fold masked masks₀ (fixups_left library c₀)

abbrev pub invariant-loop-fixup : goal.invariant-loop-fixup
invariant-loop-fixup l =
    Inv l.library l.initial.masks l.initial.c l.masks l.c

abbrev pub decreases-loop-fixup : goal.decreases-loop-fixup
decreases-loop-fixup l =
    length (fixups_left l.library l.c)
