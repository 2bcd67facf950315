-- A content's masks, one fixup after another: what the fixups that are left will make of them stays the same. Assumes nothing.
use Rattle.std.specs.Prelude.{ℕ, ◌≡◌, List, [], ◌∷◌, replicate}
use Rattle.lent.specs.Lists.{fold}
use Rattle.omf51.specs.declared.Fixup.{Fixup}
use Rattle.segments.specs.Masks.{masked, masks_of}

pub masks-turn : (masks : List ℕ) {f : Fixup} {left rest : List Fixup} → left ≡ f ∷ rest → fold masked (masked masks f) rest ≡ fold masked masks left
unfolding fold
masks-turn masks e = rw e

pub masks-done : (n : ℕ) (fixups : List Fixup) {masks₀ masks : List ℕ} {left : List Fixup} → fold masked masks left ≡ fold masked masks₀ fixups → left ≡ []
    → masks₀ ≡ replicate n 0xff → masks ≡ masks_of n fixups
unfolding fold masks_of
masks-done n fixups w e s = rw (← s) (rw e at w)
