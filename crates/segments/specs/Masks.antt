-- The masks of a content under its fixups, and contents merged into a pattern.
use Rattle.std.specs.Prelude.{ℕ, ◌+◌, List, [], ◌∷◌, ◌++◌, eqb, take, drop, set, replicate, if◌then◌else◌}
use Rattle.std.specs.Int.Bits.{bit_or}
use Rattle.lent.specs.Lists.{fold}
use Rattle.lent.specs.Rows.{zeros}
use Rattle.image.specs.declared.fixup.Kind.TheVariants.{Word, Inblock}
use Rattle.image.specs.fixup.Target.{kind_number}
use Rattle.omf51.specs.declared.Fixup.{Fixup}
use Rattle.omf51.specs.Module.{Section}

-- the masks of a content after one fixup: kind Word writes 0 and 0, Inblock 1Fh and 0, any other kind a single 0, and a
-- fixup of block 3 nothing; `set` writes nothing past the end
abbrev pub masked : List ℕ → Fixup → List ℕ
masked masks f =
    if eqb f.block 3 then masks
    else if eqb f.kind (kind_number Word) then set (set masks f.location 0) (f.location + 1) 0
    else if eqb f.kind (kind_number Inblock) then set (set masks f.location 0x1f) (f.location + 1) 0
    else set masks f.location 0

-- the masks of a content of n bytes: FFh for each byte, changed by its fixups in file order
unfoldable pub masks_of : ℕ → List Fixup → List ℕ
masks_of n fixups = fold masked (replicate n 0xff) fixups

-- new bytes ORed into old bytes, from the first on
unfoldable pub ored : List ℕ → List ℕ → List ℕ
ored [] new = []
ored (x ∷ old) [] = x ∷ old
ored (x ∷ old) (y ∷ new) = bit_or x y ∷ ored old new

-- new bytes ORed into a pattern from an offset on
unfoldable pub merged : List ℕ → ℕ → List ℕ → List ℕ
merged pattern offset new = take offset pattern ++ ored (drop offset pattern) new

-- the pattern bytes, or the masks, of a segment: what `of` gives for each content, merged into zeros at the content's offset
unfoldable pub filled : ℕ → (Section → List ℕ) → List Section → List ℕ
filled size of sections = fold (λ pattern s. merged pattern s.content.offset (of s)) (zeros size) sections
