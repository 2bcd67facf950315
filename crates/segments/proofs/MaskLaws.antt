-- Laws of masks and merging. Assumes nothing.
use Rattle.std.specs.Prelude.{ℕ, zero, suc, ◌+◌, ◌≤◌, ◌<◌, ◌≡◌, refl, List, [], ◌∷◌, ◌++◌, eqb, length, get_or, take, drop, set, replicate}
use Rattle.std.proofs.Common.{sym, ap, ◌∙◌, arith, eq-eqb, ne_eqb, length-append, length-take, length-drop, length-set, get_or-take, get_or-drop, get_or-append-add, length-take-le}
use Rattle.std.specs.Int.Bits.{bit_or, or_zero_r}
use Rattle.std.proofs.lemmas.List.{length-replicate}
use Rattle.std.proofs.Math.ListN.{get_or-append}
use Rattle.lent.specs.ChoiceLaws.{chosen}
use Rattle.lent.specs.Lists.{fold}
use Rattle.lent.specs.Rows.{zeros}
use Rattle.image.specs.declared.fixup.Kind.TheVariants.{Word, Inblock}
use Rattle.image.specs.fixup.Target.{kind_number}
use Rattle.omf51.specs.declared.Fixup.{Fixup}
use Rattle.omf51.specs.Module.{Section}
use Rattle.segments.specs.Masks.{masked, masks_of, ored, merged, filled}

-- a fold keeps what each of its steps keeps
fold-keeps : {A B : Type 0} (P : B → Type 0) (step : B → A → B) → ((b : B) (x : A) → P b → P (step b x)) → (xs : List A) (b : B) → P b → P (fold step b xs)
unfolding fold
fold-keeps P step h [] b p = p
fold-keeps P step h (x ∷ xs) b p = fold-keeps P step h xs (step b x) (h b x p)

-- masks are as many as the bytes
pub mask-length : (masks : List ℕ) (f : Fixup) → length (masked masks f) ≡ length masks
mask-length masks f =
    chosen P (eqb f.block 3) (λ t. refl) λ t.
    chosen P (eqb f.kind (kind_number Word)) (λ u. simp length-set) λ u.
    chosen P (eqb f.kind (kind_number Inblock)) (λ v. simp length-set) (λ v. simp length-set)
  where
    P : List ℕ → Type 0
    P m = length m ≡ length masks

pub masks-length : (n : ℕ) (fixups : List Fixup) → length (masks_of n fixups) ≡ n
unfolding masks_of
masks-length n fixups =
    fold-keeps (λ m. length m ≡ n) masked (λ m f e. mask-length m f ∙ e) fixups (replicate n 0xff) (length-replicate n 0xff)

-- what a fixup makes of masks, by the tests of the code
module _ (masks : List ℕ) (f : Fixup) where
  pub mask-ignored : f.block ≡ 3 → masks ≡ masked masks f
  mask-ignored b = rw (eq-eqb f.block 3 b)

  pub mask_word : (f.block ≡ 3 → ⊥) → f.kind ≡ 4 → set (set masks f.location 0) (f.location + 1) 0 ≡ masked masks f
  mask_word b k = rw (ne_eqb f.block 3 b, k)

  pub mask-inblock : (f.block ≡ 3 → ⊥) → f.kind ≡ 5 → set (set masks f.location 0x1f) (f.location + 1) 0 ≡ masked masks f
  mask-inblock b k = rw (ne_eqb f.block 3 b, k)

  pub mask-other : (f.block ≡ 3 → ⊥) → (f.kind ≡ 4 → ⊥) → (f.kind ≡ 5 → ⊥) → set masks f.location 0 ≡ masked masks f
  mask-other b w k = rw (ne_eqb f.block 3 b, ne_eqb f.kind 4 w, ne_eqb f.kind 5 k)

-- merging keeps a pattern's length
ored-length : (old new : List ℕ) → length (ored old new) ≡ length old
unfolding ored
ored-length [] new = refl
ored-length (x ∷ old) [] = refl
ored-length (x ∷ old) (y ∷ new) = ap suc (ored-length old new)

pub merged-length : (pattern : List ℕ) (offset : ℕ) (new : List ℕ) → length (merged pattern offset new) ≡ length pattern
unfolding merged
merged-length pattern offset new = simp (length-append, ored-length, length-take, length-drop) (omega arith)

pub filled-length : (size : ℕ) (of : Section → List ℕ) (sections : List Section) → length (filled size of sections) ≡ size
unfolding filled
filled-length size of sections =
    fold-keeps (λ p. length p ≡ size) (λ p s. merged p s.content.offset (of s)) (λ p s e. merged-length p s.content.offset (of s) ∙ e)
    sections (zeros size) (length-replicate size 0)

-- NOTHING IS OVERWRITTEN: a byte of a merged pattern has the bits of both
ored-at : (old new : List ℕ) (i : ℕ) → i < length old → get_or (ored old new) i 0 ≡ bit_or (get_or old i 0) (get_or new i 0)
unfolding ored
ored-at [] new i h = absurd (omega arith)
ored-at (x ∷ old) [] i h = sym (or_zero_r (get_or (x ∷ old) i 0))
ored-at (x ∷ old) (y ∷ new) zero h = refl
ored-at (x ∷ old) (y ∷ new) (suc i) h = ored-at old new i (omega arith)

pub merged-at : (pattern : List ℕ) (offset : ℕ) (new : List ℕ) (i : ℕ) → offset ≤ length pattern → offset + i < length pattern
    → get_or (merged pattern offset new) (offset + i) 0 ≡ bit_or (get_or pattern (offset + i) 0) (get_or new i 0)
unfolding merged
merged-at pattern offset new i l h =
    let front : length (take offset pattern) ≡ offset = length-take-le offset pattern l in
    ap (λ k. get_or (take offset pattern ++ ored (drop offset pattern) new) (k + i) 0) (sym front)
    ∙ get_or-append-add (take offset pattern) (ored (drop offset pattern) new) i 0
    ∙ ored-at (drop offset pattern) new i (rw (length-drop offset pattern) (omega arith))
    ∙ ap (λ b. bit_or b (get_or new i 0)) (get_or-drop offset pattern i 0)

pub merged-before : (pattern : List ℕ) (offset : ℕ) (new : List ℕ) (i : ℕ) → i < offset → i < length pattern
    → get_or (merged pattern offset new) i 0 ≡ get_or pattern i 0
unfolding merged
merged-before pattern offset new i l h =
    get_or-append (take offset pattern) (ored (drop offset pattern) new) 0 i (rw (length-take offset pattern) (omega arith))
    ∙ get_or-take offset pattern i 0 l
