-- What is withheld is not seen, and all else is. Assumes nothing.
use Rattle.std.specs.Prelude.{◌≡◌, ℕ, zero, suc, ◌+◌, ◌<◌, ◌≤◌, Bool, true, false, ◌↔◌, List, [], ◌∷◌, map, length, nat_le, nat_lt, refl, if◌then◌else◌}
use Rattle.std.proofs.Common.{sym, ap, ◌∙◌, add-zero, zero-add, arith, leb-true, le-leb, ltb-true, lt-ltb, ext_get_or}
use Rattle.std.proofs.Math.Bool.{and-eq-true_iff}
use Rattle.std.proofs.lemmas.Bool.{false≢true}
use Rattle.std.proofs.Math.Decide.{dec_lt}
use Rattle.std.proofs.lemmas.List.{length-map}
use Rattle.std.proofs.Math.ListN.{get_or-eq_default}
use Rattle.lent.specs.Lists.{any, numbered}
use Rattle.lent.specs.ListLaws.{numbered-length}
use Rattle.image.specs.declared.Stretch.{Stretch}
use Rattle.image.specs.View.{in_one, within, withheld, seen, view, cell_at}

-- a place lies in the cover
abbrev pub Inside : List Stretch → ℕ → Type 0
Inside s i = within s i ≡ true

-- a place lies in one stretch, in numbers
abbrev pub InOne : Stretch → ℕ → Type 0
InOne s i = (s.start ≤ i) × (i < s.start + s.len)

pub in_one_lem : (s : Stretch) (i : ℕ) → (in_one s i ≡ true) ↔ InOne s i
in_one_lem s i =
    let iff = and-eq-true_iff (nat_le s.start i) (nat_lt i (s.start + s.len)) in (
      (λ e. (leb-true s.start i (iff.0 e).0, ltb-true i (s.start + s.len) (iff.0 e).1)),
      (λ h. iff.1 (le-leb s.start i h.0, lt-ltb i (s.start + s.len) h.1)),
    )

-- the view is as long as the image, for any cover
pub view-length : (image : List ℕ) (s : List Stretch) → length (view image s) ≡ length image
unfolding view
view-length image s = length-map (numbered 0 image) (seen s) ∙ numbered-length 0 image

-- each of its cells
cells-from : (s : List Stretch) (n : ℕ) (rest : List ℕ) (k : ℕ) → k < length rest
    → cell_at (map (seen s) (numbered n rest)) k ≡ seen s (n + k, cell_at rest k)
unfolding numbered
cells-from s n [] k h = absurd (omega arith)
cells-from s n (b ∷ rest) zero h = ap (λ i. seen s (i, b)) (sym (add-zero n))
cells-from s n (b ∷ rest) (suc k) h =
    let next : n + 1 + k ≡ n + suc k = omega arith in
    cells-from s (n + 1) rest k (omega arith) ∙ ap (λ i. seen s (i, cell_at rest k)) next

pub view-cell : (image : List ℕ) (s : List Stretch) (i : ℕ) → i < length image → cell_at (view image s) i ≡ seen s (i, cell_at image i)
unfolding view
view-cell image s i l = cells-from s 0 image i l ∙ ap (λ k. seen s (k, cell_at image i)) (zero-add i)

pub view-inside : (image : List ℕ) (s : List Stretch) (i : ℕ) → i < length image → Inside s i → cell_at (view image s) i ≡ withheld
view-inside image s i l h = view-cell image s i l ∙ rw h

pub view-outside : (image : List ℕ) (s : List Stretch) (i : ℕ) → (Inside s i → ⊥) → cell_at (view image s) i ≡ cell_at image i
view-outside image s i out = go (dec_lt i (length image)) (within s i) refl
  where
    go : Dec (i < length image) → (t : Bool) → within s i ≡ t → cell_at (view image s) i ≡ cell_at image i
    go (yes l) true e = absurd (out e)
    go (yes l) false e = view-cell image s i l ∙ rw e
    go (no l) t e =
        get_or-eq_default (view image s) 0 (omega (arith, view-length image s)) ∙ sym (get_or-eq_default image 0 (omega arith))

-- THE COVER HAS NO INFLUENCE: two images of one length that agree outside it have one view
pub record Agree (a b : List ℕ) (s : List Stretch) : Type 0 where
  pub long : length a ≡ length b
  pub outside : (i : ℕ) → (Inside s i → ⊥) → cell_at a i ≡ cell_at b i

pub same_view : (a b : List ℕ) (s : List Stretch) → Agree a b s → view a s ≡ view b s
same_view a b s h = ext_get_or 0 (view a s) (view b s) (view-length a s ∙ h.long ∙ sym (view-length b s)) cell
  where
    cell : (i : ℕ) → i < length (view a s) → cell_at (view a s) i ≡ cell_at (view b s) i
    cell i l = go (within s i) refl
      where
        there : i < length a
        there = omega (arith, view-length a s)

        go : (t : Bool) → within s i ≡ t → cell_at (view a s) i ≡ cell_at (view b s) i
        go true e = view-inside a s i there e ∙ sym (view-inside b s i (omega (arith, there, h.long)) e)
        go false e =
            let out : Inside s i → ⊥ = λ p. false≢true (sym e ∙ p) in
            view-outside a s i out ∙ h.outside i out ∙ sym (view-outside b s i out)

-- COVERS OF THE SAME BYTES give one view, however many stretches they have
pub same-cover : (image : List ℕ) (s t : List Stretch) → ((i : ℕ) → i < length image → within s i ≡ within t i) → view image s ≡ view image t
same-cover image s t same = ext_get_or 0 (view image s) (view image t) (view-length image s ∙ sym (view-length image t)) cell
  where
    cell : (i : ℕ) → i < length (view image s) → cell_at (view image s) i ≡ cell_at (view image t) i
    cell i l =
        let there : i < length image = omega (arith, view-length image s) in
        view-cell image s i there ∙ ap (λ b. if b then withheld else cell_at image i) (same i there) ∙ sym (view-cell image t i there)

-- with nothing withheld the view is the image
pub view-none : (image : List ℕ) (s : List Stretch) → ((i : ℕ) → Inside s i → ⊥) → view image s ≡ image
view-none image s none = ext_get_or 0 (view image s) image (view-length image s) (λ i l. view-outside image s i (none i))

pub view-empty : (image : List ℕ) → view image [] ≡ image
unfolding any
view-empty image = view-none image [] (λ i h. false≢true h)
