-- Byte order is a strict order: no string is before itself, a string that is before another is before all strings
-- behind that one, and of two different strings one is before the other. Assumes nothing.
use Rattle.std.specs.Prelude.{ℕ, ◌<◌, ◌≡◌, refl, ◌⊎◌, Bool, true, false, ◌&&◌, List, [], ◌∷◌, eqb, ltb}
use Rattle.std.proofs.Common.{sym, ◌∙◌, inl, inr, arith, eqb-true, eq-eqb, ltb-true, lt-ltb, le-ltb}
use Rattle.std.proofs.lemmas.Bool.{false≢true}
use Rattle.lent.specs.ChoiceLaws.{both, either}
use Rattle.lent.specs.Parts.{same, before}

pub before-never : (a : List ℕ) → before a a ≡ false
unfolding before
before-never [] = refl
before-never (x ∷ a) = rw (le-ltb x x (omega arith), eq-eqb x x refl, before-never a)

-- one is before another: by its first byte, or by what follows
by_first : (x y : ℕ) (a b : List ℕ) → x < y → before (x ∷ a) (y ∷ b) ≡ true
unfolding before
by_first x y a b l = rw (lt-ltb x y l)

by-rest : (x y : ℕ) (a b : List ℕ) → x ≡ y → before a b ≡ true → before (x ∷ a) (y ∷ b) ≡ true
unfolding before
by-rest x y a b e h = rw (le-ltb x y (omega arith), eq-eqb x y e, h)

by-which : (x y : ℕ) (a b : List ℕ) → before (x ∷ a) (y ∷ b) ≡ true → (x < y) ⊎ ((x ≡ y) × (before a b ≡ true))
unfolding before
by-which x y a b h = go (either (ltb x y) (eqb x y && before a b) h)
  where
    go : (ltb x y ≡ true) ⊎ ((eqb x y && before a b) ≡ true) → (x < y) ⊎ ((x ≡ y) × (before a b ≡ true))
    go (inl e) = inl (ltb-true x y e)
    go (inr e) = let t = both (eqb x y) (before a b) e in inr (eqb-true x y t.0, t.1)

pub before-through : (a b c : List ℕ) → before a b ≡ true → before b c ≡ true → before a c ≡ true
unfolding before
before-through a b [] p q = absurd (false≢true (sym (none b) ∙ q))
  where
    none : (xs : List ℕ) → before xs [] ≡ false
    none [] = refl
    none (x ∷ xs) = refl
before-through [] b (z ∷ c) p q = refl
before-through (x ∷ a) [] (z ∷ c) p q = absurd (false≢true p)
before-through (x ∷ a) (y ∷ b) (z ∷ c) p q = go (by-which x y a b p) (by-which y z b c q) (before-through a b c)
  where
    go : (x < y) ⊎ ((x ≡ y) × (before a b ≡ true)) → (y < z) ⊎ ((y ≡ z) × (before b c ≡ true))
        → (before a b ≡ true → before b c ≡ true → before a c ≡ true) → before (x ∷ a) (z ∷ c) ≡ true
    go (inl l) (inl m) rest = by_first x z a c (omega arith)
    go (inl l) (inr m) rest = by_first x z a c (omega (arith, m.0))
    go (inr l) (inl m) rest = by_first x z a c (omega (arith, l.0))
    go (inr l) (inr m) rest = by-rest x z a c (l.0 ∙ m.0) (rest l.1 m.1)

-- strings of which neither is before the other are the same
pub before-neither : (a b : List ℕ) → before a b ≡ false → before b a ≡ false → same a b ≡ true
unfolding before same
before-neither [] [] p q = refl
before-neither [] (y ∷ b) p q = absurd (false≢true (sym p))
before-neither (x ∷ a) [] p q = absurd (false≢true (sym q))
before-neither (x ∷ a) (y ∷ b) p q =
    let l : (y < x → ⊥) = λ h. false≢true (sym q ∙ by_first y x b a h) in
    let m : (x < y → ⊥) = λ h. false≢true (sym p ∙ by_first x y a b h) in
    let e : x ≡ y = omega (arith, l, m) in
    rw (eq-eqb x y e) (before-neither a b (rest x y a b e p) (rest y x b a (sym e) q))
  where
    rest : (u v : ℕ) (s t : List ℕ) → u ≡ v → before (u ∷ s) (v ∷ t) ≡ false → before s t ≡ false
    rest u v s t e h = go (before s t) refl
      where
        go : (w : Bool) → before s t ≡ w → w ≡ false
        go true r = absurd (false≢true (sym h ∙ by-rest u v s t e r))
        go false r = refl
