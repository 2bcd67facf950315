-- A list put in order by any strict order: it does not matter in which order its elements come. Assumes nothing.
use Rattle.std.specs.Prelude.{ℕ, zero, suc, ◌<◌, ◌≡◌, Bool}
use Rattle.std.proofs.Math.Path.{refl, sym, ap}
use Rattle.std.proofs.Common.{◌∙◌, arith, get_or-set_same, set-set}
use Rattle.std.proofs.Math.Bool.{true, false}
use Rattle.std.proofs.lemmas.Bool.{false≢true}
use mathlib.Core.List.Memᴰ
use mathlib.Core.List.{List, [], ◌∷◌, ◌++◌, reverse, reverse-cons}
use lib.ListN.{length, get_or, set}
use Rattle.lent.specs.Lists.{one, fold, insert, sorted}
use Rattle.lent.specs.Members.{◌among◌}
use Rattle.listing.specs.order.InOrder.{Strict, Comparable, Every}

pub every_set : {A : Type 0} (C : A → Type 0) (xs : List A) (i : ℕ) (v : A) → Every C xs → C v → Every C (set xs i v)
every_set C [] i v e c = tt
every_set C (x ∷ xs) zero v e c = (c, e.1)
every_set C (x ∷ xs) (suc i) v e c = (e.0, every_set C xs i v e.1 c)

pub every-at : {A : Type 0} (C : A → Type 0) (xs : List A) (i : ℕ) (d : A) → i < length xs → Every C xs → C (get_or xs i d)
every-at C [] i d h e = absurd (omega arith)
every-at C (x ∷ xs) zero d h e = e.0
every-at C (x ∷ xs) (suc i) d h e = every-at C xs i d (omega arith) e.1

pub every-where : {A : Type 0} (C D : A → Type 0) → ((x : A) → C x → D x) → (xs : List A) → Every C xs → Every D xs
every-where C D f [] e = tt
every-where C D f (x ∷ xs) e = (f x e.0, every-where C D f xs e.1)

pub every-mine : {A : Type 0} (xs : List A) → Every (λ x. x among xs) xs
every-mine [] = tt
every-mine (x ∷ xs) = (Memᴰ.head refl, every-where (λ y. y among xs) (λ y. y among (x ∷ xs)) (λ y i. Memᴰ.tail i) xs (every-mine xs))

module _ {A : Type 0} (less : A → A → Bool) (strict : Strict less) where
  pub never_both : (x y : A) → less x y ≡ true → less y x ≡ false
  never_both x y e = go (less y x) refl
    where
      go : (t : Bool) → less y x ≡ t → t ≡ false
      go true q = absurd (false≢true (sym (strict.never x) ∙ strict.through x y x e q))
      go false q = refl

  pub insert-before : (x z : A) (zs : List A) → less x z ≡ true → insert less x (z ∷ zs) ≡ x ∷ z ∷ zs
  unfolding insert
  insert-before x z zs e = rw e

  pub insert-behind : (x z : A) (zs : List A) → less x z ≡ false → insert less x (z ∷ zs) ≡ z ∷ insert less x zs
  unfolding insert
  insert-behind x z zs e = rw e

  less-first : (x y : A) → less x y ≡ true → (zs : List A) → insert less x (insert less y zs) ≡ insert less y (insert less x zs)
  unfolding insert
  less-first x y e [] = rw (e, never_both x y e)
  less-first x y e (z ∷ zs) = go (less y z) refl (less x z) refl (less-first x y e zs)
    where
      go : (s : Bool) → less y z ≡ s → (t : Bool) → less x z ≡ t → insert less x (insert less y zs) ≡ insert less y (insert less x zs)
          → insert less x (insert less y (z ∷ zs)) ≡ insert less y (insert less x (z ∷ zs))
      go true p t q r =
          ap (insert less x) (insert-before y z zs p)
          ∙ insert-before x y (z ∷ zs) e
          ∙ sym (ap (insert less y) (insert-before x z zs (strict.through x y z e p))
          ∙ insert-behind y x (z ∷ zs) (never_both x y e)
          ∙ ap (λ l. x ∷ l) (insert-before y z zs p))
      go false p true q r =
          ap (insert less x) (insert-behind y z zs p)
          ∙ insert-before x z (insert less y zs) q
          ∙ sym (ap (insert less y) (insert-before x z zs q)
          ∙ insert-behind y x (z ∷ zs) (never_both x y e)
          ∙ ap (λ l. x ∷ l) (insert-behind y z zs p))
      go false p false q r =
          ap (insert less x) (insert-behind y z zs p)
          ∙ insert-behind x z (insert less y zs) q
          ∙ ap (λ l. z ∷ l) r
          ∙ sym (ap (insert less y) (insert-behind x z zs q) ∙ insert-behind y z (insert less x zs) p)

module _ {A : Type 0} (less : A → A → Bool) (strict : Strict less) (C : A → Type 0) (compare : Comparable less C) where
  -- two are inserted in either order
  either_first : (x y : A) → C x → C y → (zs : List A) → insert less x (insert less y zs) ≡ insert less y (insert less x zs)
  either_first x y c k zs = go (less x y) refl (less y x) refl
    where
      go : (s : Bool) → less x y ≡ s → (t : Bool) → less y x ≡ t → insert less x (insert less y zs) ≡ insert less y (insert less x zs)
      go true p t q = less-first less strict x y p zs
      go false p true q = sym (less-first less strict y x q zs)
      go false p false q = let e = compare x y c k p q in ap (λ z. insert less z (insert less y zs)) e ∙ ap (λ z. insert less y (insert less z zs)) (sym e)

  -- the first may as well come last
  front-from : (x : A) → C x → (xs ys : List A) → Every C xs
      → fold (λ zs z. insert less z zs) (insert less x ys) xs ≡ insert less x (fold (λ zs z. insert less z zs) ys xs)
  unfolding fold
  front-from x c [] ys e = refl
  front-from x c (y ∷ xs) ys e =
      ap (λ zs. fold (λ zs z. insert less z zs) zs xs) (either_first y x e.0 c ys)
      ∙ front-from x c xs (insert less y ys) e.1

  pub front : (x : A) (xs : List A) → Every C (x ∷ xs) → insert less x (sorted less xs) ≡ sorted less (x ∷ xs)
  unfolding sorted fold
  front x xs e = sym (front-from x e.0 xs [] e.1)

  last-from : (x : A) (xs ys : List A) → fold (λ zs z. insert less z zs) ys (xs ++ one x) ≡ insert less x (fold (λ zs z. insert less z zs) ys xs)
  unfolding fold
  last-from x [] ys = refl
  last-from x (y ∷ xs) ys = last-from x xs (insert less y ys)

  lastly : (x : A) (xs : List A) → sorted less (xs ++ one x) ≡ insert less x (sorted less xs)
  unfolding sorted
  lastly x xs = last-from x xs []

  -- turned round
  pub turned : (xs : List A) → Every C xs → sorted less (reverse xs) ≡ sorted less xs
  turned [] e = refl
  turned (x ∷ xs) e =
      ap (sorted less) (reverse-cons x xs)
      ∙ lastly x (reverse xs)
      ∙ ap (insert less x) (turned xs e.1)
      ∙ front x xs e

  -- one is put for another, which is inserted instead of it
  exchanged : (x : A) (xs : List A) (k : ℕ) (d : A) → k < length xs → C x → Every C xs
      → insert less (get_or xs k d) (sorted less (set xs k x)) ≡ insert less x (sorted less xs)
  exchanged x [] k d h c e = absurd (omega arith)
  exchanged x (y ∷ ys) zero d h c e =
      ap (insert less y) (sym (front x ys (c, e.1)))
      ∙ either_first y x e.0 c (sorted less ys)
      ∙ ap (insert less x) (front y ys e)
  exchanged x (y ∷ ys) (suc k) d h c e =
      let there = every-at C ys k d (omega arith) e.1 in
      ap (insert less (get_or ys k d)) (sym (front y (set ys k x) (e.0, every_set C ys k x e.1 c)))
      ∙ either_first (get_or ys k d) y there e.0 (sorted less (set ys k x))
      ∙ ap (insert less y) (exchanged x ys k d (omega arith) c e.1)
      ∙ either_first y x e.0 c (sorted less ys)
      ∙ ap (insert less x) (front y ys e)

  -- one that is held moves from place j down to place i, and what stands there to place j
  pub shifted : (x : A) (xs : List A) (i j : ℕ) (d : A) → i < j → j < length xs → C x → Every C xs
      → sorted less (set (set xs j (get_or xs i d)) i x) ≡ sorted less (set xs j x)
  shifted x [] i j d l h c e = absurd (omega arith)
  shifted x (y ∷ ys) i zero d l h c e = absurd (omega arith)
  shifted x (y ∷ ys) zero (suc k) d l h c e =
      let here = every_set C ys k x e.1 c in
      sym (front x (set ys k y) (c, every_set C ys k y e.1 e.0))
      ∙ sym (ap (λ z. insert less z (sorted less (set ys k y))) (get_or-set_same ys k x d (omega arith)))
      ∙ sym (ap (λ zs. insert less (get_or (set ys k x) k d) (sorted less zs)) (set-set ys k x y))
      ∙ exchanged y (set ys k x) k d (omega (arith, lib.ListN.length-set ys k x)) e.0 here
      ∙ front y (set ys k x) (e.0, here)
  shifted x (y ∷ ys) (suc i) (suc k) d l h c e =
      let there = every-at C ys i d (omega arith) e.1 in
      sym (front y (set (set ys k (get_or ys i d)) i x) (e.0, every_set C (set ys k (get_or ys i d)) i x (every_set C ys k (get_or ys i d) e.1 there) c))
      ∙ ap (insert less y) (shifted x ys i k d (omega arith) (omega arith) c e.1)
      ∙ front y (set ys k x) (e.0, every_set C ys k x e.1 c)
