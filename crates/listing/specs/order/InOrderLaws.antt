-- Lists that are in order, and an element that moves down into its place. Assumes nothing.
use Rattle.std.specs.Prelude.{ℕ, suc, ◌≤◌, ◌<◌, ◌≡◌, Bool, length, get_or, set}
use Rattle.std.proofs.Math.Path.{refl, sym, ap}
use Rattle.std.proofs.Common.{subst, ◌∙◌, arith, length-set, get_or-set_same, get_or-set_other}
use Rattle.std.proofs.Math.Bool.{true, false}
use mathlib.Core.List.{List, [], ◌∷◌}
use Rattle.std.proofs.Math.Decide.{ℕ_discrete}
use Rattle.lent.specs.Lists.{fold, insert, sorted}
use Rattle.listing.specs.order.InOrder.{Strict, Comparable, Every, Rising, Sinking}
use Rattle.listing.specs.order.InsertLaws.{never_both, insert-before, insert-behind, front}

module _ {A : Type 0} (less : A → A → Bool) (strict : Strict less) (C : A → Type 0) (compare : Comparable less C) (d : A) where
  -- one that is not behind the first goes to the front
  goes_first : (x : A) (xs : List A) → Every C (x ∷ xs) → Rising less (suc (length xs)) (λ i. get_or (x ∷ xs) i d) → insert less x xs ≡ x ∷ xs
  unfolding insert
  goes_first x [] e up = refl
  goes_first x (y ∷ ys) e up = go (less x y) refl (goes_first y ys e.1 (λ p h. up (suc p) (omega arith)))
    where
      go : (t : Bool) → less x y ≡ t → insert less y ys ≡ y ∷ ys → insert less x (y ∷ ys) ≡ x ∷ y ∷ ys
      go true p r = insert-before less strict x y ys p
      go false p r =
          let q = compare x y e.0 e.1.0 p (up 0 (omega arith)) in
          insert-behind less strict x y ys p ∙ ap (λ z. y ∷ insert less z ys) q ∙ ap (λ zs. y ∷ zs) r ∙ ap (λ z. z ∷ y ∷ ys) (sym q)

  pub in_order : (xs : List A) → Every C xs → Rising less (length xs) (λ i. get_or xs i d) → sorted less xs ≡ xs
  unfolding sorted fold
  in_order [] e up = refl
  in_order (x ∷ xs) e up =
      sym (front less strict C compare x xs e)
      ∙ ap (insert less x) (in_order xs e.1 (λ p h. up (suc p) (omega arith)))
      ∙ goes_first x xs e up

pub sinking-starts : {A : Type 0} (less : A → A → Bool) (i : ℕ) (f g : ℕ → A) → ((p : ℕ) → g p ≡ f p) → Rising less i f → Sinking less i i g
sinking-starts less i f g e up = record {
  others = λ p h n. ap (λ x. less x (g p)) (e (suc p)) ∙ ap (less (f (suc p))) (e p) ∙ up p (omega (arith, n));
  across = λ p q h. absurd (omega arith);
}

-- it stops where it is not before the one in front, or there is none
pub sinking-ends : {A : Type 0} (less : A → A → Bool) (i j : ℕ) (f : ℕ → A) → Sinking less i j f → ((p : ℕ) → suc p ≡ j → less (f j) (f p) ≡ false)
    → Rising less (suc i) f
sinking-ends less i j f s stop p h = go (ℕ_discrete (suc p) j)
  where
    go : Dec (suc p ≡ j) → less (f (suc p)) (f p) ≡ false
    go (yes e) = ap (λ q. less (f q) (f p)) e ∙ stop p e
    go (no n) = s.others p (omega arith) n

-- and goes one further where it is, so that the two change places
module _ {A : Type 0} (less : A → A → Bool) (strict : Strict less) (i k : ℕ) (f g : ℕ → A) where
  pub sinking-on : g k ≡ f (suc k) → g (suc k) ≡ f k → ((p : ℕ) → (p ≡ k → ⊥) → (p ≡ suc k → ⊥) → g p ≡ f p) → less (f (suc k)) (f k) ≡ true
      → Sinking less i (suc k) f → Sinking less i k g
  sinking-on low high rest lower s = record { others = λ p h n. next p h n (ℕ_discrete p k) (ℕ_discrete p (suc k)); across = over }
    where
      both : (a b : ℕ) (x y : A) → g a ≡ x → g b ≡ y → less x y ≡ false → less (g a) (g b) ≡ false
      both a b x y p q r = ap (λ z. less z (g b)) p ∙ ap (less x) q ∙ r

      next : (p : ℕ) → suc p ≤ i → (suc p ≡ k → ⊥) → Dec (p ≡ k) → Dec (p ≡ suc k) → less (g (suc p)) (g p) ≡ false
      next p h n (yes e) t =
          both (suc p) p (f k) (f (suc k)) (ap (λ q. g (suc q)) e ∙ high) (ap g e ∙ low) (never_both less strict (f (suc k)) (f k) lower)
      next p h n (no e) (yes t) =
          both (suc p) p (f (suc (suc k))) (f k) (ap (λ q. g (suc q)) t ∙ rest (suc (suc k)) (λ q. omega arith) (λ q. omega arith)) (ap g t ∙ high)
          (s.across k refl (omega arith))
      next p h n (no e) (no t) =
          both (suc p) p (f (suc p)) (f p) (rest (suc p) n (λ q. e (omega arith))) (rest p e t) (s.others p h (λ q. e (omega arith)))

      over : (p : ℕ) → suc p ≡ k → k < i → less (g (suc k)) (g p) ≡ false
      over p e h =
          both (suc k) p (f k) (f p) high (rest p (λ q. omega arith) (λ q. omega arith))
          (ap (λ q. less (f q) (f p)) (sym e) ∙ s.others p (omega arith) (λ q. omega arith))

-- in a list: the one that is held is put for what stood at its place
module _ {A : Type 0} (less : A → A → Bool) (strict : Strict less) (d x : A) (xs : List A) (i k : ℕ) where
  next-step : suc k < length xs → less x (get_or xs k d) ≡ true → Sinking less i (suc k) (λ p. get_or (set xs (suc k) x) p d)
      → Sinking less i k (λ p. get_or (set (set xs (suc k) (get_or xs k d)) k x) p d)
  next-step h l s = sinking-on less strict i k (λ p. get_or held p d) (λ p. get_or (set moved k x) p d) low high rest lower s
    where
      held : List A
      held = set xs (suc k) x

      moved : List A
      moved = set xs (suc k) (get_or xs k d)

      here : get_or held (suc k) d ≡ x
      here = get_or-set_same xs (suc k) x d h

      front : get_or held k d ≡ get_or xs k d
      front = get_or-set_other xs (suc k) k x d (λ e. omega arith)

      low : get_or (set moved k x) k d ≡ get_or held (suc k) d
      low = get_or-set_same moved k x d (omega (arith, length-set xs (suc k) (get_or xs k d))) ∙ sym here

      high : get_or (set moved k x) (suc k) d ≡ get_or held k d
      high = get_or-set_other moved k (suc k) x d (λ e. omega arith) ∙ get_or-set_same xs (suc k) (get_or xs k d) d h ∙ sym front

      rest : (p : ℕ) → (p ≡ k → ⊥) → (p ≡ suc k → ⊥) → get_or (set moved k x) p d ≡ get_or held p d
      rest p n o = get_or-set_other moved k p x d n ∙ get_or-set_other xs (suc k) p (get_or xs k d) d o ∙ sym (get_or-set_other xs (suc k) p x d o)

      lower : less (get_or held (suc k) d) (get_or held k d) ≡ true
      lower = ap (λ z. less z (get_or held k d)) here ∙ ap (less x) front ∙ l

  pub step_down : (j : ℕ) → j ≡ suc k → j < length xs → less x (get_or xs k d) ≡ true → Sinking less i j (λ p. get_or (set xs j x) p d)
      → Sinking less i k (λ p. get_or (set (set xs j (get_or xs k d)) k x) p d)
  step_down j e =
      subst (λ q. q < length xs → less x (get_or xs k d) ≡ true → Sinking less i q (λ p. get_or (set xs q x) p d) → Sinking less i k (λ p. get_or (set (set xs q (get_or xs k d)) k x) p d))
      (sym e)
      next-step
