-- Orders of things, and lists that are in order.
use Rattle.std.specs.Prelude.{ℕ, suc, ◌≤◌, ◌<◌, ◌≡◌, Bool, true, false, List, [], ◌∷◌}

-- nothing is less than itself, and what is less than something is less than all that this is less than
pub record Strict {A : Type 0} (less : A → A → Bool) : Type 0 where
  pub never : (x : A) → less x x ≡ false
  pub through : (x y z : A) → less x y ≡ true → less y z ≡ true → less x z ≡ true

-- of two, one is less, or they are one
abbrev pub Comparable : {A : Type 0} → (A → A → Bool) → (A → Type 0) → Type 0
Comparable {A} less C = (x y : A) → C x → C y → less x y ≡ false → less y x ≡ false → x ≡ y

-- each of a list
abbrev pub Every : {A : Type 0} → (A → Type 0) → List A → Type 0
Every C [] = Unit
Every C (x ∷ xs) = C x × Every C xs

-- the first k are in order
abbrev pub Rising : {A : Type 0} → (A → A → Bool) → ℕ → (ℕ → A) → Type 0
Rising less k f = (p : ℕ) → suc p < k → less (f (suc p)) (f p) ≡ false

-- the one at place j of the first i + 1 is on its way down: the others are in order
pub record Sinking {A : Type 0} (less : A → A → Bool) (i j : ℕ) (f : ℕ → A) : Type 0 where
  pub others : (p : ℕ) → suc p ≤ i → (suc p ≡ j → ⊥) → less (f (suc p)) (f p) ≡ false
  pub across : (p : ℕ) → suc p ≡ j → j < i → less (f (suc j)) (f p) ≡ false
