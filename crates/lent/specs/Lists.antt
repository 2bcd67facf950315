-- Lists: tests, places, numbers, order. All functions go from the first element to the last.
use Rattle.std.specs.Prelude.{ℕ, zero, suc, ◌+◌, Bool, true, false, ◌&&◌, ◌||◌, List, [], ◌∷◌, ◌++◌, eqb, if◌then◌else◌}
use Rattle.std.proofs.Math.Option.{Option}
use Rattle.std.proofs.Math.ListN.{get_elem?}

-- the list of one element
abbrev pub one : {A : Type 0} → A → List A
one x = x ∷ []

-- the elements that pass a test
unfoldable pub keep : {A : Type 0} → (A → Bool) → List A → List A
keep p [] = []
keep p (x ∷ xs) = if p x then x ∷ keep p xs else keep p xs

-- the lists that f gives for the elements, one after another
unfoldable pub joined : {A B : Type 0} → (A → List B) → List A → List B
joined f [] = []
joined f (x ∷ xs) = f x ++ joined f xs

-- b after a step for each element
unfoldable pub fold : {A B : Type 0} → (B → A → B) → B → List A → B
fold step b [] = b
fold step b (x ∷ xs) = fold step (step b x) xs

-- some element passes the test
unfoldable pub any : {A : Type 0} → (A → Bool) → List A → Bool
any p [] = false
any p (x ∷ xs) = p x || any p xs

-- all elements pass the test
unfoldable pub all : {A : Type 0} → (A → Bool) → List A → Bool
all p [] = true
all p (x ∷ xs) = p x && all p xs

-- a number is an element of the list
abbrev pub is_in : List ℕ → ℕ → Bool
is_in xs n = any (eqb n) xs

-- the place of the first element that passes the test; the list's length if there is none
unfoldable pub place_of : {A : Type 0} → (A → Bool) → List A → ℕ
place_of p [] = 0
place_of p (x ∷ xs) = if p x then 0 else suc (place_of p xs)

-- the first element that passes the test, if there is one
abbrev pub first : {A : Type 0} → (A → Bool) → List A → Option A
first p xs = get_elem? xs (place_of p xs)

-- n numbers, ascending, the first being `at`
unfoldable pub from : ℕ → ℕ → List ℕ
from at zero = []
from at (suc n) = at ∷ from (at + 1) n

-- each element with its number, the first element's number being n
unfoldable pub numbered : {A : Type 0} → ℕ → List A → List (ℕ × A)
numbered n [] = []
numbered n (x ∷ xs) = (n, x) ∷ numbered (n + 1) xs

-- x is put before the first element that it is less than, so that it stands behind its equals
unfoldable pub insert : {A : Type 0} → (A → A → Bool) → A → List A → List A
insert less x [] = one x
insert less x (y ∷ ys) = if less x y then x ∷ y ∷ ys else y ∷ insert less x ys

-- the list in order; equal elements stay in the order in which they came
unfoldable pub sorted : {A : Type 0} → (A → A → Bool) → List A → List A
sorted less xs = fold (λ ys x. insert less x ys) [] xs

-- the sum of what f gives for the elements
unfoldable pub total : {A : Type 0} → (A → ℕ) → List A → ℕ
total f [] = 0
total f (x ∷ xs) = f x + total f xs
