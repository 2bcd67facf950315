-- Laws of lists. Assumes nothing.
use Rattle.std.specs.Prelude.{ℕ, zero, suc, ◌+◌, ◌-◌, ◌*◌, ◌≤◌, ◌<◌, ◌≡◌, refl, ◌↔◌, Bool, true, List, [], ◌∷◌, ◌++◌, length, get_or, set}
use Rattle.std.proofs.Common.{sym, ap, ◌∙◌, append_assoc, append-nil, arith, length-append, length-set, get_or-append-add, get_or-set_same, get_or-set_other}
use Rattle.std.proofs.Math.Bool.{and-eq-true_iff}
use Rattle.std.proofs.Math.Decide.{dec_lt}
use native.Mathlib.Nat.{suc-mul}
use Rattle.std.proofs.Math.ListN.{get_or-append}
use Rattle.std.proofs.lemmas.List.Edits.{sets}
use Rattle.lent.specs.Lists.{one, joined, fold, all, from, numbered, total}

-- a loop over the numbers up to n: keep, joined, fold, any and all compute at the result
pub from-turn : (i n : ℕ) → i < n → from i (n - i) ≡ i ∷ from (i + 1) (n - (i + 1))
unfolding from
from-turn i n h = let e : n - i ≡ suc (n - (i + 1)) = omega arith in rw e

-- all the numbers from a on pass a test exactly if each does
pub every : (p : ℕ → Bool) (a n : ℕ) → all p (from a n) ≡ true → (k : ℕ) → a ≤ k → k < a + n → p k ≡ true
unfolding all from
every p a zero e k l m = absurd (omega arith)
every p a (suc n) e k l m = go (dec_lt a k) (every p (a + 1) n (iff.0 e).1 k)
  where
    iff : (all p (from a (suc n)) ≡ true) ↔ ((p a ≡ true) × (all p (from (a + 1) n) ≡ true))
    iff = and-eq-true_iff (p a) (all p (from (a + 1) n))

    go : Dec (a < k) → (a + 1 ≤ k → k < a + 1 + n → p k ≡ true) → p k ≡ true
    go (yes h) rest = rest (omega arith) (omega arith)
    go (no h) rest = let same : k ≡ a = omega arith in ap p same ∙ (iff.0 e).0

pub if-every : (p : ℕ → Bool) (a n : ℕ) → ((k : ℕ) → a ≤ k → k < a + n → p k ≡ true) → all p (from a n) ≡ true
unfolding all from
if-every p a zero h = refl
if-every p a (suc n) h =
    rw (h a (omega arith) (omega arith)) (if-every p (a + 1) n (λ k l m. h k (omega arith) (omega arith)))

pub numbered-length : {A : Type 0} (n : ℕ) (xs : List A) → length (numbered n xs) ≡ length xs
unfolding numbered
numbered-length n [] = refl
numbered-length n (x ∷ xs) = ap suc (numbered-length (n + 1) xs)

-- how long lists are that are put together: as long as all of them, and of rows of one width that many times their number
pub joined_length : {A B : Type 0} (f : A → List B) (xs : List A) → length (joined f xs) ≡ total (λ x. length (f x)) xs
unfolding joined total
joined_length f [] = refl
joined_length f (x ∷ xs) = length-append (f x) (joined f xs) ∙ ap (λ n. length (f x) + n) (joined_length f xs)

pub total-same : {A : Type 0} (f g : A → ℕ) → ((x : A) → f x ≡ g x) → (xs : List A) → total f xs ≡ total g xs
unfolding total
total-same f g e [] = refl
total-same f g e (x ∷ xs) = rw (e x, total-same f g e xs)

pub total-scaled : {A : Type 0} (f : A → ℕ) (k : ℕ) (xs : List A) → total (λ x. f x * k) xs ≡ total f xs * k
unfolding total
total-scaled f k [] = omega arith
total-scaled f k (x ∷ xs) = rw (total-scaled f k xs) (sym (native.Mathlib.Nat.add-mul (f x) (total f xs) k))

pub total-width : {A : Type 0} (k : ℕ) (xs : List A) → total (λ x. k) xs ≡ length xs * k
unfolding total
total-width k [] = omega arith
total-width k (x ∷ xs) = rw (total-width k xs) (omega (arith, suc-mul (length xs) k))

pub rows-length : {A B : Type 0} (k : ℕ) (f : A → List B) → ((x : A) → length (f x) ≡ k) → (xs : List A) → length (joined f xs) ≡ length xs * k
rows-length k f w xs = joined_length f xs ∙ total-same (λ x. length (f x)) (λ x. k) w xs ∙ total-width k xs

-- the first of a list that is known, and then the rest
pub joined-turn : {A B : Type 0} (f : A → List B) {xs rest : List A} {x : A} → xs ≡ x ∷ rest → joined f xs ≡ f x ++ joined f rest
unfolding joined
joined-turn f e = rw e

pub joined_end : {A B : Type 0} (f : A → List B) {xs : List A} → xs ≡ [] → joined f xs ≡ []
unfolding joined
joined_end f e = rw e

pub fold-turn : {A B : Type 0} (step : B → A → B) (b : B) {xs rest : List A} {x : A} → xs ≡ x ∷ rest → fold step b xs ≡ fold step (step b x) rest
unfolding fold
fold-turn step b e = rw e

pub fold_end : {A B : Type 0} (step : B → A → B) (b : B) {xs : List A} → xs ≡ [] → fold step b xs ≡ b
unfolding fold
fold_end step b e = rw e

pub joined_snoc : {A B : Type 0} (f : A → List B) (xs : List A) (x : A) → joined f (xs ++ one x) ≡ joined f xs ++ f x
unfolding joined
joined_snoc f [] x = append-nil (f x)
joined_snoc f (y ∷ xs) x = ap (λ ys. f y ++ ys) (joined_snoc f xs x) ∙ sym (append_assoc (f y) (joined f xs) (f x))

pub joined-append : {A B : Type 0} (f : A → List B) (xs ys : List A) → joined f (xs ++ ys) ≡ joined f xs ++ joined f ys
unfolding joined
joined-append f [] ys = refl
joined-append f (x ∷ xs) ys = ap (λ zs. f x ++ zs) (joined-append f xs ys) ∙ sym (append_assoc (f x) (joined f xs) (joined f ys))

pub joined-joined : {A B C : Type 0} (f : B → List C) (g : A → List B) (xs : List A) → joined (λ x. joined f (g x)) xs ≡ joined f (joined g xs)
unfolding joined
joined-joined f g [] = refl
joined-joined f g (x ∷ xs) = ap (λ ys. joined f (g x) ++ ys) (joined-joined f g xs) ∙ sym (joined-append f (g x) (joined g xs))

pub joined_same : {A B : Type 0} (f g : A → List B) → ((x : A) → f x ≡ g x) → (xs : List A) → joined f xs ≡ joined g xs
unfolding joined
joined_same f g e [] = refl
joined_same f g e (x ∷ xs) = rw (e x, joined_same f g e xs) refl

-- what stands in lists of one width, put together
pub joined_at : {A : Type 0} (k : ℕ) (f : A → List ℕ) → ((x : A) → length (f x) ≡ k) → (d : A) (xs : List A) (i j : ℕ) → i < length xs → j < k
    → get_or (joined f xs) (i * k + j) 0 ≡ get_or (f (get_or xs i d)) j 0
unfolding joined
joined_at k f w d [] i j h l = absurd (omega arith)
joined_at k f w d (x ∷ xs) zero j h l =
    let e : 0 * k + j ≡ j = omega arith in
    rw e (get_or-append (f x) (joined f xs) 0 j (omega (arith, w x)))
joined_at k f w d (x ∷ xs) (suc i) j h l =
    let e : suc i * k + j ≡ length (f x) + (i * k + j) = omega (arith, w x, suc-mul i k) in
    rw e (get_or-append-add (f x) (joined f xs) (i * k + j) 0 ∙ joined_at k f w d xs i j (omega arith) l)

-- what stands in a list after a run of stores: before it, in it and after it
pub sets-before : (vs xs : List ℕ) (i k : ℕ) → k < i → get_or (sets xs i vs) k 0 ≡ get_or xs k 0
sets-before [] xs i k h = refl
sets-before (v ∷ vs) xs i k h = sets-before vs (set xs i v) (suc i) k (omega arith) ∙ get_or-set_other xs i k v 0 (λ e. omega arith)

pub sets-in : (vs xs : List ℕ) (i j : ℕ) → i + length vs ≤ length xs → j < length vs → get_or (sets xs i vs) (i + j) 0 ≡ get_or vs j 0
sets-in [] xs i j h l = absurd (omega arith)
sets-in (v ∷ vs) xs i zero h l =
    let e : i + 0 ≡ i = omega arith in
    rw e (sets-before vs (set xs i v) (suc i) i (omega arith) ∙ get_or-set_same xs i v 0 (omega arith))
sets-in (v ∷ vs) xs i (suc j) h l =
    let e : i + suc j ≡ suc i + j = omega arith in
    rw e (sets-in vs (set xs i v) (suc i) j (omega (arith, length-set xs i v)) (omega arith))

pub sets-after : (vs xs : List ℕ) (i k : ℕ) → i + length vs ≤ k → get_or (sets xs i vs) k 0 ≡ get_or xs k 0
sets-after [] xs i k h = refl
sets-after (v ∷ vs) xs i k h = sets-after vs (set xs i v) (suc i) k (omega arith) ∙ get_or-set_other xs i k v 0 (λ e. omega arith)
