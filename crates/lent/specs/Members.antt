-- Where the members of a list come from. Assumes nothing.
use Rattle.std.specs.Prelude.{ℕ, zero, suc, ◌+◌, ◌≤◌, ◌<◌, ◌≡◌, refl, ◌⊎◌, Bool, true, false, if◌then◌else◌}
use Rattle.std.proofs.Common.{sym, ap, ◌∙◌, inl, inr, arith}
use Rattle.std.proofs.lemmas.Bool.{false≢true}
use mathlib.Core.List.Memᴰ
use mathlib.Core.List.{List, [], ◌∷◌, ◌++◌, Memᴰ}
use Rattle.std.proofs.Math.Decide.{dec_lt}
use Rattle.lent.specs.ChoiceLaws.{both}
use Rattle.lent.specs.Lists.{keep, joined, fold, all, from, numbered, insert, sorted}

infix 15 ◌among◌
abbrev pub ◌among◌ : {A : Type 0} → A → List A → Type 0
x among xs = Memᴰ x xs

-- of a list that all pass a test: it passes
pub of-all : {A : Type 0} (p : A → Bool) {x : A} (xs : List A) → all p xs ≡ true → x among xs → p x ≡ true
unfolding all
of-all p [] e m = absurd (Memᴰ.not-nil m)
of-all p {x} (y ∷ ys) e m = let b = both (p y) (all p ys) e in go (Memᴰ.cases_cons m) b.0 (of-all p ys b.1)
  where
    go : (x ≡ y) ⊎ x among ys → p y ≡ true → (x among ys → p x ≡ true) → p x ≡ true
    go (inl q) h rest = ap p q ∙ h
    go (inr n) h rest = rest n

-- of those kept by a test: it passes
pub of-keep : {A : Type 0} (p : A → Bool) {x : A} (xs : List A) → x among keep p xs → (x among xs) × (p x ≡ true)
unfolding keep
of-keep p [] m = absurd (Memᴰ.not-nil m)
of-keep p {x} (y ∷ ys) m = go (p y) refl m (of-keep p ys)
  where
    later : (x among ys) × (p x ≡ true) → (x among (y ∷ ys)) × (p x ≡ true)
    later r = (Memᴰ.tail r.0, r.1)

    here : p y ≡ true → (x among keep p ys → (x among ys) × (p x ≡ true)) → (x ≡ y) ⊎ x among keep p ys → (x among (y ∷ ys)) × (p x ≡ true)
    here e rest (inl q) = (Memᴰ.head q, ap p q ∙ e)
    here e rest (inr n) = later (rest n)

    go : (t : Bool) → p y ≡ t → x among (if t then y ∷ keep p ys else keep p ys) → (x among keep p ys → (x among ys) × (p x ≡ true))
        → (x among (y ∷ ys)) × (p x ≡ true)
    go true e n rest = here e rest (Memᴰ.cases_cons n)
    go false e n rest = later (rest n)

-- of lists put together: it is in one of them
pub of-joined : {A B : Type 0} (f : A → List B) {y : B} (xs : List A) → y among joined f xs → (x : A) × (x among xs) × (y among f x)
unfolding joined
of-joined f [] m = absurd (Memᴰ.not-nil m)
of-joined {A} {B} f {y} (x ∷ xs) m = go (Memᴰ.append_cases (f x) m) (of-joined f xs)
  where
    go : y among f x ⊎ y among joined f xs → (y among joined f xs → (z : A) × (z among xs) × (y among f z))
        → (z : A) × (z among (x ∷ xs)) × (y among f z)
    go (inl n) rest = (x, Memᴰ.head refl, n)
    go (inr n) rest = let r = rest n in (r.0, Memᴰ.tail r.1, r.2)

-- of what a fold makes: it was there at the start, or some step added it
pub of-fold : {A B : Type 0} (step : List B → A → List B) (Adds : A → B → Type 0) {y : B}
    → ((found : List B) (x : A) → y among step found x → y among found ⊎ Adds x y)
    → (xs : List A) (found : List B) → y among fold step found xs → y among found ⊎ ((x : A) × (x among xs) × Adds x y)
unfolding fold
of-fold step Adds adds [] found m = inl m
of-fold {A} {B} step Adds {y} adds (x ∷ xs) found m = go (of-fold step Adds adds xs (step found x) m)
  where
    first : y among found ⊎ Adds x y → y among found ⊎ ((z : A) × (z among (x ∷ xs)) × Adds z y)
    first (inl n) = inl n
    first (inr n) = inr (x, Memᴰ.head refl, n)

    go : y among step found x ⊎ ((z : A) × (z among xs) × Adds z y) → y among found ⊎ ((z : A) × (z among (x ∷ xs)) × Adds z y)
    go (inl n) = first (adds found x n)
    go (inr r) = inr (r.0, Memᴰ.tail r.1, r.2)

-- of a list put in order: it was in the list
of-insert : {A : Type 0} (less : A → A → Bool) {x : A} (y : A) (ys : List A) → x among insert less y ys → x among ys ⊎ (x ≡ y)
unfolding insert
of-insert less y [] m = first (Memᴰ.cases_cons m)
  where
    first : {A : Type 0} {x y : A} → (x ≡ y) ⊎ x among [] → x among [] ⊎ (x ≡ y)
    first (inl e) = inr e
    first (inr n) = inl n
of-insert {A} less {x} y (z ∷ zs) m = go (less y z) m (of-insert less y zs)
  where
    before : (x ≡ y) ⊎ x among (z ∷ zs) → x among (z ∷ zs) ⊎ (x ≡ y)
    before (inl e) = inr e
    before (inr n) = inl n

    further : x among zs ⊎ (x ≡ y) → x among (z ∷ zs) ⊎ (x ≡ y)
    further (inl n) = inl (Memᴰ.tail n)
    further (inr e) = inr e

    behind : (x among insert less y zs → x among zs ⊎ (x ≡ y)) → (x ≡ z) ⊎ x among insert less y zs → x among (z ∷ zs) ⊎ (x ≡ y)
    behind rest (inl e) = inl (Memᴰ.head e)
    behind rest (inr n) = further (rest n)

    go : (t : Bool) → x among (if t then y ∷ z ∷ zs else z ∷ insert less y zs) → (x among insert less y zs → x among zs ⊎ (x ≡ y))
        → x among (z ∷ zs) ⊎ (x ≡ y)
    go true n rest = before (Memᴰ.cases_cons n)
    go false n rest = behind rest (Memᴰ.cases_cons n)

pub of-sorted : {A : Type 0} (less : A → A → Bool) {x : A} (xs : List A) → x among sorted less xs → x among xs
unfolding sorted
of-sorted {A} less {x} xs m = go (of-fold (λ ys y. insert less y ys) (λ y z. z ≡ y) (λ ys y n. of-insert less y ys n) xs [] m)
  where
    go : x among [] ⊎ ((y : A) × (y among xs) × (x ≡ y)) → x among xs
    go (inl n) = absurd (Memᴰ.not-nil n)
    go (inr r) = Memᴰ.cast r.2 r.1

-- of a list with numbers: its element was in the list
pub of-numbered : {A : Type 0} {p : ℕ × A} (n : ℕ) (xs : List A) → p among numbered n xs → p.1 among xs
unfolding numbered
of-numbered n [] m = absurd (Memᴰ.not-nil m)
of-numbered {A} {p} n (x ∷ xs) m = go (Memᴰ.cases_cons m) (of-numbered (n + 1) xs)
  where
    go : (p ≡ (n, x)) ⊎ p among numbered (n + 1) xs → (p among numbered (n + 1) xs → p.1 among xs) → p.1 among (x ∷ xs)
    go (inl e) rest = Memᴰ.head (ap (λ q. q.1) e)
    go (inr k) rest = Memᴰ.tail (rest k)

-- and the other way: what passes a test is kept, what one of the lists has is in all together, and numbers stand between their ends
pub to-keep : {A : Type 0} (p : A → Bool) {x : A} (xs : List A) → x among xs → p x ≡ true → x among keep p xs
unfolding keep
to-keep p [] m e = absurd (Memᴰ.not-nil m)
to-keep p {x} (y ∷ ys) m e = go (Memᴰ.cases_cons m) (p y) refl (to-keep p ys)
  where
    go : (x ≡ y) ⊎ x among ys → (t : Bool) → p y ≡ t → (x among ys → p x ≡ true → x among keep p ys) → x among (if t then y ∷ keep p ys else keep p ys)
    go (inl q) true h rest = Memᴰ.head q
    go (inl q) false h rest = absurd (false≢true (sym h ∙ ap p (sym q) ∙ e))
    go (inr n) true h rest = Memᴰ.tail (rest n e)
    go (inr n) false h rest = rest n e

pub to-joined : {A B : Type 0} (f : A → List B) {x : A} {y : B} (xs : List A) → x among xs → y among f x → y among joined f xs
unfolding joined
to-joined f [] m n = absurd (Memᴰ.not-nil m)
to-joined {A} {B} f {x} {y} (z ∷ zs) m n = go (Memᴰ.cases_cons m) (to-joined f zs)
  where
    go : (x ≡ z) ⊎ x among zs → (x among zs → y among f x → y among joined f zs) → y among (f z ++ joined f zs)
    go (inl q) rest = Memᴰ.append_left (joined f zs) (rw (ap f q) at n)
    go (inr k) rest = Memᴰ.append_right (f z) (rest k n)

pub to-from : (k at n : ℕ) → at ≤ k → k < at + n → k among from at n
unfolding from
to-from k at zero l m = absurd (omega arith)
to-from k at (suc n) l m = go (dec_lt at k) (to-from k (at + 1) n)
  where
    go : Dec (at < k) → (at + 1 ≤ k → k < at + 1 + n → k among from (at + 1) n) → k among (at ∷ from (at + 1) n)
    go (yes h) rest = Memᴰ.tail (rest (omega arith) (omega arith))
    go (no h) rest = let same : k ≡ at = omega arith in Memᴰ.head same
