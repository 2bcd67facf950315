-- What stands before what in lists that are put together, put in order, or kept by a test. Assumes nothing.
use Rattle.std.specs.Prelude.{ℕ, zero, suc, ◌+◌, ◌≤◌, ◌<◌, ◌≡◌, refl, ◌⊎◌, Bool, true, false, List, [], ◌∷◌, ◌++◌, map, length, get_or, if◌then◌else◌}
use Rattle.std.proofs.Common.{sym, inl, inr, arith}
use mathlib.Core.List.Memᴰ
use Rattle.lent.specs.Lists.{keep, joined, from}
use Rattle.lent.specs.Members.{◌among◌, of-keep, of-joined}
use Rattle.listing_rules.specs.Earlier.{Earlier}

-- numbers stand between their ends, and ascend
pub of-from : {k : ℕ} (at n : ℕ) → k among from at n → (at ≤ k) × (k < at + n)
unfolding from
of-from at zero m = absurd (Memᴰ.not-nil m)
of-from {k} at (suc n) m = go (Memᴰ.cases_cons m) (of-from (at + 1) n)
  where
    go : (k ≡ at) ⊎ k among from (at + 1) n → (k among from (at + 1) n → (at + 1 ≤ k) × (k < at + 1 + n)) → (at ≤ k) × (k < at + suc n)
    go (inl e) rest = (omega (arith, e), omega (arith, e))
    go (inr j) rest = let h = rest j in (omega (arith, h.0), omega (arith, h.1))

pub earlier-from : {i j : ℕ} (at n : ℕ) → Earlier i j (from at n) → i < j
unfolding from
earlier-from at zero e = absurd e
earlier-from {i} {j} at (suc n) e = go e (earlier-from (at + 1) n)
  where
    go : ((i ≡ at) × (j among from (at + 1) n)) ⊎ Earlier i j (from (at + 1) n) → (Earlier i j (from (at + 1) n) → i < j) → i < j
    go (inl (q, m)) rest = omega (arith, q, (of-from (at + 1) n m).0)
    go (inr f) rest = rest f

-- both are in the list
pub earlier-both : {A : Type 0} {x y : A} (xs : List A) → Earlier x y xs → (x among xs) × (y among xs)
earlier-both [] e = absurd e
earlier-both {A} {x} {y} (z ∷ zs) e = go e (earlier-both zs)
  where
    go : ((x ≡ z) × (y among zs)) ⊎ Earlier x y zs → (Earlier x y zs → (x among zs) × (y among zs)) → (x among (z ∷ zs)) × (y among (z ∷ zs))
    go (inl (q, m)) rest = (Memᴰ.head q, Memᴰ.tail m)
    go (inr f) rest = let r = rest f in (Memᴰ.tail r.0, Memᴰ.tail r.1)

-- by their places
pub earlier-at : {A : Type 0} (xs : List A) (d : A) (i j : ℕ) → i < j → j < length xs → Earlier (get_or xs i d) (get_or xs j d) xs
earlier-at [] d i j l h = absurd (omega arith)
earlier-at (x ∷ xs) d i zero l h = absurd (omega arith)
earlier-at {A} (x ∷ xs) d zero (suc j) l h = inl (refl, there xs j (omega arith))
  where
    there : (ys : List A) (k : ℕ) → k < length ys → get_or ys k d among ys
    there [] k m = absurd (omega arith)
    there (y ∷ ys) zero m = Memᴰ.head refl
    there (y ∷ ys) (suc k) m = Memᴰ.tail (there ys k (omega arith))
earlier-at (x ∷ xs) d (suc i) (suc j) l h = inr (earlier-at xs d i j (omega arith) (omega arith))

-- two lists: in one of them, or one in each
pub earlier-append : {A : Type 0} {x y : A} (xs ys : List A) → Earlier x y (xs ++ ys)
    → Earlier x y xs ⊎ (((x among xs) × (y among ys)) ⊎ Earlier x y ys)
earlier-append [] ys e = inr (inr e)
earlier-append {A} {x} {y} (z ∷ zs) ys e = go e (earlier-append zs ys)
  where
    Split : List A → Type 0
    Split xs = Earlier x y xs ⊎ (((x among xs) × (y among ys)) ⊎ Earlier x y ys)

    first : x ≡ z → y among zs ⊎ y among ys → Split (z ∷ zs)
    first q (inl m) = inl (inl (q, m))
    first q (inr m) = inr (inl (Memᴰ.head q, m))

    further : Split zs → Split (z ∷ zs)
    further (inl f) = inl (inr f)
    further (inr (inl (m, n))) = inr (inl (Memᴰ.tail m, n))
    further (inr (inr f)) = inr (inr f)

    go : ((x ≡ z) × (y among (zs ++ ys))) ⊎ Earlier x y (zs ++ ys) → (Earlier x y (zs ++ ys) → Split zs) → Split (z ∷ zs)
    go (inl (q, m)) rest = first q (Memᴰ.append_cases zs m)
    go (inr f) rest = further (rest f)

-- lists put together: in one of them, or the one in an earlier list than the other
pub earlier-joined : {A B : Type 0} (f : A → List B) {x y : B} (ks : List A) → Earlier x y (joined f ks)
    → ((k : A) × (k among ks) × Earlier x y (f k)) ⊎ ((k : A) × ((j : A) × Earlier k j ks × ((x among f k) × (y among f j))))
unfolding joined
earlier-joined f [] e = absurd e
earlier-joined {A} {B} f {x} {y} (z ∷ zs) e = go (earlier-append (f z) (joined f zs) e) (earlier-joined f zs)
  where
    Split : List A → Type 0
    Split ks = ((k : A) × (k among ks) × Earlier x y (f k)) ⊎ ((k : A) × ((j : A) × Earlier k j ks × ((x among f k) × (y among f j))))

    further : Split zs → Split (z ∷ zs)
    further (inl (k, m, g)) = inl (k, Memᴰ.tail m, g)
    further (inr (k, (j, g, h))) = inr (k, (j, inr g, h))

    go : Earlier x y (f z) ⊎ (((x among f z) × (y among joined f zs)) ⊎ Earlier x y (joined f zs)) → (Earlier x y (joined f zs) → Split zs) → Split (z ∷ zs)
    go (inl g) rest = inl (z, Memᴰ.head refl, g)
    go (inr (inl (m, n))) rest = let j = of-joined f zs n in inr (z, (j.0, inl (refl, j.1), (m, j.2)))
    go (inr (inr g)) rest = further (rest g)

pub earlier-map : {A B : Type 0} (f : A → B) {x y : B} (xs : List A) → Earlier x y (map f xs)
    → (a : A) × ((b : A) × Earlier a b xs × ((x ≡ f a) × (y ≡ f b)))
earlier-map f [] e = absurd e
earlier-map {A} {B} f {x} {y} (z ∷ zs) e = go e (earlier-map f zs)
  where
    Split : List A → Type 0
    Split xs = (a : A) × ((b : A) × Earlier a b xs × ((x ≡ f a) × (y ≡ f b)))

    go : ((x ≡ f z) × (y among map f zs)) ⊎ Earlier x y (map f zs) → (Earlier x y (map f zs) → Split zs) → Split (z ∷ zs)
    go (inl (q, m)) rest = let b = Memᴰ.of_map f zs m in (z, (b.0, inl (refl, b.1), (q, sym b.2)))
    go (inr g) rest = let r = rest g in (r.0, (r.1.0, inr r.1.1, r.1.2))

pub earlier-keep : {A : Type 0} (p : A → Bool) (x y : A) (xs : List A) → Earlier x y (keep p xs) → Earlier x y xs
unfolding keep
earlier-keep p x y [] e = e
earlier-keep p x y (z ∷ zs) e = go (p z) e (earlier-keep p x y zs)
  where
    kept : ((x ≡ z) × (y among keep p zs)) ⊎ Earlier x y (keep p zs) → (Earlier x y (keep p zs) → Earlier x y zs) → Earlier x y (z ∷ zs)
    kept (inl (q, m)) rest = inl (q, (of-keep p zs m).0)
    kept (inr g) rest = inr (rest g)

    go : (t : Bool) → Earlier x y (if t then z ∷ keep p zs else keep p zs) → (Earlier x y (keep p zs) → Earlier x y zs) → Earlier x y (z ∷ zs)
    go true g rest = kept g rest
    go false g rest = inr (rest g)
