-- A list put in order has the same members, the lesser before the greater, and equals as they came. Assumes nothing.
use Rattle.std.specs.Prelude.{◌≡◌, ◌⊎◌, Bool, false, if◌then◌else◌}
use Rattle.std.proofs.Math.Path.{refl, ap}
use Rattle.std.proofs.Common.{sym, ◌∙◌}
use Rattle.std.proofs.Math.Logic.{inl, inr}
use Rattle.std.proofs.Math.Bool.{true}
use Rattle.std.proofs.lemmas.Bool.{false≢true}
use mathlib.Core.List.Memᴰ
use mathlib.Core.List.{List, [], ◌∷◌}
use Rattle.lent.specs.Lists.{fold, insert, sorted}
use Rattle.lent.specs.Members.{◌among◌}
use Rattle.listing_rules.specs.Earlier.{Earlier, Weak}

module _ {A : Type 0} (less : A → A → Bool) where
  -- what is put in, and what was there
  to-insert : {x : A} (z : A) (ys : List A) → (x ≡ z) ⊎ x among ys → x among insert less z ys
  unfolding insert
  to-insert z [] (inl e) = Memᴰ.head e
  to-insert z [] (inr m) = absurd (Memᴰ.not-nil m)
  to-insert {x} z (y ∷ ys) h = go (less z y) h (to-insert z ys)
    where
      behind : (x ≡ y) ⊎ x among ys → ((x ≡ z) ⊎ x among ys → x among insert less z ys) → x among (y ∷ insert less z ys)
      behind (inl e) rest = Memᴰ.head e
      behind (inr m) rest = Memᴰ.tail (rest (inr m))

      go : (t : Bool) → (x ≡ z) ⊎ x among (y ∷ ys) → ((x ≡ z) ⊎ x among ys → x among insert less z ys) → x among (if t then z ∷ y ∷ ys else y ∷ insert less z ys)
      go true (inl e) rest = Memᴰ.head e
      go true (inr m) rest = Memᴰ.tail m
      go false (inl e) rest = Memᴰ.tail (rest (inl e))
      go false (inr m) rest = behind (Memᴰ.cases_cons m) rest

  from-insert : {x : A} (z : A) (ys : List A) → x among insert less z ys → (x ≡ z) ⊎ x among ys
  unfolding insert
  from-insert z [] m = Memᴰ.cases_cons m
  from-insert {x} z (y ∷ ys) m = go (less z y) m (from-insert z ys)
    where
      further : (x ≡ z) ⊎ x among ys → (x ≡ z) ⊎ x among (y ∷ ys)
      further (inl e) = inl e
      further (inr n) = inr (Memᴰ.tail n)

      behind : (x ≡ y) ⊎ x among insert less z ys → (x among insert less z ys → (x ≡ z) ⊎ x among ys) → (x ≡ z) ⊎ x among (y ∷ ys)
      behind (inl e) rest = inr (Memᴰ.head e)
      behind (inr n) rest = further (rest n)

      go : (t : Bool) → x among (if t then z ∷ y ∷ ys else y ∷ insert less z ys) → (x among insert less z ys → (x ≡ z) ⊎ x among ys) → (x ≡ z) ⊎ x among (y ∷ ys)
      go true n rest = Memᴰ.cases_cons n
      go false n rest = behind (Memᴰ.cases_cons n) rest

  abbrev put : List A → A → List A
  put ys z = insert less z ys

  into : {x : A} (xs found : List A) → x among found ⊎ x among xs → x among fold put found xs
  unfolding fold
  into [] found (inl m) = m
  into [] found (inr m) = absurd (Memᴰ.not-nil m)
  into {x} (z ∷ zs) found h = into zs (put found z) (go h)
    where
      next : (x ≡ z) ⊎ x among zs → x among put found z ⊎ x among zs
      next (inl e) = inl (to-insert z found (inl e))
      next (inr m) = inr m

      go : x among found ⊎ x among (z ∷ zs) → x among put found z ⊎ x among zs
      go (inl m) = inl (to-insert z found (inr m))
      go (inr m) = next (Memᴰ.cases_cons m)

  -- none is lost
  pub to_sorted : {x : A} (xs : List A) → x among xs → x among sorted less xs
  unfolding sorted
  to_sorted xs m = into xs [] (inr m)

  module _ (w : Weak less) where
    abbrev InOrder : List A → Type 0
    InOrder ys = (x y : A) → Earlier x y ys → less y x ≡ false

    -- in order, and an equal of z that was there stands before z
    abbrev Put : A → List A → A → A → Type 0
    Put z ys x y = (less y x ≡ false) × (less x y ≡ false → Earlier x y ys ⊎ ((x among ys) × (y ≡ z)))

    -- what stands behind something greater than z is greater than z
    above : (z y : A) (ys : List A) → InOrder (y ∷ ys) → less z y ≡ true → {v : A} → v among (y ∷ ys) → less z v ≡ true
    above z y ys h e {v} m = go (Memᴰ.cases_cons m)
      where
        not-less : (t : Bool) → less z v ≡ t → less v y ≡ false → less z v ≡ true
        not-less true f g = f
        not-less false f g = absurd (false≢true (sym (w.through z v y f g) ∙ e))

        go : (v ≡ y) ⊎ v among ys → less z v ≡ true
        go (inl q) = ap (less z) q ∙ e
        go (inr n) = not-less (less z v) refl (h y v (inl (refl, n)))

    put_order : (z : A) (ys : List A) → InOrder ys → (x y : A) → Earlier x y (insert less z ys) → Put z ys x y
    unfolding insert
    put_order z [] h x y (inl (q, m)) = absurd (Memᴰ.not-nil m)
    put_order z [] h x y (inr e) = absurd e
    put_order z (v ∷ vs) h x y e = go (less z v) refl e (put_order z vs (λ s t f. h s t (inr f)) x y)
      where
        first : less z v ≡ true → x ≡ z → y among (v ∷ vs) → Put z (v ∷ vs) x y
        first l q m =
            let up = above z v vs h l m in
            let up' : less x y ≡ true = ap (λ s. less s y) q ∙ up in
            (w.turned x y up', λ n. absurd (false≢true (sym n ∙ up')))

        was : Earlier x y (v ∷ vs) → Put z (v ∷ vs) x y
        was f = (h x y f, λ n. inl f)

        before : less z v ≡ true → ((x ≡ z) × (y among (v ∷ vs))) ⊎ Earlier x y (v ∷ vs) → Put z (v ∷ vs) x y
        before l (inl (q, m)) = first l q m
        before l (inr f) = was f

        next : less z v ≡ false → x ≡ v → (y ≡ z) ⊎ y among vs → Put z (v ∷ vs) x y
        next l q (inl r) = (ap (less y) q ∙ ap (λ s. less s v) r ∙ l, λ n. inr (Memᴰ.head q, r))
        next l q (inr m) = was (inl (q, m))

        lift : Earlier x y vs ⊎ ((x among vs) × (y ≡ z)) → Earlier x y (v ∷ vs) ⊎ ((x among (v ∷ vs)) × (y ≡ z))
        lift (inl f) = inl (inr f)
        lift (inr (m, r)) = inr (Memᴰ.tail m, r)

        behind : less z v ≡ false → ((x ≡ v) × (y among insert less z vs)) ⊎ Earlier x y (insert less z vs) → (Earlier x y (insert less z vs) → Put z vs x y) → Put z (v ∷ vs) x y
        behind l (inl (q, m)) rest = next l q (from-insert z vs m)
        behind l (inr f) rest = let r = rest f in (r.0, λ n. lift (r.1 n))

        go : (t : Bool) → less z v ≡ t → Earlier x y (if t then z ∷ v ∷ vs else v ∷ insert less z vs) → (Earlier x y (insert less z vs) → Put z vs x y) → Put z (v ∷ vs) x y
        go true l f rest = before l f
        go false l f rest = behind l f rest

    -- in order, and of equals that which was there, or came, first
    abbrev Came : List A → List A → A → A → Type 0
    Came found xs x y = Earlier x y found ⊎ (((x among found) × (y among xs)) ⊎ Earlier x y xs)

    fold-order : (xs found : List A) → InOrder found → (x y : A) → Earlier x y (fold put found xs) → (less y x ≡ false) × (less x y ≡ false → Came found xs x y)
    unfolding fold
    fold-order [] found h x y e = (h x y e, λ n. inl e)
    fold-order (z ∷ zs) found h x y e =
        let r = fold-order zs (put found z) (λ s t f. (put_order z found h s t f).0) x y e in
        (r.0, λ n. go n (r.1 n))
      where
        mine : Earlier x y found ⊎ ((x among found) × (y ≡ z)) → Came found (z ∷ zs) x y
        mine (inl f) = inl f
        mine (inr (m, q)) = inr (inl (m, Memᴰ.head q))

        later : (x ≡ z) ⊎ x among found → y among zs → Came found (z ∷ zs) x y
        later (inl q) m = inr (inr (inl (q, m)))
        later (inr n) m = inr (inl (n, Memᴰ.tail m))

        go : less x y ≡ false → Came (put found z) zs x y → Came found (z ∷ zs) x y
        go n (inl f) = mine ((put_order z found h x y f).1 n)
        go n (inr (inl (m, k))) = later (from-insert z found m) k
        go n (inr (inr f)) = inr (inr (inr f))

    -- the later is not less than the earlier
    pub sorted-order : (x y : A) (xs : List A) → Earlier x y (sorted less xs) → less y x ≡ false
    unfolding sorted
    sorted-order x y xs e = (fold-order xs [] (λ s t f. absurd f) x y e).0

    -- and of equals the earlier was the earlier
    pub sorted-as-came : (x y : A) (xs : List A) → Earlier x y (sorted less xs) → less x y ≡ false → Earlier x y xs
    unfolding sorted
    sorted-as-came x y xs e n = go ((fold-order xs [] (λ s t f. absurd f) x y e).1 n)
      where
        go : Came [] xs x y → Earlier x y xs
        go (inl f) = absurd f
        go (inr (inl (m, k))) = absurd (Memᴰ.not-nil m)
        go (inr (inr f)) = f
