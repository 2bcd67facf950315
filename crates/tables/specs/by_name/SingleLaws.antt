-- Things of which no two have the same key and name: after one more, after one or all were changed. Assumes nothing.
use Rattle.std.specs.Prelude.{◌≡◌, ℕ, zero, suc, ◌-◌, ◌<◌, ◌≤◌, Bool, true, false, ◌||◌, List, [], ◌∷◌, ◌++◌, map, length, get_or, ◌==◌, ◌≢◌, slice_index_or, slice_set, refl}
use Rattle.std.proofs.Common.{sym, ap, ◌∙◌, arith, eqb-true, length-set, ext_get_or, get_or-set_same, get_or-set_other}
use Rattle.std.proofs.lemmas.Bool.{false≢true, eqb-false}
use Rattle.std.proofs.Math.Decide.{dec_lt}
use Rattle.std.proofs.lemmas.List.{length-map}
use Rattle.std.proofs.Math.ListN.{get_or-map}
use Rattle.lent.specs.declared.part.Part.{Part}
use Rattle.lent.specs.Lists.{one, any}
use Rattle.tables.specs.by_name.Newest.{newest}
use Rattle.tables.specs.by_name.NewestLaws.{any_none, newest-hit, newest-room}
use Rattle.tables.specs.by_name.Sheet.{Sheet, is_named}
use Rattle.tables.specs.by_name.NamedLaws.{named-same, named-turned, named-alike}
use Rattle.tables.specs.by_name.Tables.{Single}

-- of things of which none passes a test: what each says, and what stays so
any_at : {A : Type 0} (p : A → Bool) (d : A) (xs : List A) (j : ℕ) → any p xs ≡ false → j < length xs → p (slice_index_or xs j d) ≡ false
unfolding any
any_at p d [] j e h = absurd (omega arith)
any_at p d (x ∷ xs) zero e h = go (p x) e
  where
    go : (t : Bool) → (t || any p xs) ≡ false → t ≡ false
    go true q = q
    go false q = refl
any_at p d (x ∷ xs) (suc j) e h = any_at p d xs j (go (p x) e) (omega arith)
  where
    go : (t : Bool) → (t || any p xs) ≡ false → any p xs ≡ false
    go true q = absurd (false≢true (sym q))
    go false q = q

any-set : {A : Type 0} (p : A → Bool) (d : A) (xs : List A) (j : ℕ) (y : A) → p y ≡ p (slice_index_or xs j d) → any p (slice_set xs j y) ≡ any p xs
unfolding any
any-set p d [] j y e = refl
any-set p d (x ∷ xs) zero y e = rw e
any-set p d (x ∷ xs) (suc j) y e = ap (λ t. p x || t) (any-set p d xs j y e)

any-map : {A : Type 0} (p : A → Bool) (f : A → A) (xs : List A) → ((x : A) → p (f x) ≡ p x) → any p (map f xs) ≡ any p xs
unfolding any
any-map p f [] e = refl
any-map p f (x ∷ xs) e = rw (e x, any-map p f xs e)

-- a list by its places, whatever stands past its end
any-default : {A : Type 0} (d e : A) (xs : List A) (j : ℕ) → j < length xs → slice_index_or xs j d ≡ slice_index_or xs j e
any-default d e [] j h = absurd (omega arith)
any-default d e (x ∷ xs) zero h = refl
any-default d e (x ∷ xs) (suc j) h = any-default d e xs j (omega arith)

module _ {A R : Type 0} (s : Sheet A R) (library : List ℕ) where
  abbrev like_it : A → A → Bool
  like_it x y = is_named s library (s.key x) (s.name x) y

  pub single_more : (xs : List A) (x : A) → Single s library xs → any (is_named s library (s.key x) (s.name x)) xs ≡ false → Single s library (xs ++ one x)
  unfolding Single any
  single_more [] x h e = (refl, tt)
  single_more (y ∷ xs) x h e = (any_none (like_it y) xs x h.0 (named-turned s library y x ∙ any_at (like_it x) x (y ∷ xs) 0 e (omega arith)), single_more xs x h.1 (go (like_it x y) e))
    where
      go : (t : Bool) → (t || any (like_it x) xs) ≡ false → any (like_it x) xs ≡ false
      go true q = absurd (false≢true (sym q))
      go false q = q

  pub single-set : (d : A) (xs : List A) (j : ℕ) (y : A) → s.key y ≡ s.key (slice_index_or xs j d) → s.name y ≡ s.name (slice_index_or xs j d)
      → Single s library xs → Single s library (slice_set xs j y)
  unfolding Single
  single-set d [] j y k n h = h
  single-set d (x ∷ xs) zero y k n h = (rw (k, n) h.0, h.1)
  single-set d (x ∷ xs) (suc j) y k n h =
      (any-set (like_it x) d xs j y (named-alike s library (s.key x) (s.name x) (slice_index_or xs j d) y k n) ∙ h.0, single-set d xs j y k n h.1)

  pub single-map : (f : A → A) → ((x : A) → s.key (f x) ≡ s.key x) → ((x : A) → s.name (f x) ≡ s.name x) → (xs : List A) → Single s library xs
      → Single s library (map f xs)
  unfolding Single
  single-map f k n [] h = h
  single-map f k n (x ∷ xs) h =
      (rw (k x, n x) (any-map (like_it x) f xs (λ y. named-alike s library (s.key x) (s.name x) y (f y) (k y) (n y)) ∙ h.0), single-map f k n xs h.1)

  -- two of them are not named alike
  single-apart : (d : A) (xs : List A) (i j : ℕ) → Single s library xs → i < j → j < length xs → like_it (slice_index_or xs i d) (slice_index_or xs j d) ≡ false
  unfolding Single
  single-apart d [] i j h l b = absurd (omega arith)
  single-apart d (x ∷ xs) i zero h l b = absurd (omega arith)
  single-apart d (x ∷ xs) zero (suc j) h l b = any_at (like_it x) d xs j h.0 (omega arith)
  single-apart d (x ∷ xs) (suc i) (suc j) h l b = single-apart d xs i j h.1 (omega arith) (omega arith)

  -- ONE CHANGED: what changes nothing but things of one key and name changes the one that there is
  module _ (d : A) (xs : List A) (key : ℕ) (name : Part) (single : Single s library xs) where
    abbrev passes : A → Bool
    passes x = is_named s library key name x

    apart : (i j : ℕ) → i < j → j < length xs → passes (slice_index_or xs i d) ≡ true → passes (slice_index_or xs j d) ≢ true
    apart i j l b p q =
        false≢true (sym (single-apart d xs i j single l b) ∙ named-same s library key name (slice_index_or xs i d) p (slice_index_or xs j d) ∙ q)

    pub named-changed : (c : ℕ) → c ≡ newest passes xs → (c ≢ 0) → (f : A → A) → ((x : A) → passes x ≡ false → f x ≡ x)
        → map f xs ≡ slice_set xs (c - 1) (f (slice_index_or xs (c - 1) d))
    named-changed c e z f kept =
        ext_get_or (f d) (map f xs) (slice_set xs (c - 1) y) (length-map xs f ∙ sym (length-set xs (c - 1) y))
        (λ i b. go i (omega (arith, b, length-map xs f)) (i == c - 1) refl)
      where
        y : A
        y = f (slice_index_or xs (c - 1) d)

        inside : c ≤ length xs
        inside = omega (arith, e, newest-room passes xs)

        hit : passes (slice_index_or xs (c - 1) d) ≡ true
        hit = newest-hit passes d xs c e z

        other : (i : ℕ) → i < length xs → (i ≢ c - 1) → passes (slice_index_or xs i d) ≡ false
        other i b ne = lost (passes (slice_index_or xs i d)) refl
          where
            lost : (t : Bool) → passes (slice_index_or xs i d) ≡ t → t ≡ false
            lost false q = refl
            lost true q = absurd (sides (dec_lt i (c - 1)))
              where
                sides : Dec (i < c - 1) → ⊥
                sides (yes l) = apart i (c - 1) l (omega (arith, inside, z)) q hit
                sides (no l) = apart (c - 1) i (omega (arith, l, ne)) b hit q

        go : (i : ℕ) → i < length xs → (t : Bool) → (i == c - 1) ≡ t → slice_index_or (map f xs) i (f d) ≡ slice_index_or (slice_set xs (c - 1) y) i (f d)
        go i b true q =
            let at = eqb-true i (c - 1) q in
            get_or-map f xs i d ∙ ap (λ n. f (slice_index_or xs n d)) at ∙ sym (get_or-set_same xs (c - 1) y (f d) (omega (arith, inside, z)))
            ∙ ap (λ n. get_or (slice_set xs (c - 1) y) n (f d)) (sym at)
        go i b false q =
            let ne = eqb-false i (c - 1) q in
            get_or-map f xs i d
            ∙ kept (slice_index_or xs i d) (other i b ne)
            ∙ any-default d (f d) xs i b
            ∙ sym (get_or-set_other xs (c - 1) i y (f d) ne)
