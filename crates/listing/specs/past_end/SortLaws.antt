-- Things in the order of their keys: those of the least key come first, as they came, and then those of larger keys. Assumes nothing.
use Rattle.std.specs.Prelude.{ℕ, suc, ◌+◌, ◌≤◌, ◌<◌, ◌≡◌, Bool, true, false, ◌&&◌, eqb, leb, ltb, length, get_or, if◌then◌else◌}
use Rattle.std.proofs.Math.Path.{refl, ap}
use Rattle.std.proofs.Common.{sym, ◌∙◌, arith, eqb-true, leb-true, leb-false, le-leb, lt-ltb, le-ltb}
use mathlib.Core.List.Memᴰ
use mathlib.Core.List.{List, [], ◌∷◌, ◌++◌, append_assoc, append-nil}
use Rattle.std.proofs.lemmas.Bool.{eqb-false, lt-leb}
use Rattle.lent.specs.ChoiceLaws.{both}
use Rattle.lent.specs.Lists.{one, keep, fold, insert, sorted}
use Rattle.lent.specs.Members.{◌among◌, of-keep, of-sorted}
use Rattle.tables.specs.by_name.NewestLaws.{one_by_one}
use Rattle.tables.specs.by_name.TakeLaws.{fold-both}
use Rattle.tables.specs.by_name.ChainLaws.{keep-both}

-- two tests that say the same of each keep the same
pub keep_same : {A : Type 0} (p q : A → Bool) (d : A) (xs : List A) → ((k : ℕ) → k < length xs → p (get_or xs k d) ≡ q (get_or xs k d)) → keep p xs ≡ keep q xs
unfolding keep
keep_same p q d [] e = refl
keep_same p q d (x ∷ xs) e =
    ap (λ t. if t then x ∷ keep p xs else keep p xs) (e 0 (omega arith))
    ∙ ap (λ zs. if q x then x ∷ zs else zs) (keep_same p q d xs (λ k h. e (suc k) (omega (arith, h))))

pub keep-none : {A : Type 0} (p : A → Bool) (d : A) (xs : List A) → ((k : ℕ) → k < length xs → p (get_or xs k d) ≡ false) → keep p xs ≡ []
unfolding keep
keep-none p d [] e = refl
keep-none p d (x ∷ xs) e = rw (e 0 (omega arith)) (keep-none p d xs (λ k h. e (suc k) (omega (arith, h))))

pub keep-this : {A : Type 0} (p : A → Bool) (x : A) → p x ≡ true → keep p (one x) ≡ one x
unfolding keep
keep-this p x e = rw e

pub keep-not : {A : Type 0} (p : A → Bool) (x : A) → p x ≡ false → keep p (one x) ≡ []
unfolding keep
keep-not p x e = rw e

module _ {A : Type 0} (key : A → ℕ) where
  abbrev pub by_key : A → A → Bool
  by_key x y = ltb (key x) (key y)

  -- one is put behind those whose keys are not larger, and before those whose keys are
  insert-past : (x : A) (xs ys : List A) → ((y : A) → y among xs → key y ≤ key x) → insert by_key x (xs ++ ys) ≡ xs ++ insert by_key x ys
  unfolding insert
  insert-past x [] ys h = refl
  insert-past x (z ∷ xs) ys h =
      rw (le-ltb (key x) (key z) (h z (Memᴰ.head refl))) (ap (λ zs. z ∷ zs) (insert-past x xs ys (λ y m. h y (Memᴰ.tail m))))

  insert-first : (x : A) (ys : List A) → ((y : A) → y among ys → key x < key y) → insert by_key x ys ≡ x ∷ ys
  unfolding insert
  insert-first x [] h = refl
  insert-first x (y ∷ ys) h = rw (lt-ltb (key x) (key y) (h y (Memᴰ.head refl)))

  sorted_more : (xs : List A) (x : A) → sorted by_key (xs ++ one x) ≡ insert by_key x (sorted by_key xs)
  unfolding sorted fold
  sorted_more xs x = fold-both (λ ys y. insert by_key y ys) [] xs (one x)

  -- those that pass a test and have a key from a bound on, in order; and those of one key
  module _ (p : A → Bool) where
    abbrev pub from : ℕ → A → Bool
    from b x = leb b (key x) && p x

    abbrev pub at : ℕ → A → Bool
    at b x = eqb (key x) b && p x

    abbrev pub ordered : ℕ → List A → List A
    ordered b xs = sorted by_key (keep (from b) xs)

    abbrev Turns : ℕ → List A → Type 0
    Turns b xs = ordered b xs ≡ keep (at b) xs ++ ordered (b + 1) xs

    at_key : (b : ℕ) (xs : List A) (y : A) → y among keep (at b) xs → key y ≡ b
    at_key b xs y m = eqb-true (key y) b (both (eqb (key y) b) (p y) (of-keep (at b) xs m).1).0

    behind-key : (b : ℕ) (xs : List A) (y : A) → y among ordered b xs → b ≤ key y
    behind-key b xs y m = leb-true b (key y) (both (leb b (key y)) (p y) (of-keep (from b) xs (of-sorted by_key (keep (from b) xs) m)).1).0

    -- one more: it is in order, or it is left out
    ordered-in : (b : ℕ) (xs : List A) (x : A) → from b x ≡ true → ordered b (xs ++ one x) ≡ insert by_key x (ordered b xs)
    ordered-in b xs x e =
        ap (sorted by_key) (keep-both (from b) xs (one x) ∙ ap (λ zs. keep (from b) xs ++ zs) (keep-this (from b) x e)) ∙ sorted_more (keep (from b) xs) x

    ordered-out : (b : ℕ) (xs : List A) (x : A) → from b x ≡ false → ordered b (xs ++ one x) ≡ ordered b xs
    ordered-out b xs x e =
        ap (sorted by_key) (keep-both (from b) xs (one x) ∙ ap (λ zs. keep (from b) xs ++ zs) (keep-not (from b) x e) ∙ append-nil (keep (from b) xs))

    at_in : (b : ℕ) (xs : List A) (x : A) → at b x ≡ true → keep (at b) (xs ++ one x) ≡ keep (at b) xs ++ one x
    at_in b xs x e = keep-both (at b) xs (one x) ∙ ap (λ zs. keep (at b) xs ++ zs) (keep-this (at b) x e)

    at_out : (b : ℕ) (xs : List A) (x : A) → at b x ≡ false → keep (at b) (xs ++ one x) ≡ keep (at b) xs
    at_out b xs x e = keep-both (at b) xs (one x) ∙ ap (λ zs. keep (at b) xs ++ zs) (keep-not (at b) x e) ∙ append-nil (keep (at b) xs)

    module _ (b : ℕ) (xs : List A) (x : A) (h : Turns b xs) where
      turn-fails : from b x ≡ false → at b x ≡ false → from (b + 1) x ≡ false → Turns b (xs ++ one x)
      turn-fails e f g =
          ordered-out b xs x e
          ∙ h
          ∙ ap (λ zs. zs ++ ordered (b + 1) xs) (sym (at_out b xs x f))
          ∙ ap (λ zs. keep (at b) (xs ++ one x) ++ zs) (sym (ordered-out (b + 1) xs x g))

      turn-here : key x ≡ b → from b x ≡ true → at b x ≡ true → from (b + 1) x ≡ false → Turns b (xs ++ one x)
      turn-here k e f g =
          ordered-in b xs x e
          ∙ ap (insert by_key x) h
          ∙ insert-past x (keep (at b) xs) (ordered (b + 1) xs) (λ y m. omega (arith, k, at_key b xs y m))
          ∙ ap (λ zs. keep (at b) xs ++ zs) (insert-first x (ordered (b + 1) xs) (λ y m. omega (arith, k, behind-key (b + 1) xs y m)))
          ∙ sym (append_assoc (keep (at b) xs) (one x) (ordered (b + 1) xs))
          ∙ ap (λ zs. zs ++ ordered (b + 1) xs) (sym (at_in b xs x f))
          ∙ ap (λ zs. keep (at b) (xs ++ one x) ++ zs) (sym (ordered-out (b + 1) xs x g))

      turn-behind : b < key x → from b x ≡ true → at b x ≡ false → from (b + 1) x ≡ true → Turns b (xs ++ one x)
      turn-behind k e f g =
          ordered-in b xs x e
          ∙ ap (insert by_key x) h
          ∙ insert-past x (keep (at b) xs) (ordered (b + 1) xs) (λ y m. omega (arith, k, at_key b xs y m))
          ∙ ap (λ zs. zs ++ insert by_key x (ordered (b + 1) xs)) (sym (at_out b xs x f))
          ∙ ap (λ zs. keep (at b) (xs ++ one x) ++ zs) (sym (ordered-in (b + 1) xs x g))

      turn_more : Turns b (xs ++ one x)
      turn_more = go (p x) refl (eqb (key x) b) refl (leb b (key x)) refl
        where
          go : (t : Bool) → p x ≡ t → (u : Bool) → eqb (key x) b ≡ u → (v : Bool) → leb b (key x) ≡ v → Turns b (xs ++ one x)
          go false e u f v g = turn-fails (no (leb b (key x))) (no (eqb (key x) b)) (no (leb (b + 1) (key x)))
            where
              no : (t : Bool) → (t && p x) ≡ false
              no true = e
              no false = refl
          go true e true f v g =
              let k = eqb-true (key x) b f in
              turn-here k (rw (le-leb b (key x) (omega (arith, k)), e)) (rw (f, e)) (rw (lt-leb (b + 1) (key x) (omega (arith, k))))
          go true e false f true g =
              let k : b < key x = omega (arith, eqb-false (key x) b f, leb-true b (key x) g) in
              turn-behind k (rw (g, e)) (rw f) (rw (le-leb (b + 1) (key x) (omega (arith, k)), e))
          go true e false f false g =
              let k : key x < b = leb-false b (key x) g in
              turn-fails (rw g) (rw f) (rw (lt-leb (b + 1) (key x) (omega (arith, k))))

    -- ONE KEY, then the larger ones
    pub ordered-turn : (b : ℕ) (xs : List A) → ordered b xs ≡ keep (at b) xs ++ ordered (b + 1) xs
    unfolding sorted keep fold
    ordered-turn b xs = one_by_one (Turns b) refl (λ ys y h. turn_more b ys y h) xs

    -- keys that none has are passed over
    pub ordered-skip : (d : A) (b t : ℕ) (xs : List A) → b ≤ t → ((k : ℕ) → k < length xs → b ≤ key (get_or xs k d) → t ≤ key (get_or xs k d)) → ordered b xs ≡ ordered t xs
    ordered-skip d b t xs l h = ap (sorted by_key) (keep_same (from b) (from t) d xs same)
      where
        same : (k : ℕ) → k < length xs → from b (get_or xs k d) ≡ from t (get_or xs k d)
        same k i = go (leb b (key (get_or xs k d))) refl
          where
            go : (u : Bool) → leb b (key (get_or xs k d)) ≡ u → from b (get_or xs k d) ≡ from t (get_or xs k d)
            go true e = rw (e, le-leb t (key (get_or xs k d)) (h k i (leb-true b (key (get_or xs k d)) e)))
            go false e = rw (e, lt-leb t (key (get_or xs k d)) (omega (arith, l, leb-false b (key (get_or xs k d)) e)))

    -- behind the largest there is none
    pub ordered-none : (d : A) (b : ℕ) (xs : List A) → ((k : ℕ) → k < length xs → key (get_or xs k d) < b) → ordered b xs ≡ []
    unfolding sorted fold
    ordered-none d b xs h = ap (sorted by_key) (keep-none (from b) d xs (λ k i. rw (lt-leb b (key (get_or xs k d)) (h k i))))
