-- Laws of the newest thing that passes a test. Assumes nothing.
use Rattle.std.specs.Prelude.{◌≡◌, ℕ, suc, ◌+◌, ◌-◌, ◌≤◌, Bool, true, false, ◌||◌, List, [], ◌∷◌, ◌++◌, map, length, take, ◌≢◌, slice_index_or, slice_set, if◌then◌else◌}
use Rattle.std.proofs.Math.Path.{refl, ap}
use Rattle.std.proofs.Common.{sym, subst, ◌∙◌, append_assoc, append-nil, take_all}
use Rattle.std.proofs.lemmas.Bool.{false≢true}
use native.Mathlib.Omega.{arith}
use Rattle.std.proofs.Math.ListN.{length-append, get_or-append}
use Rattle.std.proofs.lemmas.List.{take-append-le}
use Rattle.std.proofs.Math.Seq.{get_or-append_seam, map-set_same}
use Rattle.lent.specs.Lists.{one, any}
use Rattle.tables.specs.by_name.Newest.{newest_from, newest}

-- what holds of no things, and of one more wherever it holds, holds of all
pub one_by_one : {A : Type 0} (P : List A → Type 0) → P [] → ((xs : List A) (x : A) → P xs → P (xs ++ one x)) → (xs : List A) → P xs
one_by_one {A} P start step xs = go [] xs start
  where
    go : (earlier rest : List A) → P earlier → P (earlier ++ rest)
    go earlier [] h = subst P (sym (append-nil earlier)) h
    go earlier (x ∷ rest) h = subst P (append_assoc earlier (one x) rest) (go (earlier ++ one x) rest (step earlier x h))

-- one that passes is among those before or after
pub any-both : {A : Type 0} (p : A → Bool) (xs ys : List A) → any p (xs ++ ys) ≡ (any p xs || any p ys)
unfolding any
any-both p [] ys = refl
any-both p (x ∷ xs) ys = go (p x) (any-both p xs ys)
  where
    go : (t : Bool) → any p (xs ++ ys) ≡ (any p xs || any p ys) → (t || any p (xs ++ ys)) ≡ ((t || any p xs) || any p ys)
    go true e = refl
    go false e = e

pub any_none : {A : Type 0} (p : A → Bool) (xs : List A) (x : A) → any p xs ≡ false → p x ≡ false → any p (xs ++ one x) ≡ false
unfolding any
any_none p xs x e f = any-both p xs (one x) ∙ rw (e, f)

-- of things that are known not to pass: neither do those before, nor the last
pub none_more : {A : Type 0} (p : A → Bool) (xs : List A) (x : A) → any p (xs ++ one x) ≡ false → (any p xs ≡ false) × (p x ≡ false)
unfolding any
none_more p xs x e = neither (any p xs) (p x) (sym (any-both p xs (one x)) ∙ e)
  where
    neither : (a b : Bool) → (a || (b || false)) ≡ false → (a ≡ false) × (b ≡ false)
    neither true b q = absurd (false≢true (sym q))
    neither false true q = absurd (false≢true (sym q))
    neither false false q = (refl, refl)

module _ {A : Type 0} (p : A → Bool) where
  from_more : (n found : ℕ) (xs : List A) (x : A) → newest_from p n found (xs ++ one x) ≡ (if p x then n + length xs + 1 else newest_from p n found xs)
  unfolding newest_from
  from_more n found [] x = let e : n + 0 ≡ n = omega arith in rw e
  from_more n found (y ∷ xs) x =
      let e : n + 1 + length xs + 1 ≡ n + suc (length xs) + 1 = omega arith in
      from_more (n + 1) (if p y then n + 1 else found) xs x ∙ ap (λ k. if p x then k else newest_from p (n + 1) (if p y then n + 1 else found) xs) e

  -- ONE MORE is the newest if it passes
  pub newest-more : (xs : List A) (x : A) → newest p (xs ++ one x) ≡ (if p x then length xs + 1 else newest p xs)
  newest-more xs x =
      let e : 0 + length xs + 1 ≡ length xs + 1 = omega arith in
      from_more 0 0 xs x ∙ ap (λ k. if p x then k else newest p xs) e

  pub newest-this : (xs : List A) (x : A) → p x ≡ true → newest p (xs ++ one x) ≡ length xs + 1
  newest-this xs x e = newest-more xs x ∙ rw e

  pub newest-before : (xs : List A) (x : A) → p x ≡ false → newest p (xs ++ one x) ≡ newest p xs
  newest-before xs x e = newest-more xs x ∙ rw e

  pub newest-room : (xs : List A) → newest p xs ≤ length xs
  unfolding newest_from
  newest-room xs = one_by_one (λ ys. newest p ys ≤ length ys) (omega arith) step xs
    where
      step : (ys : List A) (y : A) → newest p ys ≤ length ys → newest p (ys ++ one y) ≤ length (ys ++ one y)
      step ys y h = go (p y) refl
        where
          go : (t : Bool) → p y ≡ t → newest p (ys ++ one y) ≤ length (ys ++ one y)
          go true e = omega (arith, newest-this ys y e, length-append ys (one y))
          go false e = omega (arith, newest-before ys y e, length-append ys (one y), h)

  -- it is one of them, and passes
  pub newest-hit : (d : A) (xs : List A) (c : ℕ) → c ≡ newest p xs → (c ≢ 0) → p (slice_index_or xs (c - 1) d) ≡ true
  unfolding newest_from
  newest-hit d xs = one_by_one (λ ys. (c : ℕ) → c ≡ newest p ys → (c ≢ 0) → p (slice_index_or ys (c - 1) d) ≡ true) (λ c e z. absurd (z e)) step xs
    where
      step : (ys : List A) (y : A) → ((c : ℕ) → c ≡ newest p ys → (c ≢ 0) → p (slice_index_or ys (c - 1) d) ≡ true)
          → (c : ℕ) → c ≡ newest p (ys ++ one y) → (c ≢ 0) → p (slice_index_or (ys ++ one y) (c - 1) d) ≡ true
      step ys y h c e z = go (p y) refl
        where
          go : (t : Bool) → p y ≡ t → p (slice_index_or (ys ++ one y) (c - 1) d) ≡ true
          go true q =
              let at : c - 1 ≡ length ys = omega (arith, newest-this ys y q, e) in
              rw at (ap p (get_or-append_seam ys y [] d) ∙ q)
          go false q =
              let same : c ≡ newest p ys = e ∙ newest-before ys y q in
              ap p (get_or-append ys (one y) d (c - 1) (omega (arith, newest-room ys, same, z))) ∙ h c same z

  -- there is none exactly if none passes
  pub newest-none : (xs : List A) → any p xs ≡ false → newest p xs ≡ 0
  unfolding newest_from
  newest-none xs = one_by_one (λ ys. any p ys ≡ false → newest p ys ≡ 0) (λ e. refl) step xs
    where
      step : (ys : List A) (y : A) → (any p ys ≡ false → newest p ys ≡ 0) → any p (ys ++ one y) ≡ false → newest p (ys ++ one y) ≡ 0
      step ys y h e = let n = none_more p ys y e in newest-before ys y n.1 ∙ h n.0

  pub none-newest : (xs : List A) → newest p xs ≡ 0 → any p xs ≡ false
  unfolding any
  none-newest xs = one_by_one (λ ys. newest p ys ≡ 0 → any p ys ≡ false) (λ e. refl) step xs
    where
      step : (ys : List A) (y : A) → (newest p ys ≡ 0 → any p ys ≡ false) → newest p (ys ++ one y) ≡ 0 → any p (ys ++ one y) ≡ false
      step ys y h e = go (p y) refl
        where
          go : (t : Bool) → p y ≡ t → any p (ys ++ one y) ≡ false
          go true q = absurd (omega (arith, newest-this ys y q, e))
          go false q = any_none p ys y (h (sym (newest-before ys y q) ∙ e)) q

-- what passes only where another test does is not newer than the newest that passes that
pub newest-skip : {A : Type 0} (p q : A → Bool) → ((x : A) → q x ≡ true → p x ≡ true) → (xs : List A) → newest q xs ≡ newest q (take (newest p xs) xs)
unfolding newest_from
newest-skip {A} p q within xs = one_by_one (λ ys. newest q ys ≡ newest q (take (newest p ys) ys)) refl step xs
  where
    step : (ys : List A) (y : A) → newest q ys ≡ newest q (take (newest p ys) ys) → newest q (ys ++ one y) ≡ newest q (take (newest p (ys ++ one y)) (ys ++ one y))
    step ys y h = go (p y) refl (q y) refl
      where
        go : (t : Bool) → p y ≡ t → (u : Bool) → q y ≡ u → newest q (ys ++ one y) ≡ newest q (take (newest p (ys ++ one y)) (ys ++ one y))
        go true e u f =
            ap (newest q) (sym (take_all (newest p (ys ++ one y)) (ys ++ one y) (omega (arith, newest-this p ys y e, length-append ys (one y)))))
        go false e true f = absurd (false≢true (sym e ∙ within y f))
        go false e false f =
            newest-before q ys y f
            ∙ h
            ∙ ap (newest q) (sym (take-append-le (newest p ys) ys (one y) (newest-room p ys)) ∙ ap (λ n. take n (ys ++ one y)) (sym (newest-before p ys y e)))

-- it depends on nothing but what the test says of each
from-said : {A : Type 0} (p : A → Bool) (n found : ℕ) (xs : List A) → newest_from p n found xs ≡ newest_from (λ b. b) n found (map p xs)
unfolding newest_from
from-said p n found [] = refl
from-said p n found (x ∷ xs) = from-said p (n + 1) (if p x then n + 1 else found) xs

pub newest-set : {A : Type 0} (p : A → Bool) (d : A) (xs : List A) (i : ℕ) (y : A) → p y ≡ p (slice_index_or xs i d) → newest p (slice_set xs i y) ≡ newest p xs
newest-set p d xs i y e =
    from-said p 0 0 (slice_set xs i y) ∙ ap (newest (λ b. b)) (map-set_same p xs i y d e) ∙ sym (from-said p 0 0 xs)
