-- Comparing strings of bytes from the front. Assumes nothing.
use Rattle.std.specs.Prelude.{ℕ, suc, ◌+◌, ◌-◌, ◌≤◌, ◌<◌, ◌≡◌, Bool, ◌&&◌, ◌||◌, eqb, ltb, length, get_or, take, drop}
use Rattle.std.proofs.Math.Path.{refl}
use Rattle.std.proofs.Common.{sym, ap, add-one, arith, drop-cons}
use Rattle.std.proofs.Math.Bool.{true, false}
use mathlib.Core.List.{List, [], ◌∷◌}
use Rattle.std.proofs.Math.Nat.{add-sub_cancel_left}
use borrow.Author.Tests.{eq-eqb, ne_eqb, le-ltb, le-leb, lt-leb}
use Rattle.std.proofs.Math.ListN.{drop_of_length-le}
use Rattle.lent.specs.declared.part.Part.{Part}
use Rattle.lent.specs.Lists.{total}
use Rattle.std.specs.Prelude.{nat_eq, cond}
use Rattle.std.specs.Ordering.{nat_cmp, ordering_then, is_lt}
use Rattle.std.specs.Cmp.Lexicographic.{pointwise, slice_cmp}
use Rattle.std.specs.declared.cmp.Ordering.TheVariants.{Less, Equal, Greater}
use Rattle.lent.specs.Parts.{bytes_of, same, before}

-- a loop over a list by its places
pub drop-turn : {A : Type 0} (xs : List A) (i : ℕ) (d : A) → i < length xs → drop i xs ≡ get_or xs i d ∷ drop (i + 1) xs
drop-turn xs i d h = rw (add-one, drop-cons xs i d)

-- what is left of a sum at a place, and at the list's end
pub total-turn : {A : Type 0} (f : A → ℕ) (xs : List A) (i : ℕ) (d : A) → i < length xs → total f (drop i xs) ≡ f (get_or xs i d) + total f (drop (i + 1) xs)
unfolding total
total-turn f xs i d h = rw (drop-turn xs i d h)

pub total-done : {A : Type 0} (f : A → ℕ) (xs : List A) (i : ℕ) → length xs ≤ i → total f (drop i xs) ≡ 0
unfolding total
total-done f xs i h = rw (drop_of_length-le xs h)

-- a part that passes the library's end is empty; one that fits is its bytes
pub part-past : (library : List ℕ) (p : Part) → length library < p.at + p.len → bytes_of library p ≡ []
part-past library p h = rw (lt-leb (p.at + p.len) (length library) h)

pub part-fits : (library : List ℕ) (p : Part) → p.at + p.len ≤ length library → bytes_of library p ≡ take (p.at + p.len - p.at) (drop p.at library)
part-fits library p h = rw (le-leb (p.at + p.len) (length library) h, add-sub_cancel_left p.at p.len)

-- strings of two lengths differ; from place i on they go on alike, or differ there, or are at their end
pub same-lengths : (a b : List ℕ) → (length a ≡ length b → ⊥) → same a b ≡ false
unfolding same
same-lengths [] [] h = absurd (h refl)
same-lengths [] (y ∷ b) h = refl
same-lengths (x ∷ a) [] h = refl
same-lengths (x ∷ a) (y ∷ b) h = go (eqb x y) (same-lengths a b (λ e. h (ap suc e)))
  where
    go : (t : Bool) → same a b ≡ false → (t && same a b) ≡ false
    go true e = e
    go false e = refl

module _ (a b : List ℕ) (i : ℕ) where
  pub same_turn : i < length a → i < length b → get_or a i 0 ≡ get_or b i 0 → same (drop i a) (drop i b) ≡ same (drop (i + 1) a) (drop (i + 1) b)
  unfolding same
  same_turn l m e = rw (drop-turn a i 0 l, drop-turn b i 0 m, eq-eqb (get_or a i 0) (get_or b i 0) e)

  pub same_differs : i < length a → i < length b → (get_or a i 0 ≡ get_or b i 0 → ⊥) → same (drop i a) (drop i b) ≡ false
  unfolding same
  same_differs l m e = rw (drop-turn a i 0 l, drop-turn b i 0 m, ne_eqb (get_or a i 0) (get_or b i 0) e)

  pub same_ends : length a ≤ i → length b ≤ i → same (drop i a) (drop i b) ≡ true
  unfolding same
  same_ends l m = rw (drop_of_length-le a l, drop_of_length-le b m)

  -- and in byte order
  pub before-turn : i < length a → i < length b → get_or a i 0 ≡ get_or b i 0 → before (drop i a) (drop i b) ≡ before (drop (i + 1) a) (drop (i + 1) b)
  unfolding before
  before-turn l m e =
      rw (drop-turn a i 0 l, drop-turn b i 0 m, le-ltb (get_or a i 0) (get_or b i 0) (omega arith), eq-eqb (get_or a i 0) (get_or b i 0) e)

  pub before-differs : i < length a → i < length b → (get_or a i 0 ≡ get_or b i 0 → ⊥) → before (drop i a) (drop i b) ≡ ltb (get_or a i 0) (get_or b i 0)
  unfolding before
  before-differs l m e =
      rw (drop-turn a i 0 l, drop-turn b i 0 m, ne_eqb (get_or a i 0) (get_or b i 0) e) (go (ltb (get_or a i 0) (get_or b i 0)))
    where
      go : (t : Bool) → (t || false) ≡ t
      go true = refl
      go false = refl

  pub before-longer : length a ≤ i → i < length b → before (drop i a) (drop i b) ≡ true
  unfolding before
  before-longer l m = rw (drop_of_length-le a l, drop-turn b i 0 m)

  pub before-ends : length b ≤ i → before (drop i a) (drop i b) ≡ false
  unfolding before
  before-ends m = rw (drop_of_length-le b m) (go (drop i a))
    where
      go : (xs : List ℕ) → before xs [] ≡ false
      go [] = refl
      go (x ∷ xs) = refl

-- std's equality of strings of bytes is `same`, and its order of them is `before`
pub same_is : (a b : List ℕ) → pointwise nat_eq a b ≡ same a b
unfolding same
same_is [] [] = refl
same_is [] (y ∷ b) = refl
same_is (x ∷ a) [] = refl
same_is (x ∷ a) (y ∷ b) = rw (same_is a b)

pub before-is : (a b : List ℕ) → is_lt (slice_cmp nat_cmp a b) ≡ before a b
unfolding before
before-is [] [] = refl
before-is [] (y ∷ b) = refl
before-is (x ∷ a) [] = refl
before-is (x ∷ a) (y ∷ b) = rw (sym (before-is a b)) (go (ltb x y) (eqb x y))
  where
    go : (t u : Bool) → is_lt (ordering_then (cond t Less (cond u Equal Greater)) (slice_cmp nat_cmp a b)) ≡ (t || (u && is_lt (slice_cmp nat_cmp a b)))
    go true u = refl
    go false true = refl
    go false false = refl
