-- A type that one arm of a decision names, and one that no arm names. Assumes nothing.
use Rattle.std.specs.Prelude.{ℕ, ◌≡◌, refl, Bool, true, false, ◌||◌, List, [], ◌∷◌, eqb}
use Rattle.std.proofs.Common.{sym, inl, inr, eq-eqb, ne_eqb}
use types.Run.{OneOf}
use Rattle.lent.specs.Lists.{is_in, any}

pub one_in : (k : ℕ) (ks : List ℕ) (type : ℕ) → OneOf (k ∷ ks) type → is_in (k ∷ ks) type ≡ true
unfolding any
one_in k [] type e = rw (eq-eqb type k e)
one_in k (l ∷ ks) type (inl e) = rw (eq-eqb type k e)
one_in k (l ∷ ks) type (inr h) = go (eqb type k) (one_in l ks type h)
  where
    go : (t : Bool) → is_in (l ∷ ks) type ≡ true → (t || is_in (l ∷ ks) type) ≡ true
    go true e = refl
    go false e = e

pub none_in : (k : ℕ) (ks : List ℕ) (type : ℕ) → (OneOf (k ∷ ks) type → ⊥) → is_in (k ∷ ks) type ≡ false
unfolding any
none_in k [] type h = rw (ne_eqb type k h)
none_in k (l ∷ ks) type h = rw (ne_eqb type k (λ e. h (inl e))) (none_in l ks type (λ q. h (inr q)))

-- the second of two groups
pub or-second : (a : Bool) {b : Bool} → b ≡ true → true ≡ (a || b)
or-second true e = refl
or-second false e = sym e
