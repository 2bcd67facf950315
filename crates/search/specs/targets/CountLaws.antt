-- Whether so many of a list are kept: as many as are taken of those that are. Assumes nothing.
use Rattle.std.specs.Prelude.{◌≡◌, ℕ, ◌≤◌, Bool, List, [], ◌∷◌, length, take, nat_eq, nat_le, if◌then◌else◌}
use Rattle.std.specs.List.{filter}
use Rattle.std.proofs.Common.{refl, sym, ap, ◌∙◌, arith}
use Rattle.std.proofs.Math.Decide.{dec_le}
use Rattle.std.proofs.lemmas.List.{length-take, length-take-le}
use borrow.Author.Tests.{eq-eqb, ne_eqb, le-leb, lt-leb}
use Rattle.lent.specs.Lists.{keep}

-- what the library keeps of a list is what is kept here
pub kept-filter : (p : ℕ → Bool) (xs : List ℕ) → filter p xs ≡ keep p xs
unfolding keep
kept-filter p [] = refl
kept-filter p (x ∷ xs) = ap (λ ys. if p x then x ∷ ys else ys) (kept-filter p xs)

pub taken-all : (n : ℕ) (xs : List ℕ) → nat_eq (length (take n xs)) n ≡ nat_le n (length xs)
taken-all n xs = go (dec_le n (length xs))
  where
    go : Dec (n ≤ length xs) → nat_eq (length (take n xs)) n ≡ nat_le n (length xs)
    go (yes l) = eq-eqb (length (take n xs)) n (length-take-le n xs l) ∙ sym (le-leb n (length xs) l)
    go (no l) = ne_eqb (length (take n xs)) n (λ e. omega (arith, l, e, length-take n xs)) ∙ sym (lt-leb n (length xs) (omega (arith, l)))
