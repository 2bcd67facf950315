-- ORing one byte a turn: after i turns the first i of the new bytes are in. Assumes nothing.
use Rattle.std.specs.Prelude.{ℕ, zero, suc, ◌+◌, ◌≤◌, ◌<◌, ◌≡◌, refl, List, [], ◌∷◌, length, get_or, take, set}
use Rattle.std.proofs.Common.{sym, ap, add-one, arith}
use Rattle.std.specs.Int.Bits.{bit_or}
use Rattle.segments.specs.Masks.{ored}

pub or-none : (old : List ℕ) → ored old [] ≡ old
unfolding ored
or-none [] = refl
or-none (x ∷ old) = refl

or-next : (old new : List ℕ) (i : ℕ) → i < length old → i < length new
    → set (ored old (take i new)) i (bit_or (get_or (ored old (take i new)) i 0) (get_or new i 0)) ≡ ored old (take (suc i) new)
unfolding ored
or-next [] new i h k = absurd (omega arith)
or-next (x ∷ old) [] i h k = absurd (omega arith)
or-next (x ∷ old) (y ∷ new) zero h k = ap (λ rest. bit_or x y ∷ rest) (sym (or-none old))
or-next (x ∷ old) (y ∷ new) (suc i) h k = ap (λ rest. bit_or x y ∷ rest) (or-next old new i (omega arith) (omega arith))

pub or_turn : (old new : List ℕ) (i : ℕ) → i < length old → i < length new
    → set (ored old (take i new)) i (bit_or (get_or (ored old (take i new)) i 0) (get_or new i 0)) ≡ ored old (take (i + 1) new)
or_turn old new i h k = rw (add-one i) (or-next old new i h k)

-- new bytes past the end of the old ones count for nothing
pub or-over : (old new : List ℕ) (i : ℕ) → length old ≤ i → ored old (take i new) ≡ ored old new
unfolding ored
or-over [] new i h = refl
or-over (x ∷ old) [] zero h = refl
or-over (x ∷ old) [] (suc i) h = refl
or-over (x ∷ old) (y ∷ new) zero h = absurd (omega arith)
or-over (x ∷ old) (y ∷ new) (suc i) h = ap (λ rest. bit_or x y ∷ rest) (or-over old new i (omega arith))

-- where either has no byte left, all are in
pub or-end : (old new : List ℕ) (i : ℕ) → (i < length old → i < length new → ⊥) → ored old (take i new) ≡ ored old new
unfolding ored
or-end [] new i h = refl
or-end (x ∷ old) [] zero h = refl
or-end (x ∷ old) [] (suc i) h = refl
or-end (x ∷ old) (y ∷ new) zero h = absurd (h (omega arith) (omega arith))
or-end (x ∷ old) (y ∷ new) (suc i) h = ap (λ rest. bit_or x y ∷ rest) (or-end old new i (λ a b. h (omega arith) (omega arith)))
