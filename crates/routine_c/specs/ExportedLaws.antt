-- What is handed over, piece by piece. Assumes nothing.
use Rattle.std.specs.Prelude.{ℕ, ◌≤◌, ◌≡◌, refl, List, [], ◌∷◌, Result, length, set}
use Rattle.std.proofs.Common.{ap, arith}
use Rattle.routine.specs.declared.Walked.{Walked}
use Rattle.routine.specs.declared.WalkRefusal.{WalkRefusal}
use Rattle.routine_c.specs.Exported.{Handed, number_of, steps_of, stop_of, counted, handed}

-- no counts, and one
pub no-counts : (counts : List ℕ) (steps stop : ℕ) → length counts ≡ 0 → counts ≡ counted steps stop counts
no-counts [] steps stop h = refl
no-counts (n ∷ counts) steps stop h = absurd (omega arith)

pub one-count : (counts : List ℕ) (steps stop : ℕ) → length (set counts 0 steps) ≤ 1 → set counts 0 steps ≡ counted steps stop counts
one-count [] steps stop h = refl
one-count (n ∷ []) steps stop h = refl
one-count (n ∷ m ∷ counts) steps stop h = absurd (omega arith)

pub handed-is : (lent : List ℕ) {a : Result Walked WalkRefusal} {p : Result Walked WalkRefusal × List ℕ} {n s t : ℕ} {left last : List ℕ}
    → n ≡ number_of a → s ≡ steps_of a → t ≡ stop_of a → last ≡ counted s t lent → ◌≡◌ {A = Result Walked WalkRefusal × List ℕ} (a, left) p
    → ◌≡◌ {A = Handed} (record { number = n; rows = left; counts = last }) (handed p lent)
handed-is lent {left = left} e f g h q = rw (e, h, f, g) (ap (λ p. handed p lent) q)
