-- What is handed over, piece by piece. Assumes nothing.
use Rattle.std.specs.Prelude.{ℕ, ◌≤◌, ◌≡◌, refl, Result, List, [], ◌∷◌, length, set}
use Rattle.std.proofs.Common.{ap, arith}
use Rattle.intel_hex.specs.declared.HexRefusal.{HexRefusal}
use Rattle.hex_c.specs.Exported.{Handed, number_of, size_of, handed}

pub no-counts : (counts : List ℕ) (size : ℕ) → length counts ≤ 0 → counts ≡ set counts 0 size
no-counts [] size h = refl
no-counts (n ∷ counts) size h = absurd (omega arith)

pub handed-is : (lent : List ℕ) {a : Result ℕ HexRefusal} {p : Result ℕ HexRefusal × List ℕ} {n s : ℕ} {left last : List ℕ}
    → n ≡ number_of a → s ≡ size_of a → last ≡ set lent 0 s → ◌≡◌ {A = Result ℕ HexRefusal × List ℕ} (a, left) p
    → ◌≡◌ {A = Handed} (record { number = n; out = left; counts = last }) (handed p lent)
handed-is lent {left = left} e f g q = rw (e, g, f) (ap (λ p. handed p lent) q)
