-- Positions without rows: the heads of their buckets are 0.
use Rattle.std.specs.Prelude.{ℕ, ◌+◌, ◌≤◌, ◌<◌, ◌≡◌, Bool, true, List, get_or}

-- no position from one on, and before another, has a row
abbrev pub BareTo : List ℕ → List ℕ → ℕ → ℕ → Type 0
BareTo positions goals at to = (k : ℕ) → at ≤ k → k < to → (get_or positions k 0 ≡ 0) × (get_or goals k 0 ≡ 0)

-- the 8 positions from one on have no rows, if the answer is yes
abbrev pub IsBare : List ℕ → List ℕ → ℕ → Bool → Type 0
IsBare positions goals at r = r ≡ true → BareTo positions goals at (at + 8)

-- positions without rows are passed over, from one on, and none that is past the end
pub record Skips (positions goals : List ℕ) (from end r : ℕ) : Type 0 where
  pub on : from ≤ r
  pub within : from ≤ end → r ≤ end
  pub bare : BareTo positions goals from r
