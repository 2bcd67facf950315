-- What the exported functions hand over: plain numbers instead of an answer.
use Rattle.std.specs.Prelude.{ℕ, Result, Ok, Err, List, set}
use Rattle.intel_hex.specs.declared.HexRefusal.{HexRefusal}
use Rattle.intel_hex.specs.Outcome.{hex_number}

abbrev pub number_of : Result ℕ HexRefusal → ℕ
number_of (Ok n) = 0
number_of (Err r) = hex_number r

abbrev pub size_of : Result ℕ HexRefusal → ℕ
size_of (Ok n) = n
size_of (Err r) = 0

-- the number that is given, the lent buffer, and the lent counts, of which the first is how many bytes were written
pub record Handed : Type 0 where
  pub number : ℕ
  pub out : List ℕ
  pub counts : List ℕ

abbrev pub handed : Result ℕ HexRefusal × List ℕ → List ℕ → Handed
handed (answer, left) lent = record { number = number_of answer; out = left; counts = set lent 0 (size_of answer) }
