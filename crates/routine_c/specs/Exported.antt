-- What the exported function hands over: plain numbers instead of an answer.
use Rattle.std.specs.Prelude.{ℕ, List, Result, Ok, Err, set}
use Rattle.routine.specs.declared.Walked.{Walked}
use Rattle.routine.specs.declared.WalkRefusal.{WalkRefusal}
use Rattle.routine.specs.Outcome.{walk_number, why_number}

abbrev pub number_of : Result Walked WalkRefusal → ℕ
number_of (Ok w) = 0
number_of (Err r) = walk_number r

abbrev pub steps_of : Result Walked WalkRefusal → ℕ
steps_of (Ok w) = w.steps
steps_of (Err r) = 0

abbrev pub stop_of : Result Walked WalkRefusal → ℕ
stop_of (Ok w) = why_number w.why
stop_of (Err r) = 0

-- the first two numbers of the lent counts, as far as they are lent
abbrev pub counted : ℕ → ℕ → List ℕ → List ℕ
counted steps stop lent = set (set lent 0 steps) 1 stop

-- the number that is given, the lent rows, and the lent counts: how many instructions are shown, and why no more are
pub record Handed : Type 0 where
  pub number : ℕ
  pub rows : List ℕ
  pub counts : List ℕ

abbrev pub handed : Result Walked WalkRefusal × List ℕ → List ℕ → Handed
handed (answer, left) lent = record { number = number_of answer; rows = left; counts = counted (steps_of answer) (stop_of answer) lent }
