-- The walk over the view: the instructions one after another, in their order in memory.
use Rattle.std.specs.Prelude.{ℕ, zero, suc, List, [], ◌∷◌, Result, Ok, Err, if◌then◌else◌}
use Rattle.lent.specs.Lists.{one}
use Rattle.routine.specs.declared.Row.{Row}
use Rattle.routine.specs.declared.Why.{Why}
use Rattle.routine.specs.declared.Why.TheVariants.{Return, Limit}
use Rattle.routine.specs.declared.step.Shown.{Shown}
use Rattle.routine.specs.Step.{step_at}

-- the instructions that are shown, and why no more are
pub record Steps : Type 0 where
  pub rows : List Row
  pub why : Why

abbrev pub stops : List Row → Why → Steps
stops rows why = record { rows = rows; why = why }

-- an instruction before others
abbrev pub before : Row → Steps → Steps
before row w = stops (row ∷ w.rows) w.why

-- what a step leads to, where `rest` says what the walk from the next place on is: it ends behind a return
abbrev pub after : (ℕ → Steps) → Result Shown Why → Steps
after rest (Err why) = stops [] why
after rest (Ok s) = if s.last then stops (one s.row) Return else before s.row (rest s.next)

-- the walk from a place on, of at most n instructions; behind the last of them nothing is looked at
unfoldable pub walk : List ℕ → ℕ → ℕ → Steps
walk cells zero at = stops [] Limit
walk cells (suc n) at = after (walk cells n) (step_at cells at)

-- the whole walk
abbrev pub walked : List ℕ → ℕ → Steps
walked cells start = walk cells 256 start
