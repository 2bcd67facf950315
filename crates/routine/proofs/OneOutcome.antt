-- The functions of a walk have one outcome each, by their contracts alone. Assumes nothing.
use Rattle.std.specs.Prelude.{ℕ, ◌≡◌, List}
use Rattle.lent.specs.OneOutcome.{Determines, by-equation}
use Rattle.image.specs.View.{view}
use Rattle.image.specs.declared.Stretch.{Stretch}
use Rattle.image.specs.declared.cover.Stretches.{Stretches}
use Rattle.routine.specs.declared.Why.{Why}
use Rattle.routine.specs.declared.WalkRefusal.{WalkRefusal}
use Rattle.routine.specs.Step.{step_at}
use Rattle.routine.specs.Outcome.{walk_number, why_number, outcome}

pub step-at-one : (image : List ℕ) (s : List Stretch) (at : ℕ) → Determines (λ r. r ≡ step_at (view image s) at)
step-at-one image s at = by-equation (step_at (view image s) at)

pub walk-routine-one : (image : List ℕ) (w : Stretches) (start : ℕ) (lent : List ℕ) → Determines (λ o. o ≡ outcome image w start lent)
walk-routine-one image w start lent = by-equation (outcome image w start lent)

pub number-one : (r : WalkRefusal) → Determines (λ n. n ≡ walk_number r)
number-one r = by-equation (walk_number r)

pub why-number-one : (why : Why) → Determines (λ n. n ≡ why_number why)
why-number-one why = by-equation (why_number why)
