-- The exported function has one outcome, by its contract alone. Assumes nothing.
use Rattle.std.specs.Prelude.{ℕ, ◌≡◌, List}
use Rattle.lent.specs.OneOutcome.{Determines, by-equation}
use Rattle.image.specs.Cover.{no_stretches, gathered}
use Rattle.routine.specs.Outcome.{outcome}
use Rattle.routine_c.specs.Exported.{handed}

pub walk-one : (image withheld : List ℕ) (start : ℕ) (rows counts : List ℕ) → Determines (λ h. h ≡ handed (outcome image (gathered no_stretches withheld) start rows) counts)
walk-one image withheld start rows counts = by-equation (handed (outcome image (gathered no_stretches withheld) start rows) counts)
