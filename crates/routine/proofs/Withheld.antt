-- Demand 3: bytes that are withheld have no influence on a walk. Assumes nothing.
use Rattle.std.specs.Prelude.{ℕ, ◌≡◌, List}
use Rattle.std.proofs.Common.{ap}
use Rattle.image.proofs.ViewLaws.{Agree, same_view}
use Rattle.image.specs.Cover.{cover_of}
use Rattle.image.specs.declared.cover.Stretches.{Stretches}
use Rattle.routine.specs.Outcome.{seen, outcome}

-- two images of one length that agree outside the stretches give one outcome: the answer, and every lent number
pub same-walk : (a b : List ℕ) (w : Stretches) (start : ℕ) (lent : List ℕ) → Agree a b (cover_of w) → outcome a w start lent ≡ outcome b w start lent
unfolding outcome
same-walk a b w start lent h = ap (λ cells. seen cells w start lent) (same_view a b (cover_of w) h)
