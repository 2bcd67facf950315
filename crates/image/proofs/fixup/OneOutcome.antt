-- Finding the target of a reference has one outcome, by the contract alone. Assumes nothing.
use Rattle.std.specs.Prelude.{◌≡◌, ℕ, List}
use Rattle.lent.specs.OneOutcome.{Determines, by-equation}
use Rattle.image.specs.declared.Stretch.{Stretch}
use Rattle.image.specs.View.{view}
use Rattle.image.specs.declared.fixup.Rules.{Rules}
use Rattle.image.specs.declared.fixup.Kind.{Kind}
use Rattle.image.specs.fixup.Target.{target}

pub find-target-one : (image : List ℕ) (s : List Stretch) (rules : Rules) (pos : ℕ) (kind : Kind) (offset : ℕ)
    → Determines (λ r. r ≡ target (view image s) rules pos kind offset)
find-target-one image s rules pos kind offset = by-equation (target (view image s) rules pos kind offset)
