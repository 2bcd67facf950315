-- `step_along` follows the links. The invariant: at this link the same matches are left as at the first. Assumes nothing.
use Rattle.std.proofs.Common.{◌≡◌, ℕ, List}
use Rattle.image.specs.declared.Stretch.{Stretch}
use Rattle.image.specs.View.{stretches_in, view}
use Rattle.search.specs.matches.Cursor.{left_along, SoundAlong}
use Rattle.search.specs.matches.StepLaws.{ahead}
use Rattle.search.proofs.matches.step_along.Given as goal

pub record Inv (image : List ℕ) (s : List Stretch) (bytes masks : List ℕ) (anchor from link : ℕ) : Type 0 where
  pub sound : SoundAlong image bytes masks anchor link
  pub same : left_along (view image s) bytes masks anchor from ≡ left_along (view image s) bytes masks anchor link

abbrev pub invariant-loop-link : goal.invariant-loop-link
invariant-loop-link l =
    Inv l.view.image.now (stretches_in l.view.s.now) l.bytes l.masks l.anchor l.from l.link

abbrev pub decreases-loop-link : goal.decreases-loop-link
decreases-loop-link l =
    ahead l.view.image.now l.link
