-- Each answer of the entry, by its tests in their order. Assumes nothing.
use Rattle.std.specs.Prelude.{ℕ, ◌≤◌, ◌<◌, ◌≡◌, true, false, List, Result, Err, length}
use borrow.Author.Tests.{lt-ltb, le-ltb, lt-leb, le-leb}
use Rattle.image.specs.View.{view}
use Rattle.image.proofs.ViewLaws.{view-length}
use Rattle.image.specs.Cover.{cover_of, passes_end}
use Rattle.image.specs.declared.cover.Stretches.{Stretches}
use Rattle.routine.specs.declared.Walked.{Walked}
use Rattle.routine.specs.declared.WalkRefusal.{WalkRefusal}
use Rattle.routine.specs.declared.WalkRefusal.TheVariants.{ImageTooLong, TooManyStretches, StretchPastEnd, StartPastEnd}
use Rattle.routine.specs.Walk.{walked}
use Rattle.routine.specs.Outcome.{laid, outcome}

module _ (image : List ℕ) (w : Stretches) (start : ℕ) (lent : List ℕ) where
  abbrev Gives : Result Walked WalkRefusal × List ℕ → Type 0
  Gives o = o ≡ outcome image w start lent

  abbrev long : length (view image (cover_of w)) ≡ length image
  long = view-length image (cover_of w)

  pub too_long : 65536 < length image → Gives (Err ImageTooLong, lent)
  unfolding outcome
  too_long h = rw (long, lt-ltb 65536 (length image) h)

  module _ (short : length image ≤ 65536) where
    pub too_many : 16 < w.count → Gives (Err TooManyStretches, lent)
    unfolding outcome
    too_many h = rw (long, le-ltb 65536 (length image) short, lt-ltb 16 w.count h)

    module _ (few : w.count ≤ 16) where
      pub stretch-past : passes_end (length image) (cover_of w) ≡ true → Gives (Err StretchPastEnd, lent)
      unfolding outcome
      stretch-past e = rw (long, le-ltb 65536 (length image) short, le-ltb 16 w.count few, e)

      module _ (fit : passes_end (length image) (cover_of w) ≡ false) where
        pub start-past : length image ≤ start → Gives (Err StartPastEnd, lent)
        unfolding outcome
        start-past h = rw (long, le-ltb 65536 (length image) short, le-ltb 16 w.count few, fit, le-leb (length image) start h)

        pub is-walked : start < length image → Gives (laid (walked (view image (cover_of w)) start) (length lent))
        unfolding outcome
        is-walked h = rw (long, le-ltb 65536 (length image) short, le-ltb 16 w.count few, fit, lt-leb (length image) start h)

-- all of them
pub ruleset answers = (too_long, too_many, stretch-past, start-past, is-walked)
