-- The functions on patterns and covers have one outcome each, by their contracts alone. Assumes nothing.
use Rattle.std.specs.Prelude.{◌≡◌, ℕ, ◌*◌, min, List, take}
use Rattle.lent.specs.OneOutcome.{Determines, by-equation}
use Rattle.image.specs.declared.Stretch.{Stretch}
use Rattle.image.specs.declared.cover.Stretches.{Stretches}
use Rattle.image.specs.View.{view}
use Rattle.image.specs.Match.{matches_at}
use Rattle.image.specs.Window.{is_apart}
use Rattle.image.specs.Next.{next_match}
use Rattle.image.specs.Cover.{one_more, gathered, no_stretches, passes_end}

pub is-apart-one : (s : List Stretch) (at n : ℕ) → Determines (λ r. r ≡ is_apart s at n)
is-apart-one s at n = by-equation (is_apart s at n)

pub stands-at-one : (image bytes masks : List ℕ) (at : ℕ) → Determines (λ r. r ≡ matches_at image bytes masks at)
stands-at-one image bytes masks at = by-equation (matches_at image bytes masks at)

pub match-at-one : (image : List ℕ) (s : List Stretch) (bytes masks : List ℕ) (at : ℕ) → Determines (λ r. r ≡ matches_at (view image s) bytes masks at)
match-at-one image s bytes masks at = by-equation (matches_at (view image s) bytes masks at)

pub next-match-one : (image : List ℕ) (s : List Stretch) (bytes masks : List ℕ) (from : ℕ) → Determines (λ r. r ≡ next_match (view image s) bytes masks from)
next-match-one image s bytes masks from = by-equation (next_match (view image s) bytes masks from)

pub first-pairs-one : (pairs : List ℕ) (count : ℕ) → Determines (λ r. r ≡ take (2 * min count 16) pairs)
first-pairs-one pairs count = by-equation (take (2 * min count 16) pairs)

pub passes-end-one : (len : ℕ) (s : List Stretch) → Determines (λ r. r ≡ passes_end len s)
passes-end-one len s = by-equation (passes_end len s)

pub no-stretches-one : Determines (λ r. r ≡ no_stretches)
no-stretches-one = by-equation no_stretches

pub one-more-one : (w : Stretches) (start len : ℕ) → Determines (λ r. r ≡ one_more w start len)
one-more-one w start len = by-equation (one_more w start len)

pub gather-one : (numbers : List ℕ) → Determines (λ r. r ≡ gathered no_stretches numbers)
gather-one numbers = by-equation (gathered no_stretches numbers)
