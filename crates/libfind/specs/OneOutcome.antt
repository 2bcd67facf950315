-- The beginning of a run, and its rest once the segments are collected, have one outcome each, by their contracts alone; that of the whole run is
-- `one-outcome` of the demands. Assumes nothing.
use Rattle.std.specs.Prelude.{ℕ, ◌≡◌, List}
use Rattle.std.proofs.Math.Option.{Option}
use Rattle.lent.specs.declared.refusal.Refusal.{Refusal}
use Rattle.lent.specs.OneOutcome.{Determines, by-equation}
use Rattle.image.specs.View.{view}
use Rattle.image.specs.fixup.Target.{rules_of}
use Rattle.collect.specs.declared.stored.CollectCounts.{CollectCounts}
use Rattle.listing.specs.Outcome.{find_outcome}
use Rattle.run.specs.declared.Settings.{Settings}
use Rattle.run.specs.Run.{Lent, asked_of, too_long, cover}
use Rattle.libfind.specs.Begin.{checked, beginning}
use Rattle.libfind.specs.Ends.{given_lists, concluded}

pub single-one : (size : ℕ) → Determines (λ r. r ≡ checked (too_long size))
single-one size = by-equation (checked (too_long size))

pub begin-one : (own : Option Refusal) (size : ℕ) (library : List ℕ) (s : Settings) → Determines (λ r. r ≡ beginning own size library s)
begin-one own size library s = by-equation (beginning own size library s)

pub rules-of-one : (number : ℕ) → Determines (λ r. r ≡ rules_of number)
rules-of-one number = by-equation (rules_of number)

-- `find_collected`, for an image of at most 65,536 bytes
pub find-collected-one : (image library : List ℕ) (s : Settings) (c : CollectCounts) (before : Lent)
    → Determines (λ o. o ≡ concluded c (find_outcome (view image (cover s)) (asked_of s) s.skip library c.segments (given_lists before)))
find-collected-one image library s c before = by-equation (concluded c (find_outcome (view image (cover s)) (asked_of s) s.skip library c.segments (given_lists before)))
