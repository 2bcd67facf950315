-- `list_beyond`: whoever adds what is left from the bound on has added all. Assumes nothing.
use Prim.Native.Nat.{ℕ, ◌+◌, ◌-◌}
use mathlib.Core.Path.{◌≡◌}
use mathlib.Core.List.{List}
use lib.ListN.{length}
use Rattle.tables.specs.declared.fill.Fill.{Fill}
use Rattle.listing_rules.specs.Listing.{SkipAmount}
use Rattle.listing.specs.past_end.BeyondLaws.{Leaves}
use Rattle.listing.proofs.past_end.list_beyond.Given as goal

pub record Inv (noted : List ℕ) (n : ℕ) (goals : List ℕ) (end : ℕ) (skip : SkipAmount) (lines₀ : List ℕ) (f₀ : Fill) (lines : List ℕ) (f : Fill) (bound : ℕ) : Type 0 where
  pub long : length lines ≡ length lines₀
  pub leaves : Leaves noted n goals end skip lines₀ f₀ lines f bound

abbrev pub invariant-loop-bound : goal.invariant-loop-bound
invariant-loop-bound l =
    Inv (l.noted) l.n (l.goals) l.end l.skip l.initial.lines l.initial.f l.lines l.f l.bound

abbrev pub decreases-loop-bound : goal.decreases-loop-bound
decreases-loop-bound l =
    l.top + 1 - l.bound
