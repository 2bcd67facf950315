-- `list_span`: whoever adds the lines of the targets that are left has added all. Assumes nothing.
use Prim.Native.Nat.{ℕ, ◌≤◌, max}
use mathlib.Core.Path.{◌≡◌}
use mathlib.Core.List.{List}
use lib.ListN.{length}
use Rattle.tables.specs.declared.fill.Fill.{Fill}
use Rattle.listing_rules.specs.Listing.{SkipAmount}
use Rattle.listing.specs.past_end.TargetLaws.{Spans}
use Rattle.listing.proofs.past_end.span.list_span.Given as goal

pub record Inv (noted goals : List ℕ) (first last : ℕ) (skip : SkipAmount) (lines₀ : List ℕ) (f₀ : Fill) (lines : List ℕ) (f : Fill) (t : ℕ) : Type 0 where
  pub within : t ≤ max first last
  pub long : length lines ≡ length lines₀
  pub spans : Spans noted goals first last skip lines₀ f₀ lines f t

abbrev pub invariant-loop-t : goal.invariant-loop-t
invariant-loop-t l =
    Inv (l.noted) (l.goals) l.first l.last l.skip l.initial.lines l.initial.f l.lines l.f l.t
