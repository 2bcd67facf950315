-- `flag_along` goes from link to link. Assumes nothing.
use Prim.Native.Nat.{ℕ, ◌-◌, ◌<◌, ◌^◌}
use mathlib.Core.Path.{◌≡◌}
use mathlib.Core.List.{List}
use Rattle.tables.specs.links.Things.{next_of}
use Rattle.tables.specs.links.Index.{link_from, Linked}
use Rattle.segment_parts.specs.declared.symbols_by_offset.flags.Blocks.{Blocks}
use Rattle.segment_parts.specs.symbols_by_offset.Flags.{Grows, Wide}
use Rattle.segment_parts.specs.symbols_by_offset.FlagLaws.{Way}
use Rattle.segment_parts.proofs.symbols_by_offset.flags.flag_along.Given as goal

pub record Inv (link : ℕ) (next flags₀ : List ℕ) (s₀ : Blocks) (flags : List ℕ) (last here : ℕ) (s : Blocks) : Type 0 where
  pub small : here < 2 ^ 32
  pub grows : Grows flags₀ s₀ flags s
  pub way : (keys first : List ℕ) (v : ℕ) → Linked keys 0 first next → Wide keys flags₀ → link ≡ link_from keys v 0 → Way keys v last here flags s

abbrev pub invariant-loop-last : goal.invariant-loop-last
invariant-loop-last l =
    Inv l.link (next_of l.publics) l.initial.flags l.initial.s l.flags l.last l.here l.s

abbrev pub decreases-loop-last : goal.decreases-loop-last
decreases-loop-last l =
    2 ^ 32 - l.last
