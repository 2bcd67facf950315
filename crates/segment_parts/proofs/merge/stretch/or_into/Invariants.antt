-- `or_into` ORs one byte after another. The invariant: the first i of the new bytes are in. Assumes nothing.
use Prim.Native.Nat.{ℕ, ◌≤◌}
use mathlib.Core.Path.{◌≡◌}
use mathlib.Core.List.{List}
use lib.ListN.{length, take}
use Rattle.segments.specs.Masks.{ored}
use Rattle.segment_parts.proofs.merge.stretch.or_into.Given as goal

pub record Inv (old₀ new old : List ℕ) (i : ℕ) : Type 0 where
  pub within : i ≤ length new
  pub long : length old ≡ length old₀
  pub in_place : old ≡ ored old₀ (take i new)

abbrev pub invariant-loop-i : goal.invariant-loop-i
invariant-loop-i l =
    Inv l.initial.old l.new l.old l.i
