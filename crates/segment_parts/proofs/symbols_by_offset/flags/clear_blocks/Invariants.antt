-- `clear_blocks` goes over the blocks. Assumes nothing.
use Prim.Native.Nat.{ℕ}
use mathlib.Core.Path.{◌≡◌}
use mathlib.Core.List.{List}
use lib.ListN.{length}
use Rattle.segment_parts.specs.declared.symbols_by_offset.flags.Blocks.{Blocks}
use Rattle.segment_parts.specs.symbols_by_offset.Flags.{Bounds}
use Rattle.segment_parts.specs.symbols_by_offset.FlagLaws.{ClearTo}
use Rattle.segment_parts.proofs.symbols_by_offset.flags.clear_blocks.Given as goal

pub record Inv (flags₀ : List ℕ) (s : Blocks) (flags : List ℕ) (b : ℕ) : Type 0 where
  pub long : length flags ≡ length flags₀
  pub clear : Bounds flags₀ s → ClearTo s flags b

abbrev pub invariant-loop-b : goal.invariant-loop-b
invariant-loop-b l =
    Inv l.initial.flags l.fn.s l.flags l.b
