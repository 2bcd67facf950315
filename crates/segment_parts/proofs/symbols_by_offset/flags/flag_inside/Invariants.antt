-- `flag_inside` goes over the offsets. Assumes nothing.
use Prim.Native.Nat.{ℕ, ◌+◌, ◌≤◌}
use mathlib.Core.List.{List}
use Rattle.tables.specs.links.Things.{next_of}
use Rattle.tables.specs.links.Index.{Linked}
use Rattle.segment_parts.specs.declared.symbols_by_offset.flags.Blocks.{Blocks}
use Rattle.segment_parts.specs.symbols_by_offset.Flags.{no_blocks, Grows, Wide, Words, Covers}
use Rattle.segment_parts.proofs.symbols_by_offset.flags.flag_inside.Given as goal

pub record Inv (at len : ℕ) (first next flags₀ flags : List ℕ) (s : Blocks) (offset : ℕ) : Type 0 where
  pub from : at ≤ offset
  pub within : offset ≤ at + len
  pub grows : Grows flags₀ no_blocks flags s
  pub covers : (keys : List ℕ) → Linked keys 0 first next → Wide keys flags₀ → Words keys → Covers keys at offset flags s

abbrev pub invariant-loop-offset : goal.invariant-loop-offset
invariant-loop-offset l =
    Inv l.at l.len l.first (next_of l.publics) l.initial.flags l.flags l.s l.offset
