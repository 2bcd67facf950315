-- `name_blocks` goes from place to place, and past a block without a flag. Assumes nothing.
use Prim.Native.Nat.{ℕ, ◌+◌, ◌-◌}
use mathlib.Core.Path.{◌≡◌}
use mathlib.Core.Bool.{Bool}
use mathlib.Core.List.{List}
use lib.ListN.{length, take}
use Rattle.tables.specs.declared.fill.Fill.{Fill}
use Rattle.tables.specs.links.Things.{keys_of, places_of}
use Rattle.omf51.specs.declared.Definition.{Definition}
use Rattle.segment_parts.specs.declared.symbols_by_offset.flags.Blocks.{Blocks}
use Rattle.segment_parts.specs.symbols_by_offset.Flags.{Covers}
use Rattle.segment_parts.specs.symbols_by_offset.Inside.{Standing}
use Rattle.segment_parts.specs.symbols_by_offset.InsideLaws.{Left}
use Rattle.segment_parts.proofs.symbols_by_offset.names.name_blocks.Given as goal

pub record Inv (library : List ℕ) (at len : ℕ) (own : Bool) (keys : List ℕ) (n : ℕ) (places : List ℕ) (s : Blocks) (flags m₀ : List ℕ) (f₀ : Fill) (m : List ℕ) (j : ℕ) (f : Fill) : Type 0 where
  pub long : length m ≡ length m₀
  pub left : (publics : List Definition) (t : Standing library keys n places publics) (c : Covers (take n keys) at (at + len) flags s)
      → Left library keys n places publics t at len own s flags c m₀ f₀ j m f

abbrev pub invariant-loop-j : goal.invariant-loop-j
invariant-loop-j l =
    Inv l.library l.window.at l.window.len l.window.own (keys_of l.publics) l.n (places_of l.publics) l.s l.flags l.initial.m l.initial.f l.m l.j l.f

abbrev pub decreases-loop-j : goal.decreases-loop-j
decreases-loop-j l =
    l.n - l.j
