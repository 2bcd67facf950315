-- `name_along` goes from link to link. Assumes nothing.
use Prim.Native.Nat.{ℕ, ◌-◌, ◌<◌, ◌^◌}
use mathlib.Core.Path.{◌≡◌}
use mathlib.Core.List.{List}
use lib.ListN.{length}
use Rattle.tables.specs.declared.fill.Fill.{Fill}
use Rattle.omf51.specs.declared.Definition.{Definition}
use Rattle.segments.specs.SegmentLayouts.{symbol_layout}
use Rattle.tables.specs.links.Things.{places_of, next_of}
use Rattle.tables.specs.links.Follow.{Follows}
use Rattle.module_index.specs.gather.Places.{PublicIs}
use Rattle.segment_parts.specs.declared.carried.Carried.{Carried}
use Rattle.segment_parts.specs.Along.{Adding}
use Rattle.segment_parts.specs.AddedSymbols.{symbol_by}
use Rattle.segment_parts.proofs.symbols.name_along.Given as goal

pub record Inv (library : List ℕ) (link : ℕ) (next places : List ℕ) (c : Carried) (m₀ : List ℕ) (f₀ : Fill) (m : List ℕ) (last here : ℕ) (f : Fill) : Type 0 where
  pub long : length m ≡ length m₀
  pub small : here < 2 ^ 32
  pub adding : (publics : List Definition) → Follows (PublicIs library places) next 0 link publics
      → Adding (PublicIs library places) next symbol_layout (symbol_by c) publics m₀ f₀ last here m f

abbrev pub invariant-loop-last : goal.invariant-loop-last
invariant-loop-last l =
    Inv l.library l.link (next_of l.publics) (places_of l.publics) l.c l.initial.m l.initial.f l.m l.last l.here l.f

abbrev pub decreases-loop-last : goal.decreases-loop-last
decreases-loop-last l =
    2 ^ 32 - l.last
