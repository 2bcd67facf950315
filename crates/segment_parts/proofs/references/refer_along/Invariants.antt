-- `refer_along` goes from link to link. Assumes nothing.
use Prim.Native.Nat.{ℕ, ◌-◌, ◌<◌, ◌^◌}
use mathlib.Core.Path.{◌≡◌}
use mathlib.Core.List.{List}
use lib.ListN.{length}
use Rattle.tables.specs.declared.fill.Fill.{Fill}
use Rattle.omf51.specs.declared.Definition.{Definition}
use Rattle.omf51.specs.Module.{Section}
use Rattle.segments.specs.SegmentLayouts.{reference_layout}
use Rattle.module_ids.specs.Noted.{Tells}
use Rattle.tables.specs.links.Things.{places_of, next_of}
use Rattle.tables.specs.links.Follow.{Follows}
use Rattle.module_index.specs.gather.Places.{SectionIs}
use Rattle.segment_parts.specs.Along.{Adding}
use Rattle.segment_parts.specs.AddedReferences.{section_leaves}
use Rattle.segment_parts.proofs.references.refer_along.Given as goal

pub record Inv (library table : List ℕ) (number link : ℕ) (next places m₀ : List ℕ) (f₀ : Fill) (m : List ℕ) (last here : ℕ) (f : Fill) : Type 0 where
  pub long : length m ≡ length m₀
  pub small : here < 2 ^ 32
  pub adding : (ds : List Definition) (sections : List Section) → Tells ds table → Follows (SectionIs library places) next 0 link sections
      → Adding (SectionIs library places) next reference_layout (section_leaves ds number) sections m₀ f₀ last here m f

abbrev pub invariant-loop-last : goal.invariant-loop-last
invariant-loop-last l =
    Inv l.library l.table l.number l.link (next_of l.contents) (places_of l.contents) l.initial.m l.initial.f l.m l.last l.here l.f

abbrev pub decreases-loop-last : goal.decreases-loop-last
decreases-loop-last l =
    2 ^ 32 - l.last
