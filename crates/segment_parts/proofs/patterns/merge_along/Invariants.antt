-- `merge_along` goes from link to link. Assumes nothing.
use Prim.Native.Nat.{ℕ, ◌-◌, ◌<◌, ◌^◌}
use mathlib.Core.Path.{◌≡◌}
use mathlib.Core.List.{List}
use lib.ListN.{length}
use Rattle.omf51.specs.Module.{Section}
use Rattle.segments.specs.Collect.{data_of, data_masks}
use Rattle.tables.specs.links.Things.{places_of, next_of}
use Rattle.tables.specs.links.Follow.{Follows}
use Rattle.module_index.specs.gather.Places.{SectionIs}
use Rattle.segment_parts.specs.Along.{Merging}
use Rattle.segment_parts.specs.Patterns.{merged_one}
use Rattle.segment_parts.proofs.patterns.merge_along.Given as goal

abbrev pub Goes : List ℕ → ℕ → List ℕ → List ℕ → (List ℕ → Section → List ℕ) → List ℕ → ℕ → ℕ → List ℕ → Type 0
Goes library link next places step m₀ last here m =
    (sections : List Section) → Follows (SectionIs library places) next 0 link sections → Merging (SectionIs library places) next step sections m₀ last here m

pub record Inv (library : List ℕ) (link : ℕ) (next places : List ℕ) (start size : ℕ) (bytes₀ masks₀ apart₀ bytes masks apart : List ℕ) (last here : ℕ) : Type 0 where
  pub bytes-long : length bytes ≡ length bytes₀
  pub masks-long : length masks ≡ length masks₀
  pub apart-long : length apart ≡ length apart₀
  pub small : here < 2 ^ 32
  pub bytes-go : Goes library link next places (merged_one start size (data_of library)) bytes₀ last here bytes
  pub masks-go : Goes library link next places (merged_one start size (data_masks library)) masks₀ last here masks

abbrev pub invariant-loop-last : goal.invariant-loop-last
invariant-loop-last l =
    Inv l.library l.link (next_of l.contents)
    (places_of l.contents) l.start l.size l.initial.bytes l.initial.masks l.initial.apart l.bytes l.masks l.apart l.last l.here

abbrev pub decreases-loop-last : goal.decreases-loop-last
decreases-loop-last l =
    2 ^ 32 - l.last
