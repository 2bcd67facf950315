-- `gather_sections` stores one content after another. The invariant: those that are done are gathered, and the rest is found from here on. Assumes nothing.
use Prim.Native.Nat.{ℕ, ◌*◌, ◌≤◌}
use mathlib.Core.Path.{◌≡◌}
use mathlib.Core.List.{List, ◌++◌}
use lib.ListN.{length}
use Rattle.omf51.specs.Module.{Section, sections_at}
use Rattle.library.specs.Gathered.{items_at}
use Rattle.module_index.specs.gather.Places.{SectionIs, section_key, no_section}
use Rattle.module_index.specs.gather.Into.{Held}
use Rattle.module_index.proofs.gather.sections.gather_sections.Given as goal

pub record Inv (library : List ℕ) (from : ℕ) (things₀ things : List ℕ) (at n : ℕ) : Type 0 where
  pub long : length things ≡ length things₀
  pub done : List Section
  pub whole : done ++ items_at library (sections_at library) at ≡ items_at library (sections_at library) from
  pub gathered : Held section_key (SectionIs library) no_section done things n
  pub few : 7 * n ≤ at

abbrev pub invariant-loop-content : goal.invariant-loop-content
invariant-loop-content l =
    Inv l.library l.from l.initial.things l.things l.at l.n

abbrev pub decreases-loop-content : goal.decreases-loop-content
decreases-loop-content l =
    length (items_at l.library (sections_at l.library) l.at)
