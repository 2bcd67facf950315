-- `count` goes from module to module. The invariant: counted on from here, they are as many as from the start. Assumes nothing.
use Prim.Native.Nat.{ℕ, ◌-◌, ◌≤◌}
use mathlib.Core.Path.{◌≡◌}
use mathlib.Core.List.{List}
use lib.ListN.{length}
use Rattle.omf51.specs.Reader.{many}
use Rattle.omf51.specs.declared.Edition.{Edition}
use Rattle.omf51.specs.Module.{module_by}
use Rattle.library.specs.Reading.{count_of}
use Rattle.library.specs.WholeLaws.{count_from}
use Rattle.library.proofs.module.count.Given as goal

pub record Inv (e : Edition) (library : List ℕ) (from at count : ℕ) : Type 0 where
  pub few : count ≤ at
  pub same : count_from count (many library (module_by e library) at) ≡ count_of (many library (module_by e library) from)

abbrev pub invariant-loop-places : goal.invariant-loop-places
invariant-loop-places g l =
    Inv g.E.ReadBy.edition l.library l.from l.at l.count

abbrev pub decreases-loop-places : goal.decreases-loop-places
decreases-loop-places g l =
    length l.library - l.at
