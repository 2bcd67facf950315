-- `gather_publics` stores one public definition after another. The invariant: those that are done are gathered, and the rest is left. Assumes nothing.
use Prim.Native.Nat.{ℕ, ◌*◌, ◌≤◌}
use mathlib.Core.Path.{◌≡◌}
use mathlib.Core.List.{List, ◌++◌}
use lib.ListN.{length}
use Rattle.omf51.specs.declared.Definition.{Definition}
use Rattle.omf51.specs.Module.{definitions_at}
use Rattle.library.specs.Gathered.{items_at}
use Rattle.library.specs.declared.items.Cursor.{Cursor}
use Rattle.library.specs.items.Left.{definitions_left}
use Rattle.library.specs.items.ForwardLaws.{Ordered}
use Rattle.module_index.specs.gather.Places.{PublicIs, no_definition}
use Rattle.module_index.specs.gather.Into.{Held}
use Rattle.module_index.specs.declared.gather.publics.PublicsBy.{PublicsBy}
use Rattle.module_index.specs.gather.Publics.{key_by, publics_by}
use Rattle.module_index.proofs.gather.publics.gather_publics.Given as goal

-- those of these that are to be gathered are gathered
abbrev pub Some-held : PublicsBy → List ℕ → List Definition → List ℕ → ℕ → Type 0
Some-held by library ds things n = Held (key_by by) (PublicIs library) no_definition (publics_by by ds) things n

pub record Inv (library : List ℕ) (from : ℕ) (by : PublicsBy) (things₀ things : List ℕ) (c : Cursor) (n : ℕ) : Type 0 where
  pub long : length things ≡ length things₀
  pub done : List Definition
  pub whole : done ++ definitions_left library c ≡ items_at library (definitions_at library) from
  pub gathered : Some-held by library done things n
  pub few : 6 * n ≤ c.at
  pub ordered : Ordered c

abbrev pub invariant-loop-definition : goal.invariant-loop-definition
invariant-loop-definition l =
    Inv l.library l.from l.by l.initial.things l.things l.c l.n

abbrev pub decreases-loop-definition : goal.decreases-loop-definition
decreases-loop-definition l =
    length (definitions_left l.library l.c)
