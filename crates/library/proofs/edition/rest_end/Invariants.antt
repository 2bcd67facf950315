-- `rest_end` goes from entry to entry. The invariant: from here they end as from the start. Assumes nothing.
use Prim.Native.Nat.{◌-◌}
use mathlib.Core.Path.{◌≡◌}
use lib.ListN.{length}
use Rattle.omf51.specs.Ends.{rest_end}
use Rattle.library.proofs.edition.rest_end.Given as goal

abbrev pub invariant-loop-at : goal.invariant-loop-at
invariant-loop-at l =
    rest_end l.what l.library l.f l.at ≡ rest_end l.what l.library l.f l.from

abbrev pub decreases-loop-at : goal.decreases-loop-at
decreases-loop-at l =
    length l.library - l.at
