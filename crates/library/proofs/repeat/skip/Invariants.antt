-- `skip` goes from record to record. The invariant: from here it ends as from the start. Assumes nothing.
use Prim.Native.Nat.{◌-◌}
use mathlib.Core.Path.{◌≡◌}
use lib.ListN.{length}
use Rattle.library.specs.Passes.{all_end_by}
use Rattle.library.proofs.repeat.skip.Given as goal

abbrev pub invariant-loop-next : goal.invariant-loop-next
invariant-loop-next g l =
    all_end_by g.E.ReadBy.edition l.what l.library l.at ≡ all_end_by g.E.ReadBy.edition l.what l.library l.from

abbrev pub decreases-loop-next : goal.decreases-loop-next
decreases-loop-next g l =
    length l.library - l.at
