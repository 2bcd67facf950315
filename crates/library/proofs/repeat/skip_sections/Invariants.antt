-- `skip_sections` goes from content to content. The invariant: from here it ends as from the start. Assumes nothing.
use Prim.Native.Nat.{◌-◌}
use mathlib.Core.Path.{◌≡◌}
use lib.ListN.{length}
use Rattle.library.specs.Passes.{sections_end_by}
use Rattle.library.proofs.repeat.skip_sections.Given as goal

abbrev pub invariant-loop-next : goal.invariant-loop-next
invariant-loop-next g l =
    sections_end_by g.E.ReadBy.edition l.library l.at ≡ sections_end_by g.E.ReadBy.edition l.library l.from

abbrev pub decreases-loop-next : goal.decreases-loop-next
decreases-loop-next g l =
    length l.library - l.at
