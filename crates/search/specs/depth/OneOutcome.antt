-- What a match comes to at a depth has one outcome, by the contract alone. Assumes nothing.
use Rattle.std.specs.Prelude.{ℕ, List, [], refl}
use Rattle.std.proofs.Common.{sym, ◌∙◌}
use Rattle.lent.specs.declared.part.Part.{Part}
use Rattle.lent.specs.OneOutcome.{Determines}
use Rattle.image.specs.declared.fixup.Rules.{Rules}
use Rattle.image.specs.declared.Seat.TheVariants.{Anywhere}
use Rattle.segments.specs.SegmentLayouts.{reference_layout}
use Rattle.segments.specs.recalled.Recall.{rows_of}
use Rattle.segments.specs.Collect.{Collected}
use Rattle.search.specs.depth.Depths.{FailsTo}
use Rattle.search.specs.Store.{Stored}

pub first-failed-one : (cells : List ℕ) (rules : Rules) (store : Stored) (n : ℕ) (depth position : ℕ) (part : Part)
    → Determines (FailsTo cells rules store n depth position part)
first-failed-one cells rules store n depth position part a b p q = p [] some refl ∙ sym (q [] some refl)
  where
    some : Collected
    some = record { seat = Anywhere; bytes = []; masks = []; references = rows_of reference_layout store.references part; symbols = [] }
