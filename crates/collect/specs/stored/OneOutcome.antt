-- The functions on the row of a segment, and on the rule set, have one outcome each, by their contracts alone. Assumes nothing.
use Rattle.std.specs.Prelude.{ℕ, ◌+◌, ◌-◌, ◌≡◌, List, leb, length}
use Rattle.lent.specs.declared.part.Part.{Part}
use Rattle.lent.specs.OneOutcome.{Determines, by-equation}
use Rattle.tables.specs.declared.fill.Fill.{Fill}
use Rattle.image.specs.declared.Seat.{Seat}
use Rattle.image.specs.declared.fixup.Rules.{Rules}
use Rattle.collect.specs.declared.stored.CollectCounts.{CollectCounts}
use Rattle.collect.specs.stored.Rows.{Stored}
use Rattle.collect.specs.stored.Rows.{filled_to, finished, finished_in}
use Rattle.collect.specs.stored.Segments.{own_by}

pub filled-to-one : (rows : ℕ) → Determines (λ (r : Fill). r ≡ filled_to rows)
filled-to-one rows = by-equation (filled_to rows)

pub fits_one : (used more len : ℕ) → Determines (λ r. r ≡ leb (used + more) len)
fits_one used more len = by-equation (leb (used + more) len)

pub since-one : (start end : ℕ) → Determines (λ (r : Part). r ≡ record { at = start; len = end - start })
since-one start end = by-equation (record { at = start; len = end - start })

-- `finish`: what it answers, and the rows of segments afterwards
abbrev pub Finished : Seat → CollectCounts → ℕ → Fill → Fill → List ℕ → Stored × List ℕ → Type 0
Finished seat c end references symbols m out =
    (out.0 ≡ finished c end references symbols (length m)) × (out.1 ≡ finished_in seat c end references symbols m)

pub finish-one : (seat : Seat) (c : CollectCounts) (end : ℕ) (references symbols : Fill) (m : List ℕ) → Determines (Finished seat c end references symbols m)
finish-one seat c end references symbols m a b p q = rw (p.0, p.1, q.0, q.1)

pub is-own-one : (rules : Rules) → Determines (λ r. r ≡ own_by rules)
is-own-one rules = by-equation (own_by rules)
