-- The functions on targets have one outcome each, by their contracts alone. Assumes nothing.
use Rattle.std.specs.Prelude.{◌≡◌, ℕ, ◌+◌, not, List, [], length, ◌==◌, nat_le}
use Rattle.std.proofs.Common.{sym, ◌∙◌}
use Rattle.lent.specs.Lists.{keep}
use Rattle.lent.specs.OneOutcome.{Determines, by-equation}
use Rattle.image.specs.declared.fixup.Rules.{Rules}
use Rattle.image.specs.fixup.Target.{target}
use Rattle.segments.specs.declared.SegmentNumber.{SegmentNumber}
use Rattle.segments.specs.declared.Reference.{Reference}
use Rattle.search.specs.targets.Seats.{IsMatch}
use Rattle.search.specs.Store.{Stored}

pub target-of-one : (cells : List ℕ) (rules : Rules) (position : ℕ) (r : Reference) → Determines (λ t. t ≡ target cells rules (position + r.place) r.kind r.offset)
target-of-one cells rules position r = by-equation (target cells rules (position + r.place) r.kind r.offset)

pub is-match-one : (cells : List ℕ) (store : Stored) (n : ℕ) (number : SegmentNumber) (at : ℕ) → Determines (IsMatch cells store n number at)
is-match-one cells store n number at a b p q = p [] [] ∙ sym (q [] [])

pub reaches-one : (masks : List ℕ) (least : ℕ) → Determines (λ r. r ≡ nat_le least (length (keep (λ mask. not (mask == 0)) masks)))
reaches-one masks least = by-equation (nat_le least (length (keep (λ mask. not (mask == 0)) masks)))
