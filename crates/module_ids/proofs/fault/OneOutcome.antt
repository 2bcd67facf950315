-- The functions that look for refusals 10 to 13 have one verdict each, by their contracts alone. Assumes nothing.
use Rattle.std.specs.Prelude.{ℕ, ◌≡◌, List, Result}
use Rattle.std.proofs.Common.{sym, ◌∙◌}
use Rattle.lent.specs.OneOutcome.{Determines, by-equation}
use Rattle.omf51.specs.declared.Content.{Content}
use Rattle.omf51.specs.declared.Fixup.{Fixup}
use Rattle.omf51.specs.Module.{Module}
use Rattle.module_ids.specs.declared.Mark.{Mark}
use Rattle.module_ids.specs.declared.IdRow.{IdRow}
use Rattle.lent.specs.declared.refusal.Refusal.{Refusal}
use Rattle.module_ids.specs.fault.Faults.{is_code_mark, verdict_of, fixup_fault, content_fault}
use Rattle.module_ids.specs.fault.Scan.{Scanned}

pub fixup-fault-one : (row : IdRow) (f : Fixup) → Determines (λ r. r ≡ verdict_of (fixup_fault row f))
fixup-fault-one row f = by-equation (verdict_of (fixup_fault row f))

pub content-fault-one : (row : IdRow) (c : Content) → Determines (λ r. r ≡ verdict_of (content_fault row c))
content-fault-one row c = by-equation (verdict_of (content_fault row c))

-- whatever the table of ids is left as
pub scan-one : (modules : List Module) (left other : List ℕ) (a b : Result Unit Refusal) → Scanned modules left a → Scanned modules other b → a ≡ b
scan-one modules left other a b p q = p.says ∙ sym q.says

pub is-code-one : (mark : Mark) → Determines (λ r. r ≡ is_code_mark mark)
is-code-one mark = by-equation (is_code_mark mark)
