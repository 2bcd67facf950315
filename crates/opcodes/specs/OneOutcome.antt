-- The functions on opcodes have one outcome each, by their contracts alone. Assumes nothing.
use Rattle.std.specs.Prelude.{ℕ, ◌≡◌}
use Rattle.lent.specs.OneOutcome.{Determines, by-equation}
use Rattle.opcodes.specs.Lengths.{length_of, length_table, is_return}
use Rattle.opcodes.specs.Leads.{leads_of, lead_table}

pub length-table-one : Determines (λ r. r ≡ length_table)
length-table-one = by-equation length_table

pub lead-table-one : Determines (λ r. r ≡ lead_table)
lead-table-one = by-equation lead_table

pub length-of-one : (opcode : ℕ) → Determines (λ r. r ≡ length_of opcode)
length-of-one opcode = by-equation (length_of opcode)

pub leads-of-one : (opcode : ℕ) → Determines (λ r. r ≡ leads_of opcode)
leads-of-one opcode = by-equation (leads_of opcode)

pub is-return-one : (opcode : ℕ) → Determines (λ r. r ≡ is_return opcode)
is-return-one opcode = by-equation (is_return opcode)
