-- THE CODE'S TABLE OF LENGTHS IS THE RULE BY CLASSES, computed once over all 256 opcodes. Assumes nothing.
use Rattle.std.specs.Prelude.{ℕ, ◌<◌, ◌≡◌, refl, get_or}
use Rattle.std.proofs.Common.{ap, ◌∙◌}
use Rattle.lent.specs.Lists.{any, from}
use Rattle.opcodes.specs.declared.TheConstants.{LENGTHS}
use Rattle.opcodes.specs.Lengths.{length_of, length_table}
use Rattle.opcodes.specs.OpcodeLaws.{table_at}

pub lengths-are : LENGTHS ≡ length_table
unfolding length_table length_of any from
lengths-are = refl

-- and so the rule holds at each entry
pub length_at : (opcode : ℕ) → opcode < 256 → get_or LENGTHS opcode 0 ≡ length_of opcode
unfolding length_table
length_at opcode h = ap (λ lengths. get_or lengths opcode 0) lengths-are ∙ table_at length_of opcode h
