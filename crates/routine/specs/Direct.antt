-- Targets and rows as the code works them out, from the plain bytes of an instruction that can be read: its last bytes are
-- those of the address.
use Rattle.std.specs.Prelude.{ℕ, ◌+◌, ◌-◌, ◌*◌, ◌/◌, ◌%◌, List, ltb, if◌then◌else◌}
use Rattle.image.specs.View.{cell_at}
use Rattle.opcodes.specs.declared.Leads.{Leads}
use Rattle.opcodes.specs.declared.Leads.TheVariants.{Nowhere, PageJump, PageCall, LongJump, LongCall, ShortJump, LaterJump}
use Rattle.opcodes.specs.Leads.{leads_of}
use Rattle.routine.specs.declared.Row.{Row}
use Rattle.routine.specs.Step.{what_of}

abbrev pub short_to : ℕ → ℕ → ℕ
short_to next b = (next % 65536 + (if ltb b 128 then b else b + 65280)) % 65536

abbrev pub page_to : ℕ → ℕ → ℕ → ℕ
page_to next opcode b = next / 2048 % 32 * 2048 + 256 * (opcode / 32) + b

abbrev pub long_to : ℕ → ℕ → ℕ
long_to high low = 256 * high + low

abbrev pub target_by : List ℕ → ℕ → ℕ → Leads → ℕ
target_by image next opcode Nowhere = 0
target_by image next opcode PageJump = page_to next opcode (cell_at image (next - 1))
target_by image next opcode PageCall = page_to next opcode (cell_at image (next - 1))
target_by image next opcode LongJump = long_to (cell_at image (next - 2)) (cell_at image (next - 1))
target_by image next opcode LongCall = long_to (cell_at image (next - 2)) (cell_at image (next - 1))
target_by image next opcode ShortJump = short_to next (cell_at image (next - 1))
target_by image next opcode LaterJump = short_to next (cell_at image (next - 1))

abbrev pub row_by : List ℕ → ℕ → ℕ → ℕ → Row
row_by image at next opcode =
    let l = leads_of opcode in
    record { address = at; what = what_of l (target_by image next opcode l) }
