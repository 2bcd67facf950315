-- Where an instruction leads that names an address, by the MCS-51 manual.
use Rattle.std.specs.Prelude.{ℕ, ◌%◌, Bool, ◌||◌, ◌&&◌, List, ◌∷◌, map, eqb, leb, if◌then◌else◌}
use Rattle.lent.specs.Lists.{one, is_in, from}
use Rattle.opcodes.specs.declared.Leads.{Leads}
use Rattle.opcodes.specs.declared.Leads.TheVariants.{Nowhere, PageJump, PageCall, LongJump, LongCall, ShortJump, LaterJump}

-- JC, JNC, JZ, JNZ, SJMP and DJNZ with a register: the signed byte stands behind the opcode
abbrev is_short : ℕ → Bool
is_short opcode = is_in (0x40 ∷ 0x50 ∷ 0x60 ∷ 0x70 ∷ one 0x80) opcode || (leb 0xD8 opcode && leb opcode 0xDF)

-- JBC, JB, JNB, CJNE and DJNZ with a direct byte: it stands behind one byte more
abbrev is_later : ℕ → Bool
is_later opcode = is_in (0x10 ∷ 0x20 ∷ 0x30 ∷ one 0xD5) opcode || (leb 0xB4 opcode && leb opcode 0xBF)

-- JMP @A+DPTR, 73h, names no address
unfoldable pub leads_of : ℕ → Leads
leads_of opcode =
    if eqb (opcode % 32) 0x01 then PageJump
    else if eqb (opcode % 32) 0x11 then PageCall
    else if eqb opcode 0x02 then LongJump
    else if eqb opcode 0x12 then LongCall
    else if is_short opcode then ShortJump
    else if is_later opcode then LaterJump
    else Nowhere

-- a number for each of them
abbrev pub lead_number : Leads → ℕ
lead_number Nowhere = 0
lead_number PageJump = 1
lead_number PageCall = 2
lead_number LongJump = 3
lead_number LongCall = 4
lead_number ShortJump = 5
lead_number LaterJump = 6

-- the table of the numbers, at each of the 256 opcodes
unfoldable pub lead_table : List ℕ
lead_table = map (λ k. lead_number (leads_of k)) (from 0 256)

-- the bytes of the address: at which of the instruction's bytes they begin, and how many they are. The opcode itself has
-- three bits of the address of an AJMP or ACALL
abbrev pub place_of : Leads → ℕ
place_of Nowhere = 0
place_of PageJump = 0
place_of PageCall = 0
place_of LongJump = 1
place_of LongCall = 1
place_of ShortJump = 1
place_of LaterJump = 2

abbrev pub bytes_of : Leads → ℕ
bytes_of Nowhere = 0
bytes_of PageJump = 2
bytes_of PageCall = 2
bytes_of LongJump = 2
bytes_of LongCall = 2
bytes_of ShortJump = 1
bytes_of LaterJump = 1
