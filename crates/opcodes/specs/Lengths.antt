-- The length of each instruction, by the classes of the MCS-51 manual: the opcode's low four bits, its column in the manual's
-- table, tell the operand that it works on, and its high four bits, its row, what is done with it.
use Rattle.std.specs.Prelude.{ℕ, ◌/◌, ◌%◌, Bool, ◌||◌, List, [], ◌∷◌, map, eqb, ltb, if◌then◌else◌}
use Rattle.lent.specs.Lists.{one, is_in, from}

-- a column: the rows whose instructions have three bytes, those that have two; all others have one
abbrev in_column : List ℕ → List ℕ → ℕ → ℕ
in_column three two row = if is_in three row then 3 else if is_in two row then 2 else 1

abbrev by_column : ℕ → ℕ → ℕ
by_column column row =
    -- jumps on a bit, short jumps, MOV DPTR, ORL and ANL with a bit, PUSH, POP; NOP and MOVX have one byte
    if eqb column 0 then in_column (1 ∷ 2 ∷ 3 ∷ one 9) (4 ∷ 5 ∷ 6 ∷ 7 ∷ 8 ∷ 0xA ∷ 0xB ∷ 0xC ∷ one 0xD) row
    -- AJMP and ACALL
    else if eqb column 1 then 2
    -- LJMP, LCALL; a direct byte with A, and bits; RET, RETI and MOVX have one byte
    else if eqb column 2 then in_column (0 ∷ one 1) (4 ∷ 5 ∷ 6 ∷ 7 ∷ 8 ∷ 9 ∷ 0xA ∷ 0xB ∷ 0xC ∷ one 0xD) row
    -- ORL, ANL and XRL of a direct byte with a constant; all others have one byte
    else if eqb column 3 then in_column (4 ∷ 5 ∷ one 6) [] row
    -- CJNE; A with a constant; all others work on A alone
    else if eqb column 4 then in_column (one 0xB) (2 ∷ 3 ∷ 4 ∷ 5 ∷ 6 ∷ 7 ∷ one 9) row
    -- a direct byte: with a constant or another one MOV has three, and so have CJNE and DJNZ
    else if eqb column 5 then in_column (7 ∷ 8 ∷ 0xB ∷ one 0xD) (0 ∷ 1 ∷ 2 ∷ 3 ∷ 4 ∷ 5 ∷ 6 ∷ 9 ∷ 0xC ∷ 0xE ∷ one 0xF) row
    -- @R0 and @R1: CJNE; MOV with a constant or a direct byte
    else if ltb column 8 then in_column (one 0xB) (7 ∷ 8 ∷ one 0xA) row
    -- R0 to R7: the same, and DJNZ
    else in_column (one 0xB) (7 ∷ 8 ∷ 0xA ∷ one 0xD) row

-- A5h is reserved: no instruction
unfoldable pub length_of : ℕ → ℕ
length_of opcode = if eqb opcode 0xA5 then 0 else by_column (opcode % 16) (opcode / 16)

-- the table: the rule at each of the 256 opcodes
unfoldable pub length_table : List ℕ
length_table = map length_of (from 0 256)

-- RET and RETI
abbrev pub is_return : ℕ → Bool
is_return opcode = eqb opcode 0x22 || eqb opcode 0x32
