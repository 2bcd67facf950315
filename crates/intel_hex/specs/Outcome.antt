-- What import and export come to, and what of it stands in the lent buffer.
use Rattle.std.specs.Prelude.{ℕ, Result, Ok, Err, List, ◌++◌, leb, length, drop, if◌then◌else◌}
use Rattle.intel_hex.specs.declared.HexRefusal.{HexRefusal}
use Rattle.intel_hex.specs.declared.HexRefusal.TheVariants.{ImageTooLong, NoRoom, BadText, WrongSum, OtherType, PastEnd, GivenTwice, NoEndRecord}

-- the number of each refusal, as change request W-201 gives it
abbrev pub hex_number : HexRefusal → ℕ
hex_number ImageTooLong = 2
hex_number NoRoom = 9
hex_number BadText = 20
hex_number WrongSum = 21
hex_number OtherType = 22
hex_number PastEnd = 23
hex_number GivenTwice = 24
hex_number NoEndRecord = 25

-- the bytes that are made of the input, whatever room there is for them; or why there are none
pub data Made : Type 0 where
  made : List ℕ → Made
  refused : HexRefusal → Made

-- the answer, and the lent buffer: the bytes, and what stood behind them. A buffer that is too small is the last reason
-- to refuse; every refusal leaves the buffer as it was
abbrev pub stored : Made → List ℕ → Result ℕ HexRefusal × List ℕ
stored (made bytes) out =
    if leb (length bytes) (length out) then (Ok (length bytes), bytes ++ drop (length bytes) out) else (Err NoRoom, out)
stored (refused r) out = (Err r, out)
