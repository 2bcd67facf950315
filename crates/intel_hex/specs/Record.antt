-- A record is a line of the text: a colon; the digits of LL (how many data bytes it has), of its address, high byte
-- first, of its type, of its LL data bytes and of its check byte; and the line's ending.
use Rattle.std.specs.Prelude.{ℕ, ◌+◌, ◌*◌, ◌%◌, Bool, ◌&&◌, not, Option, Some, None, is_some, unwrap_or, Result, Ok, Err, List, leb, ltb, eqb, length, get_or, if◌then◌else◌}
use Rattle.intel_hex.specs.Digits.{byte_at, bytes_at, are_digits, sum}
use Rattle.intel_hex.specs.declared.HexRefusal.{HexRefusal}
use Rattle.intel_hex.specs.declared.HexRefusal.TheVariants.{BadText, WrongSum, OtherType, PastEnd, NoEndRecord}
use Rattle.intel_hex.specs.declared.line.Line.{Line}
use Rattle.intel_hex.specs.declared.record.DataRecord.{DataRecord}

-- what the digits of the record at a place say
abbrev pub size_at : List ℕ → ℕ → ℕ
size_at text at = byte_at text (at + 1)

abbrev pub address_at : List ℕ → ℕ → ℕ
address_at text at = 256 * byte_at text (at + 3) + byte_at text (at + 5)

abbrev pub kind_at : List ℕ → ℕ → ℕ
kind_at text at = byte_at text (at + 7)

-- the sum of all bytes of the record, its check byte included, modulo 256
abbrev pub sum_at : List ℕ → ℕ → ℕ
sum_at text at = sum (bytes_at text (at + 1) (5 + size_at text at)) % 256

-- where its digits end
abbrev pub digits_end : List ℕ → ℕ → ℕ
digits_end text at = at + 11 + 2 * size_at text at

-- how many bytes end a line at a place: none at the text's end, one for LF, two for CR LF; elsewhere the line goes on
unfoldable pub ending_at : List ℕ → ℕ → Option ℕ
ending_at text at =
    if leb (length text) at then Some 0
    else if eqb (get_or text at 0) 0x0A then Some 1
    else if eqb (get_or text at 0) 0x0D && eqb (get_or text (at + 1) 0) 0x0A then Some 2
    else None

-- where the next line begins, if this one ends behind its digits
abbrev pub next_at : List ℕ → ℕ → ℕ
next_at text at = digits_end text at + unwrap_or (ending_at text (digits_end text at)) 0

-- the line at a place is a record: a colon, 2 (5 + LL) digits, and the line's ending; and no end record with data
unfoldable pub is_record : List ℕ → ℕ → Bool
is_record text at =
    eqb (get_or text at 0) 0x3A
    && leb (digits_end text at) (length text)
    && are_digits text (at + 1) (5 + size_at text at)
    && is_some (ending_at text (digits_end text at))
    && not (eqb (kind_at text at) 1 && ltb 0 (size_at text at))

abbrev pub read_line : List ℕ → ℕ → Line
read_line text at = record { size = size_at text at; sum = sum_at text at; next = next_at text at }

unfoldable pub line_at : List ℕ → ℕ → Option Line
line_at text at = if is_record text at then Some (read_line text at) else None

-- a data record, the end record where there is none, or why the text is refused
abbrev pub Step : Type 0
Step = Result (Option DataRecord) HexRefusal

abbrev pub data_record : ℕ → ℕ → ℕ → Step
data_record address size next = Ok (Some (record { address = address; size = size; next = next }))

-- what a line comes to: the first of its faults, in the order of their numbers; else the end record or data
abbrev pub step_of : List ℕ → ℕ → Option Line → Step
step_of text at None = Err BadText
step_of text at (Some line) =
    if not (eqb line.sum 0) then Err WrongSum
    else if eqb (kind_at text at) 1 then Ok None
    else if not (eqb (kind_at text at) 0) then Err OtherType
    else if ltb 0x10000 (address_at text at + line.size) then Err PastEnd
    else data_record (address_at text at) line.size line.next

-- what stands at a place; at the text's end there is no further line, so that the end record is missing
unfoldable pub record_at : List ℕ → ℕ → Step
record_at text at = if leb (length text) at then Err NoEndRecord else step_of text at (line_at text at)

-- the sum of n bytes from a place on, modulo 256, if all their characters are digits: what the code computes
abbrev pub sum_of : List ℕ → ℕ → ℕ → Option ℕ
sum_of text at n = if are_digits text at n then Some (sum (bytes_at text at n) % 256) else None
