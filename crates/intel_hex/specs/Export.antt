-- Export: an image as records of 16 bytes from address 0 on, the last may have fewer, and the end record. Every byte is
-- written, FFh too.
use Rattle.std.specs.Prelude.{ℕ, ◌+◌, ◌-◌, ◌*◌, ◌/◌, ◌%◌, List, [], ◌∷◌, ◌++◌, leb, length, take, drop, if◌then◌else◌}
use Rattle.lent.specs.Lists.{one, joined, from}
use Rattle.intel_hex.specs.Digits.{all_digits, sum}
use Rattle.intel_hex.specs.Outcome.{Made, made, refused}
use Rattle.intel_hex.specs.declared.HexRefusal.TheVariants.{ImageTooLong}

-- the bytes of a record before its check byte: length, address, type, data
abbrev pub body : ℕ → ℕ → List ℕ → List ℕ
body kind address bytes = length bytes ∷ address / 256 ∷ address % 256 ∷ kind ∷ bytes

-- the byte that makes a sum a multiple of 256
abbrev pub checksum : ℕ → ℕ
checksum total = (256 - total % 256) % 256

-- a record as a line: a colon, the digits of its bytes and of its check byte, LF
unfoldable pub record_line : ℕ → ℕ → List ℕ → List ℕ
record_line kind address bytes =
    one 0x3A ++ all_digits (body kind address bytes ++ one (checksum (sum (body kind address bytes)))) ++ one 0x0A

-- record i of an image
abbrev pub line_of : List ℕ → ℕ → List ℕ
line_of image i = record_line 0 (16 * i) (take 16 (drop (16 * i) image))

-- how many records of data there are
abbrev pub records : ℕ → ℕ
records n = (n + 15) / 16

unfoldable pub text_of : List ℕ → List ℕ
text_of image = joined (line_of image) (from 0 (records (length image))) ++ record_line 1 0 []

-- how long the text of an image of n bytes is
abbrev pub text_length : ℕ → ℕ
text_length n = 12 * records n + 2 * n + 12

-- what an image exports as
abbrev pub exported : List ℕ → Made
exported image = if leb (length image) 0x10000 then made (text_of image) else refused ImageTooLong
