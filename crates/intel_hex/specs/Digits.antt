-- Hexadecimal digits, and the bytes that they stand for.
use Rattle.std.specs.Prelude.{ℕ, zero, suc, ◌+◌, ◌-◌, ◌*◌, ◌/◌, ◌%◌, Bool, true, ◌&&◌, List, [], ◌∷◌, leb, ltb, get_or, if◌then◌else◌}
use Rattle.lent.specs.Lists.{joined, total}

-- the value of a character as a digit, 0 to 9 and A to F in either letter case; 16 for any other character
unfoldable pub digit_value : ℕ → ℕ
digit_value c =
    if leb 0x30 c && leb c 0x39 then c - 0x30
    else if leb 0x41 c && leb c 0x46 then c - 0x37
    else if leb 0x61 c && leb c 0x66 then c - 0x57
    else 16

-- the value of the character at a place of a text; past the text's end there is no digit
unfoldable pub digit_at : List ℕ → ℕ → ℕ
digit_at text at = digit_value (get_or text at 0)

abbrev pub is_digit_at : List ℕ → ℕ → Bool
is_digit_at text at = ltb (digit_at text at) 16

-- the byte of the two digits at a place, high digit first; a character that is no digit counts as 0
unfoldable pub byte_at : List ℕ → ℕ → ℕ
byte_at text at = 16 * (digit_at text at % 16) + digit_at text (at + 1) % 16

-- the n bytes of the digits from a place on, and whether these are 2 n digits
unfoldable pub bytes_at : List ℕ → ℕ → ℕ → List ℕ
bytes_at text at zero = []
bytes_at text at (suc n) = byte_at text at ∷ bytes_at text (at + 2) n

unfoldable pub are_digits : List ℕ → ℕ → ℕ → Bool
are_digits text at zero = true
are_digits text at (suc n) = is_digit_at text at && is_digit_at text (at + 1) && are_digits text (at + 2) n

-- the sum of bytes
abbrev pub sum : List ℕ → ℕ
sum bytes = total (λ b. b) bytes

-- on output: the digit of a number below 16, letters in upper case; the two digits of a byte; the digits of bytes
unfoldable pub digit : ℕ → ℕ
digit n = if ltb n 10 then 0x30 + n else 0x37 + n

abbrev pub two_digits : ℕ → List ℕ
two_digits b = digit (b / 16) ∷ digit (b % 16) ∷ []

abbrev pub all_digits : List ℕ → List ℕ
all_digits bytes = joined two_digits bytes
