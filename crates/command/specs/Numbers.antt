-- A number as it is written on the command line: decimal, or hexadecimal behind 0x.
use Rattle.std.specs.Prelude.{ℕ, ◌+◌, ◌-◌, ◌*◌, Bool, false, List, [], ◌∷◌, Result, Ok, Err, eqb, leb, ltb, length, get_or, drop, if◌then◌else◌}
use Rattle.command.specs.declared.number.NumberError.{NumberError}
use Rattle.command.specs.declared.number.NumberError.TheVariants.{TooLarge, NotANumber}

-- what a digit stands for: 0 to 9, A to F, a to f; 16 for a byte that is no digit
unfoldable pub digit_of : ℕ → ℕ
digit_of b =
    if ltb b 48 then 16
    else if leb b 57 then b - 48
    else if ltb b 65 then 16
    else if leb b 70 then b - 55
    else if ltb b 97 then 16
    else if leb b 102 then b - 87
    else 16

-- the number so far, and the digits of a base that are left; the first byte that is no digit decides, or the first at which the number is too large
unfoldable pub digits_from : ℕ → ℕ → List ℕ → Result ℕ NumberError
digits_from base n [] = Ok n
digits_from base n (b ∷ bs) =
    if leb base (digit_of b) then Err NotANumber
    else if ltb 0xFFFFFFFFFFFFFFFF (n * base + digit_of b) then Err TooLarge
    else digits_from base (n * base + digit_of b) bs

-- whether a text is 0x and more behind it; a text with no digit is no number
abbrev pub is_hexadecimal : List ℕ → Bool
is_hexadecimal text = if ltb (length text) 3 then false else if eqb (get_or text 0 0) 48 then eqb (get_or text 1 0) 120 else false

unfoldable pub number_of : List ℕ → Result ℕ NumberError
number_of text =
    if eqb (length text) 0 then Err NotANumber
    else if is_hexadecimal text then digits_from 16 0 (drop 2 text)
    else digits_from 10 0 text
