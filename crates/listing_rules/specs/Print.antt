-- The printed list. Widths are counted in bytes.
use Rattle.std.specs.Prelude.{ℕ, zero, suc, ◌+◌, ◌-◌, ◌/◌, ◌%◌, List, [], ◌++◌, eqb, ltb, length, replicate, if◌then◌else◌}
use Rattle.std.proofs.Math.Option.{Option, none, some}
use Rattle.lent.specs.Lists.{one, joined}
use Rattle.lent.specs.Parts.{bytes_of}
use Rattle.listing_rules.specs.declared.Line.{Line}
use Rattle.describe.specs.Describe.{text, describe}

-- a text with blanks behind it up to a width; a longer text is not cut
abbrev pub column : ℕ → List ℕ → List ℕ
column width t = t ++ replicate (width - length t) 0x20

-- the byte of a hexadecimal digit, in lower case
abbrev pub digit : ℕ → ℕ
digit n = if ltb n 10 then 0x30 + n else 0x57 + n

-- the last k hexadecimal digits of a number
unfoldable pub digits : ℕ → ℕ → List ℕ
digits zero n = []
digits (suc k) n = digits k (n / 16) ++ one (digit (n % 16))

-- how many hexadecimal digits a number has, at most `most`; 0 has none
unfoldable pub more_digits : ℕ → ℕ → ℕ
more_digits zero n = 0
more_digits (suc most) n = if eqb n 0 then 0 else 1 + more_digits most (n / 16)

-- an address in hexadecimal: four digits, or as many more as it has (16 at most, since an address has 64 bits)
abbrev pub hex : ℕ → List ℕ
hex n = digits (4 + more_digits 12 (n / 0x10000)) n

-- a name between its signs: ( ) for a name that is only noted (grade 0), [ ] for a symbol that
-- is not borne out (grade 1), else blanks
abbrev pub bracketed : ℕ → List ℕ → List ℕ
bracketed grade name =
    if eqb grade 0 then text "(" ++ name ++ text ")"
    else if eqb grade 1 then text "[" ++ name ++ text "]"
    else text " " ++ name ++ text " "

-- a blank and the description, if there is one
abbrev pub remark : Option (List ℕ) → List ℕ
remark none = []
remark (some t) = text " " ++ t

-- a line: address, two blanks, name, a blank, description, line feed
unfoldable pub printed_line : List ℕ → Line → List ℕ
printed_line library l =
    let name = bytes_of library l.name in
    column 7 (text "0x" ++ hex l.address) ++ text "  "
    ++ column 22 (bracketed l.grade name) ++ text " "
    ++ remark (describe name) ++ text "\n"

-- the heading
abbrev pub heading : List ℕ
heading = text "Address | Name                 | Description\n"

-- the printed form of a list
unfoldable pub printed : List ℕ → List Line → List ℕ
printed library lines = heading ++ joined (printed_line library) lines
