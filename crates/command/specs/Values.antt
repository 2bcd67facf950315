-- What the value of an option says; i is the number of the word that is the value.
use Rattle.std.specs.Prelude.{ℕ, List, Result, Ok, Err, if◌then◌else◌}
use Rattle.lent.specs.Parts.{same}
use Rattle.describe.specs.Describe.{text}
use Rattle.command.specs.Words.{too_long, mistake, number_fault}
use Rattle.command.specs.Numbers.{number_of}
use Rattle.command.specs.declared.number.NumberError.{NumberError}
use Rattle.command.specs.declared.mistake.Fault.TheVariants.{TooLong, NoSuchRules}
use Rattle.command.specs.declared.mistake.Mistake.{Mistake}

-- a number, or what is wrong with its text
abbrev pub read_as : ℕ → Result ℕ NumberError → Result ℕ Mistake
read_as i (Ok n) = Ok n
read_as i (Err e) = Err (mistake (number_fault e) i)

unfoldable pub number_read : List ℕ → ℕ → Result ℕ Mistake
number_read word i = read_as i (number_of word)

unfoldable pub number_value : List ℕ → ℕ → Result ℕ Mistake
number_value word i = if too_long word then Err (mistake TooLong i) else number_read word i

-- the rule set's number: 0 as found, 1 as documented
unfoldable pub rules_value : List ℕ → ℕ → Result ℕ Mistake
rules_value word i =
    if too_long word then Err (mistake TooLong i)
    else if same word (text "found") then Ok 0
    else if same word (text "documented") then Ok 1
    else Err (mistake NoSuchRules i)
