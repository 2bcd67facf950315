-- A word of the command line is a string of bytes.
use Rattle.std.specs.Prelude.{ℕ, Bool, List, Result, Ok, Err, ltb, length}
use Rattle.command.specs.declared.number.NumberError.{NumberError}
use Rattle.command.specs.declared.number.NumberError.TheVariants.{TooLarge, NotANumber}
use Rattle.command.specs.declared.mistake.Fault.{Fault}
use Rattle.command.specs.declared.mistake.Fault.TheVariants.{NumberTooLarge, NotANumber as NoNumber}
use Rattle.command.specs.declared.mistake.Mistake.{Mistake}

-- no word is longer than 4096 bytes
abbrev pub too_long : List ℕ → Bool
too_long word = ltb 4096 (length word)

-- a fault of word i
abbrev pub mistake : Fault → ℕ → Mistake
mistake fault i = record { fault = fault; word = i }

-- why a text is no number, as a fault
abbrev pub number_fault : NumberError → Fault
number_fault TooLarge = NumberTooLarge
number_fault NotANumber = NoNumber

-- what follows from what was read, unless that is wrong
abbrev pub unless_wrong : {A B : Type 0} → Result A Mistake → (A → Result B Mistake) → Result B Mistake
unless_wrong (Ok a) next = next a
unless_wrong (Err m) next = Err m
