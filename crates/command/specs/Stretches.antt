-- What is to be withheld: START:LENGTH, two numbers with a colon between them.
use Rattle.std.specs.Prelude.{ℕ, suc, ◌+◌, List, [], ◌∷◌, Result, Ok, Err, eqb, leb, length, take, drop, if◌then◌else◌}
use Rattle.image.specs.declared.Stretch.{Stretch}
use Rattle.image.specs.declared.cover.Stretches.{Stretches}
use Rattle.image.specs.Cover.{one_more}
use Rattle.command.specs.Words.{too_long, mistake}
use Rattle.command.specs.Values.{number_read}
use Rattle.command.specs.declared.mistake.Fault.TheVariants.{TooLong, NotAStretch}
use Rattle.command.specs.declared.mistake.Mistake.{Mistake}

-- where the first colon stands: behind the word, if there is none
unfoldable pub colon_in : List ℕ → ℕ
colon_in [] = 0
colon_in (b ∷ rest) = if eqb b 0x3A then 0 else suc (colon_in rest)

-- where it starts, and how many bytes it has; a wrong start is told first
abbrev pub stretch_from : Result ℕ Mistake → Result ℕ Mistake → Result Stretch Mistake
stretch_from (Ok start) (Ok len) = Ok (record { start = start; len = len })
stretch_from (Ok start) (Err m) = Err m
stretch_from (Err m) length = Err m

unfoldable pub stretch_read : List ℕ → ℕ → Result Stretch Mistake
stretch_read word i =
    if leb (length word) (colon_in word) then Err (mistake NotAStretch i)
    else stretch_from (number_read (take (colon_in word) word) i) (number_read (drop (colon_in word + 1) word) i)

unfoldable pub stretch_value : List ℕ → ℕ → Result Stretch Mistake
stretch_value word i = if too_long word then Err (mistake TooLong i) else stretch_read word i

-- the stretches with one more; a value that is wrong adds none
abbrev pub stretch_added : Stretches → Result Stretch Mistake → Stretches
stretch_added known (Ok s) = one_more known s.start s.len
stretch_added known (Err m) = known
