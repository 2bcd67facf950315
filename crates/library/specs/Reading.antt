-- Where the modules of a library stand and how many there are, or the refusal.
use Rattle.std.specs.Prelude.{Result, Ok, Err}
use Rattle.std.specs.Prelude.{ℕ, List, length}
use Rattle.lent.specs.declared.refusal.Refusal.{Refusal}
use Rattle.lent.specs.declared.refusal.Refusal.TheVariants.{NoModule}
use Rattle.lent.specs.Refusals.{refusal_number}
use Rattle.omf51.specs.declared.Edition.{Edition}
use Rattle.omf51.specs.Ends.{End}
use Rattle.omf51.specs.declared.Frame.{Frame}
use Rattle.omf51.specs.Reader.{ReadOutcome, read, stop, refused}
use Rattle.omf51.specs.Record.{expected}
use Rattle.omf51.specs.Module.{Module}
use Rattle.omf51.specs.File.{plain_by, file_by}
use Rattle.omf51.specs.Expected.{one_type}
use Rattle.omf51.specs.Ends.{end_of}
use Rattle.library.specs.declared.Counted.{Counted}
use Rattle.library.specs.declared.Reading.{Reading}

-- modules in a row: how many, and the place after them; none is refusal 5
abbrev pub count_of : ReadOutcome (List Module) → Result Counted Refusal
count_of (read modules next) = Ok (record { count = length modules; next = next })
count_of stop = Err NoModule
count_of (refused r) = Err r

-- the modules of a 2Ch library start after its first record, bare ones at the file's start
abbrev pub place_after : ReadOutcome Frame → ℕ
place_after (read f next) = next
place_after stop = 0
place_after (refused r) = 0

abbrev pub first_at : List ℕ → ℕ
first_at library = place_after (expected library (one_type 0x2c) 0)

abbrev pub reading_of : ℕ → ReadOutcome (List Module) → Result Reading Refusal
reading_of first (read modules next) = Ok (record { first = first; count = length modules })
reading_of first stop = Err NoModule
reading_of first (refused r) = Err r

unfoldable pub reading : Edition → List ℕ → Result Reading Refusal
reading e library = reading_of (first_at library) (file_by e library)

-- document 01's number of an answer, and its value: how many modules were read
abbrev pub reading_number : Result Reading Refusal → ℕ
reading_number (Ok reading) = 0
reading_number (Err r) = refusal_number r

abbrev pub reading_count : Result Reading Refusal → ℕ
reading_count (Ok reading) = reading.count
reading_count (Err r) = 0

-- a record of one type whose body isn't looked at
abbrev pub type_end : Edition → List ℕ → ℕ → ℕ → End
type_end e library type at = end_of (plain_by e library type at)
