-- What the code says of a record and its type, in the words of the definition.
use Rattle.std.specs.Prelude.{ℕ, ◌+◌, Bool, not, ◌||◌, eqb, Option, Some, None, Result, Ok, Err}
use Rattle.lent.specs.declared.refusal.Refusal.{Refusal}
use Rattle.omf51.specs.declared.Frame.{Frame}
use Rattle.omf51.specs.declared.types.Allowed.{Allowed}
use Rattle.omf51.specs.declared.types.Allowed.TheVariants.{One, Definitions, Contents, Fixups, Idle}
use Rattle.omf51.specs.Reader.{ReadOutcome, read, stop, refused}
use Rattle.omf51.specs.Module.{is_known, defines, fills, fixes, is_idle}

-- the types that may stand at a place
abbrev pub one_type : ℕ → ℕ → Bool
one_type = eqb

abbrev pub allows : Allowed → ℕ → Bool
allows (One type) = one_type type
allows Definitions = λ type. defines type || not (is_known type)
allows Contents = fills
allows Fixups = fixes
allows Idle = is_idle

-- a record and the place after it: its checksum byte follows its body
abbrev pub frame_read : Result (Option Frame) Refusal → ReadOutcome Frame
frame_read (Ok (Some f)) = read f (f.end + 1)
frame_read (Ok None) = stop
frame_read (Err r) = refused r
