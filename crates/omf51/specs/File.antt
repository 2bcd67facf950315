-- The whole file: bare modules, or a library that begins with a 2Ch record.
use Rattle.std.specs.Prelude.{ℕ, List, [], eqb, length, if◌then◌else◌}
use Rattle.std.proofs.Math.Option.{Option, none, some}
use Rattle.lent.specs.declared.refusal.Refusal.{Refusal}
use Rattle.lent.specs.declared.refusal.Refusal.TheVariants.{NoModule}
use Rattle.lent.specs.Parts.{byte_at}
use Rattle.omf51.specs.declared.Edition.{Edition}
use Rattle.omf51.specs.declared.Edition.TheVariants.{One, Two}
use Rattle.omf51.specs.Reader.{ReadOutcome, read, stop, refused, Reader, and_then, ◌>>=◌, give, at_least_one}
use Rattle.omf51.specs.Record.{used_up, whole, record_by}
use Rattle.omf51.specs.Module.{Module, module_by}

-- bare modules: as many as can be read, one at least
abbrev pub modules_by : Edition → List ℕ → Reader (List Module)
modules_by e library = at_least_one library (module_by e library)

-- a record of one type whose body holds no entries
abbrev pub plain_by : Edition → List ℕ → ℕ → Reader Unit
plain_by e library type = record_by e library (eqb type) (whole tt)

-- a library: a 2Ch record, modules, and three closing records
unfoldable pub library_by : Edition → List ℕ → Reader (List Module)
library_by e library = do
  _ ← plain_by e library 0x2c
  modules ← modules_by e library
  _ ← plain_by e library 0x28
  _ ← plain_by e library 0x26
  _ ← plain_by e library 0x2a
  give modules

-- the file, by its first byte, up to where reading it ends
unfoldable pub file_read : Edition → List ℕ → ReadOutcome (List Module)
file_read e library = if eqb (byte_at library 0) 0x2c then library_by e library 0 else modules_by e library 0

-- bytes behind that are ignored in edition 1; edition 2 wants the file used up
abbrev pub file_used : Edition → List ℕ → ReadOutcome (List Module) → ReadOutcome (List Module)
file_used One library o = o
file_used Two library o = and_then o λ modules next. used_up Two (length library) modules next next

-- THE WHOLE FILE, in an edition
unfoldable pub file_by : Edition → List ℕ → ReadOutcome (List Module)
file_by e library = file_used e library (file_read e library)

-- in edition 1
abbrev pub modules_at : List ℕ → Reader (List Module)
modules_at = modules_by One

abbrev pub file : List ℕ → ReadOutcome (List Module)
file = file_by One

-- the refusal of reading (5 to 8, 14, 15), if there is one
abbrev pub file_refusal : ReadOutcome (List Module) → Option Refusal
file_refusal (read modules at) = none
file_refusal stop = some NoModule
file_refusal (refused r) = some r

-- the modules that were read; none if the file is refused
abbrev pub modules_in : ReadOutcome (List Module) → List Module
modules_in (read modules at) = modules
modules_in stop = []
modules_in (refused r) = []
