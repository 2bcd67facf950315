-- Where the records of entries, the contents with their fixups, and repetitions of them end; and where a module's parts stand.
use Rattle.std.specs.Prelude.{Option, Some, None, Result, Ok, Err}
use Rattle.std.specs.Prelude.{ℕ, Bool, true, List, if◌then◌else◌}
use Rattle.lent.specs.declared.part.Part.{Part}
use Rattle.lent.specs.declared.refusal.Refusal.{Refusal}
use Rattle.lent.specs.declared.refusal.Refusal.TheVariants.{NamesDiffer}
use Rattle.lent.specs.Parts.{same_name}
use Rattle.omf51.specs.declared.Edition.{Edition}
use Rattle.omf51.specs.declared.Edition.TheVariants.{One, Two}
use Rattle.omf51.specs.Ends.{End}
use Rattle.omf51.specs.declared.Frame.{Frame}
use Rattle.omf51.specs.declared.types.Allowed.{Allowed}
use Rattle.omf51.specs.declared.entry.Entries.{Entries}
use Rattle.omf51.specs.declared.entry.Entries.TheVariants.{Definitions, Fixups}
use Rattle.omf51.specs.Reader.{ReadOutcome, read, stop, refused, Reader, and_then, many}
use Rattle.omf51.specs.Record.{record_by}
use Rattle.omf51.specs.Entry.{name_with}
use Rattle.omf51.specs.Module.{defines, definitions_by, fixups_by, sections_by}
use Rattle.omf51.specs.Expected.{one_type}
use Rattle.omf51.specs.Ends.{end_of, entry_end, entries_end}
use Rattle.library.specs.declared.Places.{Places}

-- what may stand among such records, and whether one of a type holds entries or is skipped
abbrev pub allowed_for : Entries → Allowed
allowed_for Definitions = Allowed.Definitions
allowed_for Fixups = Allowed.Fixups

abbrev pub holds : Entries → ℕ → Bool
holds Definitions type = defines type
holds Fixups type = true

-- one record, and all of them
abbrev pub record_end_by : Edition → Entries → List ℕ → ℕ → End
record_end_by e Definitions library at = end_of (definitions_by e library at)
record_end_by e Fixups library at = end_of (fixups_by e library at)

abbrev pub all_end_by : Edition → Entries → List ℕ → ℕ → End
all_end_by e Definitions library at = end_of (many library (definitions_by e library) at)
all_end_by e Fixups library at = end_of (many library (fixups_by e library) at)

abbrev pub sections_end_by : Edition → List ℕ → ℕ → End
sections_end_by e library at = end_of (many library (sections_by e library) at)

-- what is asked of a body that holds entries: in edition 1 whether its first entry is whole, in edition 2 where its last
-- whole one ends
abbrev pub body_end : Edition → Entries → List ℕ → Frame → End
body_end One what library f = entry_end what library f f.body
body_end Two what library f = entries_end what library f

-- A module's places, by the readers of its definition: where its definitions and its contents start, and what stands after it
abbrev pub head_by : Edition → List ℕ → Reader Part
head_by e library = record_by e library (one_type 0x02) (name_with 2 library)

abbrev pub last_by : Edition → List ℕ → Reader Part
last_by e library = record_by e library (one_type 0x04) (name_with 4 library)

abbrev pub closed_by : List ℕ → Part → ℕ → ℕ → Part → Reader Places
closed_by library name definitions contents last next =
    if same_name library name last
    then read (record { definitions = definitions; contents = contents; next = next }) next
    else refused NamesDiffer

unfoldable pub last_places : Edition → List ℕ → Part → ℕ → ℕ → Reader Places
last_places e library name definitions contents at = and_then (last_by e library at) (closed_by library name definitions contents)

unfoldable pub rest_places : Edition → List ℕ → Part → Reader Places
rest_places e library name definitions =
    and_then (many library (definitions_by e library) definitions) λ _ contents.
    and_then (many library (sections_by e library) contents) λ _ at. last_places e library name definitions contents at

unfoldable pub places_by : Edition → List ℕ → Reader Places
places_by e library at = and_then (head_by e library at) (rest_places e library)

-- in edition 1, by which whole modules are gone over again
abbrev pub record_end : Entries → List ℕ → ℕ → End
record_end = record_end_by One

abbrev pub places_at : List ℕ → Reader Places
places_at = places_by One

-- the code's answer
abbrev pub places_read : Result (Option Places) Refusal → ReadOutcome Places
places_read (Ok (Some p)) = read p p.next
places_read (Ok None) = stop
places_read (Err r) = refused r
