-- One module: header, definitions, contents with their fixups, end. The type byte alone decides what a record is.
use Rattle.std.specs.Prelude.{ℕ, ◌+◌, ◌-◌, Bool, not, ◌||◌, List, [], ◌∷◌, eqb, if◌then◌else◌}
use Rattle.lent.specs.declared.refusal.Refusal.TheVariants.{NamesDiffer}
use Rattle.lent.specs.Lists.{one, is_in}
use Rattle.lent.specs.Parts.{byte_at, word_at, same_name}
use Rattle.omf51.specs.declared.Edition.{Edition}
use Rattle.omf51.specs.declared.Edition.TheVariants.{One}
use Rattle.omf51.specs.declared.Frame.{Frame}
use Rattle.omf51.specs.declared.Definition.{Definition}
use Rattle.omf51.specs.declared.Content.{Content}
use Rattle.omf51.specs.declared.Fixup.{Fixup}
use Rattle.omf51.specs.Reader.{Reader, and_then, ◌>>=◌, give, refuse, many, at_least_one}
use Rattle.omf51.specs.Record.{whole, record_by}
use Rattle.omf51.specs.Entry.{ending, name_with, id_size, id_at, definition_at, fixup_at}

-- a type is one of the even types, whose records have ids of one byte, or of the odd ones, the same records with ids of two
abbrev pub either_of : List ℕ → List ℕ → ℕ → Bool
either_of even odd type = is_in even type || is_in odd type

-- THE KNOWN TYPES: the thirteen even types of the Intel paper, and seven odd ones
abbrev pub is_known : ℕ → Bool
is_known =
    either_of
    (0x02 ∷ 0x04 ∷ 0x06 ∷ 0x08 ∷ 0x0e ∷ 0x10 ∷ 0x12 ∷ 0x16 ∷ 0x18 ∷ 0x26 ∷ 0x28 ∷ 0x2a ∷ 0x2c ∷ [])
    (0x07 ∷ 0x09 ∷ 0x0f ∷ 0x11 ∷ 0x13 ∷ 0x17 ∷ 0x19 ∷ [])

-- the types of definition records: segments, public names, externals
abbrev pub defines : ℕ → Bool
defines = either_of (0x0e ∷ 0x16 ∷ 0x18 ∷ []) (0x0f ∷ 0x17 ∷ 0x19 ∷ [])

-- the types of contents
abbrev pub fills : ℕ → Bool
fills = either_of (0x06 ∷ []) (0x07 ∷ [])

-- the types of fixup records
abbrev pub fixes : ℕ → Bool
fixes = either_of (0x08 ∷ []) (0x09 ∷ [])

-- the known types that are skipped among contents
abbrev pub rests : ℕ → Bool
rests = either_of (0x10 ∷ 0x12 ∷ []) (0x13 ∷ [])

-- the types that are skipped among contents: all unknown types, and these
abbrev pub is_idle : ℕ → Bool
is_idle type = not (is_known type) || rests type

-- a record among definitions: it has at least one whole entry (a partial entry behind it is left over), or is of an
-- unknown type and skipped
unfoldable pub definitions_by : Edition → List ℕ → Reader (List Definition)
definitions_by e library =
    record_by e library (λ type. defines type || not (is_known type)) λ f.
    if defines f.kind then at_least_one library (definition_at library f) else whole [] f

-- a record of fixups, with at least one whole fixup
unfoldable pub fixups_by : Edition → List ℕ → Reader (List Fixup)
fixups_by e library = record_by e library fixes λ f. at_least_one library (fixup_at library f)

-- the body of a content: id, offset (2), and the rest is the data
abbrev pub content_body : List ℕ → Frame → Reader Content
content_body library f at =
    let w = at + id_size f in
    let content : Content = record {
      id = id_at library f at;
      offset = word_at library w;
      part = record { at = w + 2; len = f.end - (w + 2) };
    } in
    and_then (ending f content (w + 2)) λ content rest. whole content f rest

-- a content, and the fixups of the records that follow it at once
pub record Section : Type 0 where
  pub content : Content
  pub fixups : List Fixup

-- a content record and all fixup records behind it
unfoldable pub section_by : Edition → List ℕ → Reader (List Section)
section_by e library = do
  content ← record_by e library fills (content_body library)
  fixups ← many library (fixups_by e library)
  give (one (record { content = content; fixups = fixups }))

-- a record among contents: a content with its fixups, or a record that is skipped
unfoldable pub sections_by : Edition → List ℕ → Reader (List Section)
sections_by e library at =
    if fills (byte_at library at) then section_by e library at else record_by e library is_idle (whole []) at

-- a module: its definitions, and its contents with their fixups, both in file order
pub record Module : Type 0 where
  pub definitions : List Definition
  pub sections : List Section

-- the module at a place: header, definitions, contents, end; it is refused if the end has another name than the header
unfoldable pub module_by : Edition → List ℕ → Reader (List Module)
module_by e library = do
  name ← record_by e library (eqb 0x02) (name_with 2 library)
  definitions ← many library (definitions_by e library)
  sections ← many library (sections_by e library)
  last ← record_by e library (eqb 0x04) (name_with 4 library)
  if same_name library name last then give (one (record { definitions = definitions; sections = sections })) else refuse NamesDiffer

-- in edition 1, by which whole modules are gone over again, whatever the edition that read them
abbrev pub definitions_at : List ℕ → Reader (List Definition)
definitions_at = definitions_by One

abbrev pub fixups_at : List ℕ → Reader (List Fixup)
fixups_at = fixups_by One

abbrev pub section_at : List ℕ → Reader (List Section)
section_at = section_by One

abbrev pub sections_at : List ℕ → Reader (List Section)
sections_at = sections_by One

abbrev pub module_at : List ℕ → Reader (List Module)
module_at = module_by One
