-- How a module's contents and public definitions are gathered: for each its id as a key, and a place in the library at
-- which it is read again.
use Rattle.std.specs.Prelude.{ℕ, ◌+◌, ◌<◌, ◌≡◌, Bool, true, false, List, [], map, length, get_or, take, Option, Some, None}
use Rattle.lent.specs.Lists.{one}
use Rattle.lent.specs.Parts.{byte_at, word_at}
use Rattle.omf51.specs.declared.ModuleId.{ModuleId}
use Rattle.omf51.specs.declared.Definition.{Definition}
use Rattle.omf51.specs.declared.Definition.TheVariants.{Segment, Public, External}
use Rattle.omf51.specs.Module.{Section}
use Rattle.library.specs.declared.items.NextContent.{NextContent}
use Rattle.library.specs.items.Left.{fixups_left}
use Rattle.library.specs.items.Contents.{next_content}
use Rattle.segments.specs.Ids.{id_of}

-- a content, with the fixups that follow it, is read again from the place where it was sought
abbrev pub section_in : List ℕ → Option NextContent → List Section
section_in library (Some n) = one (record { content = n.content; fixups = fixups_left library n.fixups })
section_in library None = []

abbrev pub SectionIs : List ℕ → List ℕ → ℕ → Section → Type 0
SectionIs library places j s = section_in library (next_content library (get_or places j 0)) ≡ one s

abbrev pub section_key : Section → ℕ
section_key s = s.content.id.0

-- a public definition is read again from its offset on: offset (2), a byte that is ignored, the name's length, the name
abbrev pub public_at : List ℕ → ModuleId → ℕ → Definition
public_at library id at = Public id (word_at library at) (record { at = at + 4; len = byte_at library (at + 3) })

abbrev pub PublicIs : List ℕ → List ℕ → ℕ → Definition → Type 0
PublicIs library places j d = public_at library (id_of d) (get_or places j 0) ≡ d

abbrev pub public_key : Definition → ℕ
public_key d = (id_of d).0

abbrev pub is_public_definition : Definition → Bool
is_public_definition (Segment id info relocation size name) = false
is_public_definition (Public id offset name) = true
is_public_definition (External id info name) = false

-- n things are gathered: their keys, and where each stands
pub record Gathered {A : Type 0} (key : A → ℕ) (is : ℕ → A → Type 0) (none : A) (xs : List A) (keys : List ℕ) (n : ℕ) : Type 0 where
  pub number : n ≡ length xs
  pub keyed : take n keys ≡ map key xs
  pub stand : (j : ℕ) → j < n → is j (get_or xs j none)

-- what stands where there is nothing
abbrev pub no_section : Section
no_section = record { content = record { id = record { 0 = 0 }; offset = 0; part = record { at = 0; len = 0 } }; fixups = [] }

abbrev pub no_definition : Definition
no_definition = Public (record { 0 = 0 }) 0 (record { at = 0; len = 0 })
