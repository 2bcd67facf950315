-- What the ids of a module mean: its kept segments, and the first definition of an id.
use Rattle.std.specs.Prelude.{ℕ, Bool, false, not, ◌&&◌, List, eqb, if◌then◌else◌}
use Rattle.std.proofs.Math.Option.{Option, none, some}
use Rattle.std.specs.Int.Bits.{bit_and}
use Rattle.lent.specs.declared.part.Part.{Part}
use Rattle.lent.specs.Lists.{keep, any, place_of, first}
use Rattle.omf51.specs.declared.ModuleId.{ModuleId}
use Rattle.omf51.specs.declared.Definition.{Definition}
use Rattle.omf51.specs.declared.Definition.TheVariants.{Segment, Public, External}
use Rattle.omf51.specs.declared.Fixup.{Fixup}
use Rattle.omf51.specs.Module.{Module}

-- two ids are the same number
abbrev pub same_id : ModuleId → ModuleId → Bool
same_id a b = eqb a.0 b.0

-- info says code: its low three bits are 0
abbrev pub code_info : ℕ → Bool
code_info info = eqb (bit_and info 7) 0

-- a definition is a kept segment: its id is not 0, it is code, and its relocation byte is not 0
-- (a value without a meaning counts too)
abbrev pub is_kept : Definition → Bool
is_kept (Segment id info relocation size name) = not (eqb id.0 0) && code_info info && not (eqb relocation 0)
is_kept (Public id offset name) = false
is_kept (External id info name) = false

-- the kept segments of a module, as they are defined
unfoldable pub kept : Module → List Definition
kept m = keep is_kept m.definitions

-- a definition is a segment of this id
abbrev pub segment_of : ModuleId → Definition → Bool
segment_of id (Segment own info relocation size name) = same_id own id
segment_of id (Public own offset name) = false
segment_of id (External own info name) = false

-- a definition is an external of this id
abbrev pub external_of : ModuleId → Definition → Bool
external_of id (Segment own info relocation size name) = false
external_of id (Public own offset name) = false
external_of id (External own info name) = same_id own id

-- the module has a kept segment of this id
abbrev pub any_kept : Module → ModuleId → Bool
any_kept m id = any (segment_of id) (kept m)

-- the kept segment of this id that is defined first
abbrev pub first_kept : Module → ModuleId → Option Definition
first_kept m id = first (segment_of id) (kept m)

-- the place of that segment among the module's kept segments; if there is none, their number
abbrev pub kept_place : Module → ModuleId → ℕ
kept_place m id = place_of (segment_of id) (kept m)

-- the definition that a fixup names: the first of its id, of a segment for block 1, of an external
-- for block 2; other blocks name nothing
unfoldable pub named : Module → Fixup → Option Definition
named m f =
    if eqb f.block 1 then first (segment_of f.id) m.definitions
    else if eqb f.block 2 then first (external_of f.id) m.definitions
    else none

-- a definition is there, and is code
abbrev pub is_code : Option Definition → Bool
is_code none = false
is_code (some (Segment id info relocation size name)) = code_info info
is_code (some (Public id offset name)) = false
is_code (some (External id info name)) = code_info info

-- the size of a segment; other definitions have none
abbrev pub size_of : Definition → ℕ
size_of (Segment id info relocation size name) = size
size_of (Public id offset name) = 0
size_of (External id info name) = 0

-- the name of a definition
abbrev pub name_of : Definition → Part
name_of (Segment id info relocation size name) = name
name_of (Public id offset name) = name
name_of (External id info name) = name

-- the id of a definition
abbrev pub id_of : Definition → ModuleId
id_of (Segment id info relocation size name) = id
id_of (Public id offset name) = id
id_of (External id info name) = id

-- the empty name, where there is no definition
abbrev pub no_name : Part
no_name = record { at = 0; len = 0 }

-- the name of a definition that may be missing
abbrev pub name_in : Option Definition → Part
name_in none = no_name
name_in (some d) = name_of d
