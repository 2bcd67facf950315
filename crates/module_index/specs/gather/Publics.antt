-- Which public definitions of a module are gathered, and by which key: all of them by id, or those of id 0 by offset.
use Rattle.std.specs.Prelude.{ℕ, List, eqb, Option, Some, None, if◌then◌else◌}
use Rattle.lent.specs.Lists.{keep}
use Rattle.omf51.specs.declared.ModuleId.{ModuleId}
use Rattle.omf51.specs.declared.Definition.{Definition}
use Rattle.omf51.specs.declared.Definition.TheVariants.{Segment, Public, External}
use Rattle.module_index.specs.declared.gather.publics.PublicsBy.{PublicsBy}
use Rattle.module_index.specs.declared.gather.publics.PublicsBy.TheVariants.{Id, Offset}
use Rattle.module_index.specs.gather.Places.{public_key, is_public_definition}

abbrev pub offset_key : Definition → ℕ
offset_key (Segment id info relocation size name) = 0
offset_key (Public id offset name) = offset
offset_key (External id info name) = 0

abbrev pub zero_publics : List Definition → List Definition
zero_publics ds = keep (λ d. eqb (public_key d) 0) (keep is_public_definition ds)

abbrev pub key_by : PublicsBy → Definition → ℕ
key_by Id = public_key
key_by Offset = offset_key

abbrev pub publics_by : PublicsBy → List Definition → List Definition
publics_by Id ds = keep is_public_definition ds
publics_by Offset ds = zero_publics ds

-- the key of a public definition of this id and offset, if it is gathered
abbrev pub keyed_by : PublicsBy → ModuleId → ℕ → Option ℕ
keyed_by Id id offset = Some id.0
keyed_by Offset id offset = if eqb id.0 0 then Some offset else None
