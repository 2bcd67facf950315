-- What one more definition changes in the row of its id, and what a table tells of a module's definitions.
use Rattle.std.specs.Prelude.{ℕ, ◌+◌, ◌*◌, ◌<◌, ◌≤◌, ◌≡◌, Bool, List, [], length, Some, None, Option, if◌then◌else◌}
use Rattle.lent.specs.declared.part.Part.{Part}
use Rattle.lent.specs.Lists.{keep}
use Rattle.lent.specs.Rows.{flag, put_row}
use Rattle.omf51.specs.declared.ModuleId.{ModuleId}
use Rattle.omf51.specs.declared.Definition.{Definition}
use Rattle.omf51.specs.declared.Definition.TheVariants.{Segment, Public, External}
use Rattle.library.specs.Longest.{Short}
use Rattle.segments.specs.Ids.{code_info, is_kept, id_of}
use Rattle.module_ids.specs.declared.Mark.{Mark}
use Rattle.module_ids.specs.declared.Mark.TheVariants.{Missing, Other, Code}
use Rattle.module_ids.specs.declared.KeptSegment.{KeptSegment}
use Rattle.module_ids.specs.declared.IdRow.{IdRow}
use Rattle.module_ids.specs.IdRows.{id_row, id_cells, id_row_at, Small}

-- the first definition of an id stays
abbrev pub first_mark : Mark → Bool → Mark
first_mark Missing code = if code then Code else Other
first_mark Other code = Other
first_mark Code code = Code

abbrev pub first_name : Mark → Part → Part → Part
first_name Missing old new = new
first_name Other old new = old
first_name Code old new = old

abbrev pub first_kept_as : Option KeptSegment → Bool → ℕ → ℕ → Option KeptSegment
first_kept_as None kept place size = if kept then Some (record { place = place; size = size }) else None
first_kept_as (Some k) kept place size = Some k

-- `n` segments were kept before this definition
abbrev pub changed : IdRow → ℕ → Definition → IdRow
changed r n (Segment id info relocation size name) = record {
  segment = first_mark r.segment (code_info info);
  kept = first_kept_as r.kept (is_kept (Segment id info relocation size name)) n size;
  external = r.external;
  name = r.name;
}
changed r n (Public id offset name) = r
changed r n (External id info name) = record {
  segment = r.segment;
  kept = r.kept;
  external = first_mark r.external (code_info info);
  name = first_name r.external r.name name;
}

abbrev pub row_noted : List ℕ → ℕ → Definition → List ℕ
row_noted table n d = put_row 3 table (id_of d).0 (id_cells (changed (id_row_at table (id_of d)) n d))

-- no id leads to a public definition
abbrev pub note_in : List ℕ → ℕ → Definition → List ℕ
note_in table n (Segment id info relocation size name) = row_noted table n (Segment id info relocation size name)
note_in table n (Public id offset name) = table
note_in table n (External id info name) = row_noted table n (External id info name)

-- the row of its id still fits
abbrev pub StaysSmall : ℕ → Definition → Type 0
StaysSmall n d = (row : IdRow) → Small row → Small (changed row n d)

abbrev pub kept_after : ℕ → Definition → ℕ
kept_after n d = n + flag (is_kept d)

-- a table with a row for every id, which tells what definitions say of each
pub record Tells (definitions : List Definition) (table : List ℕ) : Type 0 where
  pub long : 65536 * 3 ≤ length table
  pub rows : (id : ModuleId) → id.0 < 65536 → id_row_at table id ≡ id_row definitions id

-- a library whose definitions a clear table has room for
pub record Fillable (library table : List ℕ) : Type 0 where
  pub short : Short library
  pub clear : Tells [] table

-- how many segments definitions keep, beside what the table tells
pub record Filled (definitions : List Definition) (table : List ℕ) (n : ℕ) : Type 0 where
  pub tells : Tells definitions table
  pub number : n ≡ length (keep is_kept definitions)

-- an id of which nothing is defined
abbrev pub no_row : IdRow
no_row = record { segment = Missing; kept = None; external = Missing; name = record { at = 0; len = 0 } }
