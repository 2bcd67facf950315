-- What the ids of a module lead to, as rows of numbers.
use Rattle.std.specs.Prelude.{Some, None, Option as Optional}
use Rattle.std.specs.Prelude.{ℕ, ◌+◌, ◌-◌, ◌*◌, ◌/◌, ◌%◌, ◌<◌, List, [], ◌∷◌, eqb, if◌then◌else◌}
use Rattle.std.proofs.Math.Option.{Option, none, some}
use Rattle.lent.specs.declared.part.Part.{Part}
use Rattle.lent.specs.Lists.{keep, place_of, first}
use Rattle.lent.specs.Rows.{Layout, row_at}
use Rattle.omf51.specs.declared.ModuleId.{ModuleId}
use Rattle.omf51.specs.declared.Definition.{Definition}
use Rattle.segments.specs.Ids.{is_kept, segment_of, external_of, is_code, size_of, name_in}
use Rattle.module_ids.specs.declared.Mark.{Mark}
use Rattle.module_ids.specs.declared.Mark.TheVariants.{Missing, Other, Code}
use Rattle.module_ids.specs.declared.KeptSegment.{KeptSegment}
use Rattle.module_ids.specs.declared.IdRow.{IdRow}
use Rattle.module_ids.specs.declared.row.KeptPair.{KeptPair}

-- what the definitions of a module say of an id
abbrev pub mark_of : Option Definition → Mark
mark_of none = Missing
mark_of (some d) = if is_code (some d) then Code else Other

abbrev pub kept_as : ℕ → Option Definition → Optional KeptSegment
kept_as place none = None
kept_as place (some d) = Some (record { place = place; size = size_of d })

abbrev pub kept_in : List Definition → ModuleId → Optional KeptSegment
kept_in definitions id = kept_as (place_of (segment_of id) (keep is_kept definitions)) (first (segment_of id) (keep is_kept definitions))

unfoldable pub id_row : List Definition → ModuleId → IdRow
id_row definitions id = record {
  segment = mark_of (first (segment_of id) definitions);
  kept = kept_in definitions id;
  external = mark_of (first (external_of id) definitions);
  name = name_in (first (external_of id) definitions);
}

-- as numbers: a mark; a kept segment's ordinal among those of the module, counted from 1, and its size; 0 for what is missing
abbrev pub mark_number : Mark → ℕ
mark_number Missing = 0
mark_number Other = 1
mark_number Code = 2

abbrev pub mark_from : ℕ → Mark
mark_from n = if eqb n 0 then Missing else if eqb n 1 then Other else Code

-- the kept segment's numbers, as the code has them
abbrev pub kept_cells : Optional KeptSegment → KeptPair
kept_cells None = record { ordinal = 0; size = 0 }
kept_cells (Some k) = record { ordinal = k.place + 1; size = k.size }

abbrev pub kept_from : ℕ → ℕ → Optional KeptSegment
kept_from ordinal size = if eqb ordinal 0 then None else Some (record { place = ordinal - 1; size = size })

-- two numbers in one
abbrev pub packed : ℕ → ℕ → ℕ
packed high low = high * 256 + low

-- the external's name, from its packed place and length
abbrev pub name_from : ℕ → Part
name_from n = record { at = n / 256; len = n % 256 }

-- kept segment and mark of the segment; its size and mark of the external; place and length of the external's name
abbrev pub id_cells : IdRow → List ℕ
id_cells r =
    let k = kept_cells r.kept in
    packed k.ordinal (mark_number r.segment) ∷ packed k.size (mark_number r.external) ∷ packed r.name.at r.name.len ∷ []

abbrev pub id_layout : Layout IdRow
id_layout = record {
  width = 3;
  cells = id_cells;
  read = λ n. record {
    segment = mark_from (n 0 % 256);
    kept = kept_from (n 0 / 256) (n 1 / 256);
    external = mark_from (n 1 % 256);
    name = name_from (n 2);
  };
}

abbrev pub id_row_at : List ℕ → ModuleId → IdRow
id_row_at m id = row_at id_layout m id.0

-- a row whose numbers fit 32 bits
pub record Small (r : IdRow) : Type 0 where
  pub ordinal-small : (kept_cells r.kept).ordinal < 16777216
  pub size_small : (kept_cells r.kept).size < 16777216
  pub at_small : r.name.at < 16777216
  pub len-small : r.name.len < 256
