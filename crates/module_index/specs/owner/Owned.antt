-- The contents of an id go to the first kept segment of it.
use Rattle.std.specs.Prelude.{ℕ, Bool, false, List, eqb, get_or, Option, Some, None, if◌then◌else◌}
use Rattle.omf51.specs.declared.ModuleId.{ModuleId}
use Rattle.module_ids.specs.declared.KeptSegment.{KeptSegment}
use Rattle.module_ids.specs.declared.IdRow.{IdRow}

abbrev pub is_first : Option KeptSegment → ℕ → Bool
is_first None place = false
is_first (Some k) place = eqb k.place place

abbrev pub link_at : List ℕ → ModuleId → IdRow → ℕ → ℕ
link_at heads id row place = if is_first row.kept place then get_or heads id.0 0 else 0
