-- The functions on the table of ids have one outcome each, by their contracts alone. Assumes nothing.
use Rattle.std.specs.Prelude.{ℕ, ◌<◌, ◌≡◌, List}
use Rattle.std.proofs.Common.{sym, ◌∙◌}
use Rattle.lent.specs.OneOutcome.{Determines, by-equation}
use Rattle.lent.specs.Rows.{put_row}
use Rattle.omf51.specs.declared.ModuleId.{ModuleId}
use Rattle.omf51.specs.declared.Definition.{Definition}
use Rattle.segments.specs.Ids.{code_info, is_kept, id_of}
use Rattle.module_ids.specs.declared.IdRow.{IdRow}
use Rattle.module_ids.specs.declared.Mark.{Mark}
use Rattle.module_ids.specs.IdRows.{mark_number, mark_from, id_cells, id_row_at}
use Rattle.module_ids.specs.Noted.{Filled}

pub mark-number-one : (mark : Mark) → Determines (λ n. n ≡ mark_number mark)
mark-number-one mark = by-equation (mark_number mark)

pub mark-from-one : (n : ℕ) → Determines (λ mark. mark ≡ mark_from n)
mark-from-one n = by-equation (mark_from n)

pub code-info-one : (info : ℕ) → Determines (λ r. r ≡ code_info info)
code-info-one info = by-equation (code_info info)

pub is-kept-one : (d : Definition) → Determines (λ r. r ≡ is_kept d)
is-kept-one d = by-equation (is_kept d)

pub id-of-one : (d : Definition) → Determines (λ (r : ModuleId). (r ≡ id_of d) × (r.0 < 65536))
id-of-one d a b p q = p.0 ∙ sym q.0

pub id-row-one : (table : List ℕ) (id : ModuleId) → Determines (λ (r : IdRow). (r ≡ id_row_at table id) × (id.0 < 65536))
id-row-one table id a b p q = p.0 ∙ sym q.0

pub put-id-one : (table : List ℕ) (id : ModuleId) (row : IdRow) → Determines (λ out. out ≡ put_row 3 table id.0 (id_cells row))
put-id-one table id row = by-equation (put_row 3 table id.0 (id_cells row))

-- whatever the table is left as, the number is one
pub fill_one : (definitions : List Definition) (left other : List ℕ) (a b : ℕ) → Filled definitions left a → Filled definitions other b → a ≡ b
fill_one definitions left other a b p q = p.number ∙ sym q.number
