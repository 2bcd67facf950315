-- References that are added, one fixup after another. Assumes nothing.
use Rattle.std.specs.Prelude.{ℕ, ◌<◌, ◌≡◌, List, ◌∷◌, ◌++◌}
use Rattle.std.proofs.Common.{sym, ap, ◌∙◌}
use Rattle.lent.specs.Lists.{joined}
use Rattle.lent.specs.ListLaws.{joined-turn}
use Rattle.tables.specs.declared.fill.Fill.{Fill}
use Rattle.tables.specs.fill.FilledRows.{Adds, Leads}
use Rattle.tables.specs.fill.AddedRowLaws.{lead-on}
use Rattle.omf51.specs.declared.Definition.{Definition}
use Rattle.omf51.specs.declared.Fixup.{Fixup}
use Rattle.segments.specs.declared.Reference.{Reference}
use Rattle.segments.specs.SegmentLayouts.{reference_layout}
use Rattle.module_ids.specs.declared.IdRow.{IdRow}
use Rattle.module_ids.specs.IdRows.{id_row_at}
use Rattle.module_ids.specs.Noted.{Tells}
use Rattle.module_ids.specs.reference.LeftReference.{leaves_by}
use Rattle.segment_parts.specs.AddedReferences.{leaves_in}

-- one fixup more: what it leaves by its row is added, and the rest is left
pub refer-on : (definitions : List Definition) (table : List ℕ) (number base : ℕ) (f : Fixup) {row : IdRow} {left rest : List Fixup} {all new : List Reference} {m₀ m n : List ℕ} {g₀ g h : Fill}
    → Tells definitions table → (row ≡ id_row_at table f.id) × (f.id.0 < 65536) → left ≡ f ∷ rest → new ≡ leaves_by row number base f
    → Adds reference_layout new m g n h
    → Leads reference_layout (joined (leaves_in definitions number base) left) m g all m₀ g₀
    → Leads reference_layout (joined (leaves_in definitions number base) rest) n h all m₀ g₀
refer-on definitions table number base f {row} {left} {rest} {all} {new} {m₀} {m} {n} {g₀} {g} {h} t r e w p leads =
    let same : new ≡ leaves_in definitions number base f = w ∙ ap (λ x. leaves_by x number base f) (r.0 ∙ t.rows f.id r.1) in
    lead-on reference_layout new {m₀ = m₀} {m = m} {n = n} {f₀ = g₀} {f = g} {g = h} (joined-turn (leaves_in definitions number base) e ∙ ap (λ xs. xs ++ joined (leaves_in definitions number base) rest) (sym same)) p leads
