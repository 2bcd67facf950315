-- `note`: the row of its id, changed and put back; it fits, as every row of a table of 32 bits does. A public definition changes nothing. Assumes nothing.
use Prim.Native.Nat.{ℕ, ◌<◌}
use mathlib.Core.Path.{◌≡◌, refl, sym, subst, ◌∙◌}
use mathlib.Core.List.{List}
use native.Mathlib.Omega.{arith}
use Rattle.lent.specs.declared.part.Part.{Part}
use Rattle.omf51.specs.declared.ModuleId.{ModuleId}
use Rattle.omf51.specs.declared.Definition.{Definition}
use Rattle.omf51.specs.declared.Definition.TheVariants.{Segment, Public, External}
use Rattle.segments.specs.Ids.{id_of}
use Rattle.module_ids.specs.IdRows.{id_row_at, Small}
use Rattle.module_ids.proofs.IdRowLaws.{read_small}
use Rattle.module_ids.specs.Noted.{changed, row_noted, note_in}
use Rattle.module_ids.proofs.NotedLaws.{note-steps}
use Rattle.module_ids.proofs.table.note.Goals as goal

row-changes : (table : List ℕ) (n : ℕ) (d : Definition) → ((id : ModuleId) (offset : ℕ) (name : Part) → d ≡ Public id offset name → ⊥)
    → row_noted table n d ≡ note_in table n d
row-changes table n (Segment id info relocation size name) never = refl
row-changes table n (Public id offset name) never = absurd (never id offset name refl)
row-changes table n (External id info name) never = refl

pub returns-in-Public : goal.returns-in-Public
returns-in-Public c =
    let id-small : (id_of c.args.d).0 < 65536 = let i = c.id_of-id.ensures in subst (λ (x : ModuleId). x.0 < 65536) i.0 i.1 in
    let new-small : let a = c.args in Small (changed (id_row_at a.table.now (id_of a.d)) a.n a.d) = let a = c.args in
    c.requires (id_row_at a.table.now (id_of a.d)) (read_small a.table.now (λ i. omega (arith, c.slice_known-1.given i)) (id_of a.d)) in
    let a = c.args in
    (subst (λ d. a.table.now ≡ note_in a.table.now a.n d) (sym c.in-Public.is) refl, id-small, new-small)

pub put_id-requires : goal.put_id-requires
put_id-requires c =
    let new-small : let a = c.args in Small (changed (id_row_at a.table.now (id_of a.d)) a.n a.d) = let a = c.args in
    c.requires (id_row_at a.table.now (id_of a.d)) (read_small a.table.now (λ i. omega (arith, c.slice_known-1.given i)) (id_of a.d)) in
    rw (c.changed.ensures, c.id_row-row.ensures.0, c.id_of-id.ensures.0) (new-small)

pub returns : goal.returns
returns c =
    let id-small : (id_of c.args.d).0 < 65536 = let i = c.id_of-id.ensures in subst (λ (x : ModuleId). x.0 < 65536) i.0 i.1 in
    let new-small : let a = c.args in Small (changed (id_row_at a.table.now (id_of a.d)) a.n a.d) = let a = c.args in
    c.requires (id_row_at a.table.now (id_of a.d)) (read_small a.table.now (λ i. omega (arith, c.slice_known-1.given i)) (id_of a.d)) in
    let a = c.args in (
      note-steps a.table.now a.n a.d c.id_of-id.ensures.0 c.id_row-row.ensures.0 c.changed.ensures c.put_id.ensures
          ∙ row-changes a.table.now a.n a.d c.in_default.not-Public,
      id-small,
      new-small,
    )
