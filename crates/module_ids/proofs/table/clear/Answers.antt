use Prim.Native.Nat.{◌<◌}
use mathlib.Core.Path.{◌≡◌, refl, sym, ap, subst, ◌∙◌}
use mathlib.Core.List.{◌∷◌}
use native.Mathlib.Omega.{arith}
use lib.ListN.{length}
use Rattle.lent.specs.RowLaws.{put-length}
use Rattle.omf51.specs.declared.ModuleId.{ModuleId}
use Rattle.library.specs.items.Left.{definitions_left}
use Rattle.library.specs.items.Yields.{definitions_after, next-definition-yields, definitions-start}
use Rattle.module_ids.proofs.ClearLaws.{Clearing, clearing-starts, none-small, clearing-step, cleared}
use Rattle.module_ids.proofs.table.clear.Goals as goal
use Rattle.module_ids.proofs.table.clear.Goals.{After-no_row}

yields : (c : After-no_row) → definitions_left c.args.library.now c.loop-definition.c ≡ c.in-Some.field-0.definition ∷ definitions_left c.args.library.now c.in-Some.field-0.rest
yields c =
    let a = c.args in next-definition-yields a.library.now c.loop-definition.c ∙ ap (definitions_after a.library.now) (sym c.next_definition.ensures ∙ c.in-Some.is)

pub loop-definition-init : goal.loop-definition-init
loop-definition-init c =
    let a = c.args in
    rw c.start-c.ensures (record { long = refl; clearing = rw (definitions-start a.library.now a.at) (clearing-starts _ a.table.now c.requires) })

pub put_id-requires : goal.put_id-requires
put_id-requires c =
    rw c.no_row.ensures none-small

pub loop-definition-smaller : goal.loop-definition-smaller
loop-definition-smaller c =
    rw (yields (goal.at.loop-definition-smaller c).After-no_row) (omega arith)

pub loop-definition-preserved : goal.loop-definition-preserved
loop-definition-preserved c =
    let l = c.loop-definition in
    let d = c.in-Some.field-0.definition in
    let i = c.id_of.ensures in
    let e = c.put_id.ensures in
    record {
      long = ap length e ∙ put-length 3 l.table _ _ ∙ l.invariant.long;
      clearing = rw (e, c.no_row.ensures, i.0)
          (clearing-step d _ l.table (subst (λ (x : ModuleId). x.0 < 65536) i.0 i.1) (rw (yields (goal.at.loop-definition-preserved c).After-no_row) at l.invariant.clearing));
    }

pub returns : goal.returns
returns c =
    let l = c.loop-definition in
    let lib = c.args.library.now in
    let e = next-definition-yields lib l.c ∙ ap (definitions_after lib) (sym c.next_definition.ensures ∙ c.in_default.is) in
    cleared l.table (subst (λ xs. Clearing xs l.table) e l.invariant.clearing)
