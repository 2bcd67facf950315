use mathlib.Core.Path.{◌≡◌, refl, sym, ap, ◌∙◌}
use mathlib.Core.List.{List, ◌∷◌}
use native.Mathlib.Omega.{arith}
use Rattle.omf51.specs.declared.Definition.{Definition}
use Rattle.library.specs.items.Left.{fixups_left}
use Rattle.library.specs.items.Yields.{fixups_after, next-fixup-yields}
use Rattle.module_ids.specs.Noted.{Tells}
use Rattle.std.specs.Prelude.{Result}
use Rattle.lent.specs.declared.refusal.Refusal.{Refusal}
use Rattle.omf51.proofs.Exits.{handed_on}
use Rattle.module_ids.specs.fault.Faults.{verdict_of, fixup_fault}
use Rattle.module_ids.specs.fault.Scan.{one_fault, fixups_fault}
use Rattle.module_ids.proofs.fault.ScanLaws.{refused-first, passed_first, none_first, told}
use Rattle.module_ids.proofs.scan.fixups_fault.Goals as goal
use Rattle.module_ids.proofs.scan.fixups_fault.Goals.{After-id_row}

yields : (c : After-id_row) → fixups_left c.args.library.now c.loop-fixup.c ≡ c.in-Some.field-0.fixup ∷ fixups_left c.args.library.now c.in-Some.field-0.rest
yields c =
    let a = c.args in next-fixup-yields a.library.now c.loop-fixup.c ∙ ap (fixups_after a.library.now) (sym c.next_fixup.ensures ∙ c.in-Some.is)

pub loop-fixup-init : goal.loop-fixup-init
loop-fixup-init c =
    λ ds t. refl

pub returns-in_err-fixup_fault : goal.returns-in_err-fixup_fault
returns-in_err-fixup_fault c =
    let verdict : (v : Result Unit Refusal) → c.fixup_fault.result ≡ v → (ds : List Definition) → Tells ds c.args.table.now → verdict_of (one_fault ds c.in-Some.field-0.fixup) ≡ v = λ _ e ds t. let f = c.in-Some.field-0.fixup in
    ap (λ r. verdict_of (fixup_fault r f)) (sym (c.id_row.ensures.0 ∙ t.rows f.id c.id_row.ensures.1)) ∙ sym c.fixup_fault.ensures ∙ e in
    λ ds t.
    handed_on c.from_residual.result c.from_residual.ensures.1 ∙ ap verdict_of (sym (refused-first (one_fault ds) c.in-Some.field-0.fixup
    (fixups_left c.args.library.now c.in-Some.field-0.rest)
    (told (verdict _ c.in_err-fixup_fault.was ds t))) ∙ ap (fixups_fault ds) (sym (yields (goal.at.returns-in_err-fixup_fault c).After-id_row)) ∙ c.loop-fixup.invariant ds t)

pub loop-fixup-smaller : goal.loop-fixup-smaller
loop-fixup-smaller c =
    rw (yields (goal.at.loop-fixup-smaller c).After-id_row) (omega arith)

pub loop-fixup-preserved : goal.loop-fixup-preserved
loop-fixup-preserved c =
    let verdict : (v : Result Unit Refusal) → c.fixup_fault.result ≡ v → (ds : List Definition) → Tells ds c.args.table.now → verdict_of (one_fault ds c.in-Some.field-0.fixup) ≡ v = λ _ e ds t. let f = c.in-Some.field-0.fixup in
    ap (λ r. verdict_of (fixup_fault r f)) (sym (c.id_row.ensures.0 ∙ t.rows f.id c.id_row.ensures.1)) ∙ sym c.fixup_fault.ensures ∙ e in
    λ ds t.
    sym (passed_first (one_fault ds) c.in-Some.field-0.fixup
    (fixups_left c.args.library.now c.in-Some.field-0.rest)
    (told (verdict _ c.in_ok-fixup_fault.was ds t))) ∙ ap (fixups_fault ds) (sym (yields (goal.at.loop-fixup-preserved c).After-id_row)) ∙ c.loop-fixup.invariant ds t

pub returns : goal.returns
returns c =
    λ ds t.
    let lib = c.args.library.now in
    let e = next-fixup-yields lib c.loop-fixup.c ∙ ap (fixups_after lib) (sym c.next_fixup.ensures ∙ c.in_default.is) in
    ap verdict_of (sym (none_first (one_fault ds)) ∙ ap (fixups_fault ds) (sym e) ∙ c.loop-fixup.invariant ds t)
