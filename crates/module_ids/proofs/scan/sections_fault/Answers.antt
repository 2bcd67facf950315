use mathlib.Core.Path.{◌≡◌, refl, sym, ap, ◌∙◌}
use mathlib.Core.List.{List, ◌∷◌}
use native.Mathlib.Omega.{arith}
use Rattle.omf51.specs.Module.{Section}
use Rattle.library.specs.items.Left.{fixups_left}
use Rattle.library.specs.items.Yields.{sections_after, next-content-yields}
use Rattle.omf51.proofs.Exits.{handed_on}
use Rattle.module_ids.specs.fault.Scan.{section_fault, sections_fault, section_with}
use Rattle.module_ids.specs.fault.Faults.{verdict_of}
use Rattle.module_ids.proofs.fault.ScanLaws.{refused-first, passed_first, none_first, told}
use Rattle.module_ids.proofs.scan.sections_fault.Goals as goal
use Rattle.module_ids.proofs.scan.sections_fault.Goals.{In-Some}
use Rattle.module_ids.proofs.scan.sections_fault.Invariants.{left}

abbrev section : (c : In-Some) → Section
section c =
    section_with c.in-Some.field-0.content (fixups_left c.args.library.now c.in-Some.field-0.fixups)

abbrev rest : (c : In-Some) → List Section
rest c =
    left c.args.library.now c.in-Some.field-0.rest

yields : (c : In-Some) → left c.args.library.now c.loop-content.at ≡ (section c) ∷ (rest c)
yields c =
    let lib = c.args.library.now in next-content-yields lib c.loop-content.at ∙ ap (sections_after lib) (sym c.next_content.ensures ∙ c.in-Some.is)

pub loop-content-init : goal.loop-content-init
loop-content-init c =
    λ ds t. refl

pub returns-in_err-section_fault : goal.returns-in_err-section_fault
returns-in_err-section_fault c =
    λ ds t.
    handed_on c.from_residual.result c.from_residual.ensures.1 ∙ ap verdict_of (sym (refused-first (section_fault ds) (section (goal.at.returns-in_err-section_fault c).In-Some) (rest (goal.at.returns-in_err-section_fault c).In-Some)
    (told (sym (c.section_fault.ensures ds t) ∙ c.in_err-section_fault.was))) ∙ ap (sections_fault ds) (sym (yields (goal.at.returns-in_err-section_fault c).In-Some)) ∙ c.loop-content.invariant ds t)

pub loop-content-smaller : goal.loop-content-smaller
loop-content-smaller c =
    rw (yields (goal.at.loop-content-smaller c).In-Some) (omega arith)

pub loop-content-preserved : goal.loop-content-preserved
loop-content-preserved c =
    λ ds t.
    sym (passed_first (section_fault ds) (section (goal.at.loop-content-preserved c).In-Some) (rest (goal.at.loop-content-preserved c).In-Some)
    (told (sym (c.section_fault.ensures ds t) ∙ c.in_ok-section_fault.was))) ∙ ap (sections_fault ds) (sym (yields (goal.at.loop-content-preserved c).In-Some)) ∙ c.loop-content.invariant ds t

pub returns : goal.returns
returns c =
    λ ds t.
    let lib = c.args.library.now in
    let e = next-content-yields lib c.loop-content.at ∙ ap (sections_after lib) (sym c.next_content.ensures ∙ c.in_default.is) in
    ap verdict_of (sym (none_first (section_fault ds)) ∙ ap (sections_fault ds) (sym e) ∙ c.loop-content.invariant ds t)
