use mathlib.Core.Path.{◌≡◌, refl, sym, ap, ◌∙◌}
use mathlib.Core.List.{[]}
use native.Mathlib.Omega.{arith}
use Rattle.lent.specs.Choice.{or_else}
use Rattle.omf51.specs.declared.Edition.TheVariants.{One}
use Rattle.omf51.specs.Module.{module_at}
use Rattle.segments.specs.Refuse.{collect_refusal}
use Rattle.std.specs.Prelude.{Some, Ok}
use Rattle.library.specs.Gathered.{items_at}
use Rattle.library.specs.Passes.{places_read, places_at}
use Rattle.library.specs.WholeLaws.{module_of, modules-step, modules-end, module-moved, Ended}
use Rattle.module_ids.specs.fault.Faults.{verdict_of}
use Rattle.omf51.proofs.Exits.{handed_on}
use Rattle.module_ids.specs.fault.Scan.{sections_fault}
use Rattle.module_ids.proofs.fault.ScanLaws.{module-fault, no-module, told}
use borrow.Author.Rules.{rules}
use Rattle.module_ids.proofs.scan.scan.Goals as goal
use Rattle.module_ids.proofs.scan.scan.Goals.{After-module_at}

-- no module stands there
none : (c : After-module_at) → Ended c.module_at.result → items_at c.args.library.now (module_at c.args.library.now) c.loop-places.at ≡ []
none c e =
    modules-end One c.args.library.now c.loop-places.at c.module_at.result (sym c.module_at.ensures) e

pub loop-places-init : goal.loop-places-init
loop-places-init c =
    record { long = refl; clear = c.requires.clear; same = refl }

pub returns-in_default : goal.returns-in_default
returns-in_default c =
    let l = c.loop-places in
    let ended : Ended c.module_at.result = search rules in
    record { clear-again = l.invariant.clear; says = ap verdict_of (sym no-module ∙ ap collect_refusal (sym (none (goal.at.returns-in_default c).After-module_at ended)) ∙ l.invariant.same) }

pub returns-in_default-2 : goal.returns-in_default-2
returns-in_default-2 c =
    let l = c.loop-places in
    let ended : Ended c.module_at.result = search rules in
    record { clear-again = l.invariant.clear; says = ap verdict_of (sym no-module ∙ ap collect_refusal (sym (none (goal.at.returns-in_default-2 c).After-module_at ended)) ∙ l.invariant.same) }

pub fill-requires : goal.fill-requires
fill-requires c =
    record { short = c.requires.short; clear = c.loop-places.invariant.clear }

pub clear-requires : goal.clear-requires
clear-requires c =
    c.fill.ensures.tells

pub returns-in_err-verdict : goal.returns-in_err-verdict
returns-in_err-verdict c =
    let stands : places_at c.args.library.now c.loop-places.at ≡ places_read (Ok (Some c.in-Ok-Some.places)) = sym (rw c.in-Ok-Some.field-0-is at c.in-Ok-Some.ensures) in
    let l = c.loop-places in
    let lib = c.args.library.now in
    let p = c.in-Ok-Some.places in
    let e = told {o = sections_fault (module_of One lib p).definitions (module_of One lib p).sections}
    (sym (c.sections_fault-verdict.ensures _ c.fill.ensures.tells) ∙ c.in_err-verdict.was) in
    record {
      clear-again = c.clear.ensures;
      says = handed_on c.from_residual.result c.from_residual.ensures.1 ∙ ap verdict_of (ap (λ o. or_else o (collect_refusal (items_at lib (module_at lib) p.next))) (sym e) ∙ sym
          (module-fault (module_of One lib p) (items_at lib (module_at lib) p.next)) ∙ ap collect_refusal (sym (modules-step One lib l.at (stands))) ∙ l.invariant.same);
    }

pub loop-places-smaller : goal.loop-places-smaller
loop-places-smaller c =
    let stands : places_at c.args.library.now c.loop-places.at ≡ places_read (Ok (Some c.in-Ok-Some.places)) = sym (rw c.in-Ok-Some.field-0-is at c.in-Ok-Some.ensures) in
    omega (arith, module-moved One c.args.library.now c.loop-places.at (stands))

pub loop-places-preserved : goal.loop-places-preserved
loop-places-preserved c =
    let stands : places_at c.args.library.now c.loop-places.at ≡ places_read (Ok (Some c.in-Ok-Some.places)) = sym (rw c.in-Ok-Some.field-0-is at c.in-Ok-Some.ensures) in
    let l = c.loop-places in
    let lib = c.args.library.now in
    let p = c.in-Ok-Some.places in
    let e = told {o = sections_fault (module_of One lib p).definitions (module_of One lib p).sections}
    (sym (c.sections_fault-verdict.ensures _ c.fill.ensures.tells) ∙ c.in_ok-verdict.was) in
    record {
      long = search rules;
      clear = c.clear.ensures;
      same = ap (λ o. or_else o (collect_refusal (items_at lib (module_at lib) p.next))) (sym e) ∙ sym
          (module-fault (module_of One lib p) (items_at lib (module_at lib) p.next)) ∙ ap collect_refusal (sym (modules-step One lib l.at (stands))) ∙ l.invariant.same;
    }
