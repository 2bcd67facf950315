use mathlib.Core.Path.{◌≡◌, refl, sym, subst, ◌∙◌}
use mathlib.Core.List.{[]}
use native.Mathlib.Omega.{arith}
use Rattle.image.specs.declared.fixup.Rules.{Rules}
use Rattle.omf51.specs.declared.Edition.TheVariants.{One}
use Rattle.omf51.specs.Module.{module_at}
use Rattle.std.specs.Prelude.{Some, Ok}
use Rattle.std.proofs.Common.{rules}
use Rattle.library.specs.Gathered.{items_at}
use Rattle.library.specs.Passes.{places_read, places_at}
use Rattle.library.specs.WholeLaws.{module_of, modules-step, modules-end, module-moved, Ended}
use Rattle.omf51.proofs.Exits.{handed_on}
use Rattle.segments.specs.Collect.{collect}
use Rattle.collect.specs.stored.Stores.{CollectLists, Stores, After}
use Rattle.collect.specs.stored.ProgressLaws.{same-lengths, lengths-on}
use Rattle.collect.specs.stored.Segments.{lists, own_by}
use Rattle.collect.specs.all_modules.AllLaws.{Collecting, collecting-starts, collecting-on, collecting-lacks, collecting-ends, stored-few}
use Rattle.collect.specs.all_modules.All.{StoresAll}
use Rattle.std.specs.Prelude.{Ok}
use Rattle.collect.proofs.all_modules.all.store_all.Goals as goal
use Rattle.collect.proofs.all_modules.all.store_all.Goals.{After-module_at, After-store_module}

-- the lists before a module, and after it
abbrev held : (c : After-store_module) → CollectLists
held c =
    let l = c.loop-module in lists l.segments l.references l.symbols l.bytes l.masks

abbrev left : (c : After-store_module) → CollectLists
left c =
    let s = c.store_module in lists s.new.segments s.new.references s.new.symbols s.new.bytes s.new.masks

stands : (c : After-store_module) → places_at c.args.library.now c.loop-module.at ≡ places_read (Ok (Some c.in-Ok-Some.module))
stands c =
    sym (rw c.in-Ok-Some.field-0-is at c.in-Ok-Some.ensures)

pub loop-module-init : goal.loop-module-init
loop-module-init c =
    let a = c.args in
    let p = c.requires in
    let l = lists a.segments.now a.references.now a.symbols.now a.bytes.now a.masks.now in
    let begun = subst (Stores [] l) (sym c.none_yet-c.ensures) p.1 in (
      record { table-long = refl; contents-long = refl; first-long = refl; publics-long = refl; heads-long = refl },
      record {
        long = same-lengths l;
        apart-long = refl;
        tells = p.0.tells;
        sections = p.0.sections;
        publics = p.0.publics;
        few = stored-few begun;
        collecting = λ rules o. collecting-starts rules a.library.now (items_at a.library.now (module_at a.library.now) a.from) begun;
      },
    )

-- no module stands there
all-stored : (c : After-module_at) → Ended c.module_at.result → StoresAll c.args.library.now c.args.rules (items_at c.args.library.now (module_at c.args.library.now) c.args.from) c.loop-module.table
    (lists c.args.segments.now c.args.references.now c.args.symbols.now c.args.bytes.now c.args.masks.now)
    (lists c.loop-module.segments c.loop-module.references c.loop-module.symbols c.loop-module.bytes c.loop-module.masks) (Ok c.loop-module.c)
all-stored c ended =
    let a = c.args in
    let lib = a.library.now in
    let l = c.loop-module in
    let i = l.invariant.1 in
    let none = modules-end One lib l.at c.module_at.result (sym c.module_at.ensures) ended in
    record { tells = i.tells; long = i.long; stored = collecting-ends a.rules lib none (i.collecting a.rules c.is_own-own.ensures) }

pub returns-in_default : goal.returns-in_default
returns-in_default c =
    let ended : Ended c.module_at.result = search rules in
    all-stored (goal.at.returns-in_default c).After-module_at ended

pub returns-in_default-2 : goal.returns-in_default-2
returns-in_default-2 c =
    let ended : Ended c.module_at.result = search rules in
    all-stored (goal.at.returns-in_default-2 c).After-module_at ended

pub store_module-requires : goal.store_module-requires
store_module-requires c =
    let i = c.loop-module.invariant.1 in
    let p = c.requires.0 in
    record {
      tells = i.tells;
      sections = i.sections;
      publics = i.publics;
      masks = omega (arith, p.masks, i.apart-long);
      few-publics = omega (arith, p.few-publics, c.loop-module.invariant.0.publics-long);
      few = omega (arith, i.few, i.long.segments, c.well_formed.1.1.1.1.1.1.1.1.0, c.well_formed.0);
      short = p.short;
    }

pub returns-in_err-c : goal.returns-in_err-c
returns-in_err-c c =
    let a = c.args in
    let lib = a.library.now in
    let l = c.loop-module in
    let i = l.invariant.1 in
    let s = c.store_module in
    let o = c.is_own-own.ensures in
    let p = c.in-Ok-Some.module in
    record {
      tells = s.ensures.tells;
      long = lengths-on i.long s.ensures.long;
      stored = subst (After (collect a.rules lib (items_at lib (module_at lib) a.from)) (left (goal.at.returns-in_err-c c).After-store_module))
          (sym (handed_on c.from_residual.result c.from_residual.ensures.1))
          (collecting-lacks a.rules lib (items_at lib (module_at lib) a.from) (held (goal.at.returns-in_err-c c).After-store_module)
          (left (goal.at.returns-in_err-c c).After-store_module) l.c s.result (module_of One lib p)
          (modules-step One lib l.at (stands (goal.at.returns-in_err-c c).After-store_module)) (i.collecting a.rules o) (s.ensures.extends a.rules o) c.in_err-c.was);
    }

pub loop-module-smaller : goal.loop-module-smaller
loop-module-smaller c =
    omega (arith, module-moved One c.args.library.now c.loop-module.at (stands (goal.at.loop-module-smaller c).After-store_module))

pub loop-module-preserved : goal.loop-module-preserved
loop-module-preserved c =
    let a = c.args in
    let lib = a.library.now in
    let l = c.loop-module in
    let i = l.invariant.1 in
    let s = c.store_module in
    let p = c.in-Ok-Some.module in
    let on : (rules : Rules) → c.is_own-own.result ≡ own_by rules → Collecting rules lib (items_at lib (module_at lib) a.from)
    (items_at lib (module_at lib) p.next) (left (goal.at.loop-module-preserved c).After-store_module) c.in_ok-c.c = λ rules o. collecting-on rules lib
    (items_at lib (module_at lib) a.from) (held (goal.at.loop-module-preserved c).After-store_module)
    (left (goal.at.loop-module-preserved c).After-store_module) l.c s.result (module_of One lib p) (modules-step One lib l.at (stands (goal.at.loop-module-preserved c).After-store_module))
    (i.collecting rules o) (s.ensures.extends rules o) c.in_ok-c.was in (
      record {
        table-long = c.table-1.given ∙ l.invariant.0.table-long;
        contents-long = c.contents-1.given ∙ l.invariant.0.contents-long;
        first-long = c.first-1.given ∙ l.invariant.0.first-long;
        publics-long = c.publics-1.given ∙ l.invariant.0.publics-long;
        heads-long = c.heads-1.given ∙ l.invariant.0.heads-long;
      },
      record {
        long = lengths-on i.long s.ensures.long;
        apart-long = s.ensures.apart-long ∙ i.apart-long;
        tells = s.ensures.tells;
        sections = s.ensures.sections;
        publics = s.ensures.publics;
        few = stored-few (on a.rules c.is_own-own.ensures).stored;
        collecting = on;
      },
    )
