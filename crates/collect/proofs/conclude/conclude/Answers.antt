-- `conclude` tells the three ends apart: no room, refused, done. Assumes nothing.
use mathlib.Core.Path.{sym, subst, ◌∙◌}
use Rattle.omf51.specs.Module.{module_at}
use Rattle.library.specs.Gathered.{items_at}
use Rattle.segments.specs.Collect.{collect}
use Rattle.segments.specs.Refuse.{collect_refusal}
use Rattle.module_ids.proofs.fault.ScanLaws.{told}
use Rattle.collect.specs.stored.Stores.{After}
use Rattle.collect.specs.stored.Segments.{lists}
use Rattle.collect.specs.EndLaws.{done-is, lacks-is, refused-is}
use Rattle.collect.proofs.conclude.conclude.Goals as goal

pub returns-in_default : goal.returns-in_default
returns-in_default c =
    let a = c.args in
    let lib = a.library.now in
    let after = lists a.segments.now a.references.now a.symbols.now a.bytes.now a.masks.now in
    let modules = items_at lib (module_at lib) a.from in
    record {
      concludes = λ rules l n s. lacks-is rules lib modules l after c.requires.short n
          (subst (After (collect rules lib modules) after) c.in_default.is s) c.clear_all.ensures;
    }

pub scan-requires : goal.scan-requires
scan-requires c =
    c.requires

pub returns-in-Err : goal.returns-in-Err
returns-in-Err c =
    let a = c.args in
    let lib = a.library.now in
    let after = lists a.segments.now a.references.now a.symbols.now a.bytes.now a.masks.now in
    let modules = items_at lib (module_at lib) a.from in
    record {
      concludes = λ rules l n s. refused-is rules lib modules l after c.requires.short n
          (subst (After (collect rules lib modules) after) c.in-Ok.is s)
          (told {o = collect_refusal modules} (sym c.scan.ensures.says ∙
          c.in-Err.is)) c.clear_all-in-Err.ensures;
    }

pub returns : goal.returns
returns c =
    let a = c.args in
    let lib = a.library.now in
    let after = lists a.segments.now a.references.now a.symbols.now a.bytes.now a.masks.now in
    let modules = items_at lib (module_at lib) a.from in
    record {
      concludes = λ rules l n s. done-is rules lib modules l after c.requires.short n
          (subst (After (collect rules lib modules) after) c.in-Ok.is s)
          (told {o = collect_refusal modules} (sym c.scan.ensures.says ∙ c.in_default-scan.is));
    }
