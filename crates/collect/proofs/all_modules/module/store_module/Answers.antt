-- `store_module` makes the tables, stores, and leaves the tables blank. Assumes nothing.
use mathlib.Core.Path.{refl}
use native.Mathlib.Omega.{arith}
use Rattle.omf51.specs.declared.Edition.TheVariants.{One}
use Rattle.library.specs.WholeLaws.{module_of}
use Rattle.module_index.specs.IndexedTableLaws.{forgotten}
use Rattle.collect.specs.all_modules.FewLaws.{numbers_fit}
use Rattle.collect.proofs.all_modules.module.store_module.Goals as goal

pub fill-requires : goal.fill-requires
fill-requires c =
    let p = c.requires in record { short = p.short; clear = p.tells }

pub both_parts-stored-requires : goal.both_parts-stored-requires
both_parts-stored-requires c =
    let a = c.args in
    let p = c.requires in (
      numbers_fit a.library.now a.task.at.definitions a.c.segments
          c.fill.ensures.tells p.few,
      (p.masks, (p.publics, p.few-publics)),
    )

pub unlink-requires : goal.unlink-requires
unlink-requires c =
    let i = c.index_sections-n.ensures in (i.within, omega (arith, i.first-long, c.requires.sections.heads))

pub clear-requires : goal.clear-requires
clear-requires c =
    c.fill.ensures.tells

pub returns : goal.returns
returns c =
    let a = c.args in
    let i = c.index_sections-n.ensures in
    let b = c.both_parts-stored.ensures in
    record {
      tells = c.clear.ensures;
      sections = forgotten c.requires.sections i c.unlink.ensures;
      publics = b.blank;
      long = b.long;
      apart-long = b.apart-long;
      extends = λ rules o. b.extends rules (module_of One a.library.now a.task.at) o (record { defined = refl; tells = c.fill.ensures.tells; sections = i.meets });
    }
