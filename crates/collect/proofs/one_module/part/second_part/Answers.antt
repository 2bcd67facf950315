-- `second_part` indexes the public definitions of id 0, stores, and forgets them again; without absolute contents it does nothing. Assumes nothing.
use mathlib.Core.Path.{refl, sym, ◌∙◌}
use native.Mathlib.Omega.{arith}
use Rattle.module_index.specs.IndexedTableLaws.{forgotten}
use Rattle.collect.specs.stored.ProgressLaws.{same-lengths}
use Rattle.collect.specs.stored.Segments.{lists}
use Rattle.collect.specs.one_module.PartLaws.{by-offset, none-absolute}
use Rattle.collect.proofs.one_module.part.second_part.Goals as goal

pub returns-then-absolutes-eq0 : goal.returns-then-absolutes-eq0
returns-then-absolutes-eq0 c =
    let a = c.args in
    let l = lists a.segments.now a.references.now a.symbols.now a.bytes.now a.masks.now in
    record {
      blank = c.requires.1.1.0;
      long = same-lengths l;
      apart-long = refl;
      extends = λ rules m first o e k. none-absolute rules a.absolutes.number (sym e ∙ c.if-absolutes-eq0.true) k l a.c;
    }

pub store_absolutes-stored-requires : goal.store_absolutes-stored-requires
store_absolutes-stored-requires c =
    let p = c.requires in
    (p.0, (p.1.0, omega (arith, p.1.1.1, c.index_publics-n.ensures.things-long)))

pub unlink-requires : goal.unlink-requires
unlink-requires c =
    let i = c.index_publics-n.ensures in (i.within, omega (arith, i.first-long, c.requires.1.1.0.heads))

pub returns : goal.returns
returns c =
    let i = c.index_publics-n in
    let s = c.store_absolutes-stored in
    record {
      blank = forgotten c.requires.1.1.0 i.ensures c.unlink.ensures;
      long = s.ensures.long;
      apart-long = s.ensures.apart-long;
      extends = λ rules m first o e k. s.ensures.extends rules m o (by-offset e k i.ensures);
    }
