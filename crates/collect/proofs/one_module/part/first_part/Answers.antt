-- `first_part` indexes the public definitions, stores, and unlinks them again. Assumes nothing.
use mathlib.Core.Path.{sym, subst}
use native.Mathlib.Omega.{arith}
use Rattle.lent.specs.Lists.{keep}
use Rattle.module_index.specs.gather.Places.{PublicIs, public_key, is_public_definition}
use Rattle.tables.specs.links.Things.{places_of, next_of}
use Rattle.module_index.specs.Indexed.{Meets}
use Rattle.module_index.specs.IndexedTableLaws.{forgotten}
use Rattle.collect.proofs.one_module.part.first_part.Goals as goal

pub store_keeps-stored-requires : goal.store_keeps-stored-requires
store_keeps-stored-requires c =
    (c.requires.0, c.requires.1.0)

pub unlink-requires : goal.unlink-requires
unlink-requires c =
    let i = c.index_publics-n.ensures in
    (i.within, omega (arith, i.first-long, c.requires.1.1.heads))

pub returns : goal.returns
returns c =
    let a = c.args in
    let i = c.index_publics-n in
    let s = c.store_keeps-stored in
    record {
      blank = forgotten c.requires.1.1 i.ensures c.unlink.ensures;
      long = s.ensures.long;
      apart-long = s.ensures.apart-long;
      extends = λ m k gs t. s.ensures.extends m k.defined (record {
        tells = k.tells;
        sections = k.sections;
        publics = subst (λ ds. Meets (PublicIs a.library.now (places_of i.new.things)) public_key (keep is_public_definition ds)
            i.new.first (next_of i.new.things)) (sym k.defined) i.ensures.meets;
      }) gs t;
    }
