-- `collect` clears what is lent, stores, and concludes; a library that is too long is refused. Assumes nothing.
use native.Mathlib.Omega.{arith}
use Rattle.omf51.specs.Module.{module_at}
use Rattle.library.specs.Gathered.{items_at}
use Rattle.collect.specs.stored.ProgressLaws.{lengths-on}
use Rattle.collect.specs.stored.Segments.{lists}
use Rattle.collect.specs.EndLaws.{long-is, zeroed-stores, zeroed-lengths}
use Rattle.collect.specs.ZeroLaws.{table-tells}
use Rattle.collect.proofs.entry.collect.Goals as goal

pub returns-then-library-gt-LONGEST_LIBRARY : goal.returns-then-library-gt-LONGEST_LIBRARY
returns-then-library-gt-LONGEST_LIBRARY c =
    let a = c.args in long-is a.rules a.library.now
    (items_at a.library.now (module_at a.library.now) a.from) (lists a.segments.now a.references.now a.symbols.now a.bytes.now a.masks.now) (omega (arith, c.if-library-gt-LONGEST_LIBRARY.true))

pub store-stored-requires : goal.store-stored-requires
store-stored-requires c =
    let a = c.args in
    let l = lists a.segments.now a.references.now a.symbols.now a.bytes.now a.masks.now in
    (omega (arith, c.if-library-gt-LONGEST_LIBRARY.false), (table-tells c.zeros-table.ensures, zeroed-stores l c.clear_all.ensures))

pub conclude-requires : goal.conclude-requires
conclude-requires c =
    record {
      short = omega (arith, c.if-library-gt-LONGEST_LIBRARY.false);
      clear = c.store-stored.ensures.tells;
    }

pub returns : goal.returns
returns c =
    let a = c.args in
    let l = lists a.segments.now a.references.now a.symbols.now a.bytes.now a.masks.now in
    let z = c.clear_all in
    let s = c.store-stored in
    let begun = lists z.new.segments z.new.references z.new.symbols z.new.bytes z.new.masks in
    let after = lists s.new.segments s.new.references s.new.symbols s.new.bytes s.new.masks in
    c.conclude.ensures.concludes a.rules l (lengths-on {a = l} {b = begun} {c = after} (zeroed-lengths l {after = begun} z.ensures) s.ensures.long) s.ensures.stored
