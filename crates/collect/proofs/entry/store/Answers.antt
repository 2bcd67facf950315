-- `store` takes small tables or large ones. Assumes nothing.
use native.Mathlib.Omega.{arith}
use Rattle.collect.specs.ZeroLaws.{zeros-size}
use Rattle.collect.proofs.entry.store.Goals as goal

pub store_in-requires : goal.store_in-requires
store_in-requires c =
    let p = c.requires in
    let h = c.if-library-le-SHORT_LIBRARY.true in
    (zeros-size 9363 10923 c.zeros-contents.ensures c.zeros-publics.ensures p.0 (omega (arith, h)) (omega (arith, h)) (omega arith) (omega arith), p.1)

pub returns-then-library-le-SHORT_LIBRARY : goal.returns-then-library-le-SHORT_LIBRARY
returns-then-library-le-SHORT_LIBRARY c =
    c.store_in.ensures

pub store_in-requires-2 : goal.store_in-requires-2
store_in-requires-2 c =
    let p = c.requires in
    let h = p.0 in
    (zeros-size 149797 174763 c.zeros-contents-2.ensures c.zeros-publics-2.ensures h (omega (arith, h)) (omega (arith, h)) (omega arith) (omega arith), p.1)

pub returns : goal.returns
returns c =
    c.store_in-2.ensures
