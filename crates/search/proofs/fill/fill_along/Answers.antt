-- `fill_along`: rows are cleared, the image is indexed, and all segments are searched. Assumes nothing.
use Rattle.search.specs.Store.{seen, stored_in}
use Rattle.search.specs.FillLaws.{rows-filled, zeros-ready}
use Rattle.search.proofs.fill.fill_along.Goals as goal

pub index-requires : goal.index-requires
index-requires c =
    zeros-ready c.args.view.image.now c.zeros-first.result c.args.next.now c.requires.0 c.requires.1 c.zeros-first.ensures

pub search_all-requires : goal.search_all-requires
search_all-requires c =
    (c.index.ensures, c.requires.2)

pub returns : goal.returns
returns c =
    let a = c.args in
    let v = c.search_all in
    rows-filled (seen a.view) a.asked a.library.now
    (stored_in a.store) a.store.n
    a.placed.now a.positions.now a.noted.now a.goals.now c.fill.new.self c.fill-2.new.self
    v.new.placed v.new.positions
    v.new.noted v.new.goals v.result
    (c.fill.ensures.after (λ y e. e)) (c.fill-2.ensures.after (λ y e. e)) c.search_all.auto.placed c.search_all.auto.noted v.ensures
