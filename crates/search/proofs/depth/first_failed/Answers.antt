-- `first_failed`: nothing at depth 0, and else what `failed_among` finds, with a table that tells nothing yet. Assumes nothing.
use Rattle.std.proofs.Common.{◌-◌, pos_of_ne-zero, arith}
use Rattle.search.specs.Store.{seen, stored_in}
use Rattle.search.specs.depth.ToldLaws.{blank-told}
use Rattle.search.specs.depth.DeepLaws.{among-to, to_none}
use Rattle.search.proofs.depth.first_failed.Goals as goal

pub returns-then-depth-eq0 : goal.returns-then-depth-eq0
returns-then-depth-eq0 c =
    let a = c.args in
    to_none (seen a.view) a.rules (stored_in a.store) a.store.n a.depth a.position a.part c.if-depth-eq0.true

pub failed_among-requires : goal.failed_among-requires
failed_among-requires c =
    let a = c.args in
    blank-told (seen a.view) a.rules (stored_in a.store) a.store.n 4096 c.zeros-told.result c.zeros-told.ensures

pub returns : goal.returns
returns c =
    let a = c.args in
    among-to (seen a.view) a.rules (stored_in a.store) a.store.n (a.depth - 1) a.depth a.position a.part
    c.failed_among.result (omega (arith, pos_of_ne-zero c.if-depth-eq0.false)) c.failed_among.ensures.0
