-- `fill_rows`: the tables are long enough, and the one of answers tells nothing yet. Assumes nothing.
use Rattle.std.proofs.Common.{length, ap, ◌∙◌, arith}
use Rattle.tables.specs.zeros.ZeroLaws.{zero-length}
use Rattle.search.specs.Store.{seen, stored_in}
use Rattle.search.specs.depth.ToldLaws.{blank-told}
use Rattle.search.proofs.fill.fill_rows.Goals as goal

pub fill_along-requires : goal.fill_along-requires
fill_along-requires c =
    let a = c.args in (
      c.requires,
      omega (arith, c.if-view-le-SHORT_IMAGE.true, ap length c.zeros-next.ensures ∙ zero-length 4096),
      blank-told (seen a.view) a.asked.rules (stored_in a.store) a.store.n 4096 c.zeros-told.result c.zeros-told.ensures,
    )

pub fill_along-requires-2 : goal.fill_along-requires-2
fill_along-requires-2 c =
    let a = c.args in (
      c.requires,
      omega (arith, c.requires, ap length c.zeros-next-2.ensures ∙ zero-length 65536),
      blank-told (seen a.view) a.asked.rules (stored_in a.store) a.store.n 65536 c.zeros-told-2.result c.zeros-told-2.ensures,
    )
