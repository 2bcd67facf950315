-- `find_by_heads`: the list of what the search found, or the search's refusal. Assumes nothing.
use mathlib.Core.Path.{ap}
use lib.ListN.{length}
use Rattle.tables.specs.by_name.HeadLaws.{zeros-blank}
use Rattle.image.specs.View.{stretches_in, view}
use Rattle.run.specs.Run.{lent_lists}
use Rattle.libfind.specs.FlowLaws.{listed_then, unlisted}
use Rattle.libfind.proofs.collected.find_by_heads.Goals as goal

pub returns-in-Ok : goal.returns-in-Ok
returns-in-Ok g c =
    let a = c.args in
    let search = c.search in
    λ room near near₂ short.
    listed_then a.image.now a.library.now a.settings a.collected
    (lent_lists a.segments.now a.references.now a.symbols.now a.bytes.now a.masks.now a.placed.now a.noted.now
    a.lines.now) short
    (ap (λ pairs. view a.image.now (stretches_in pairs)) c.first_pairs-s.ensures) c.asked_of-asked.ensures
    (search.ensures (zeros-blank g.row.N (length a.placed.now) c.zeros-positions.result c.zeros-positions.ensures room near)
    (zeros-blank g.row.N (length a.noted.now) c.zeros-goals.result c.zeros-goals.ensures room near₂)) c.in-Ok.is c.placed-1.given
    c.noted-1.given c.list-listed.ensures c.conclude.ensures

pub returns-in-Err : goal.returns-in-Err
returns-in-Err g c =
    let a = c.args in
    let search = c.search in
    λ room near near₂ short.
    unlisted a.image.now a.library.now a.settings a.collected
    (lent_lists a.segments.now a.references.now a.symbols.now a.bytes.now a.masks.now a.placed.now a.noted.now
    a.lines.now) short
    (ap (λ pairs. view a.image.now (stretches_in pairs)) c.first_pairs-s.ensures)
    c.asked_of-asked.ensures
    (search.ensures (zeros-blank g.row.N (length a.placed.now) c.zeros-positions.result c.zeros-positions.ensures room near)
    (zeros-blank g.row.N (length a.noted.now) c.zeros-goals.result c.zeros-goals.ensures room near₂)) c.in-Err.is (c.fill.ensures.after (λ y e. e))
