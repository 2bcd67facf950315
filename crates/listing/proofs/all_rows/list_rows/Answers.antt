-- `list_rows`: the positions are gone over, then the targets past them. Assumes nothing.
use mathlib.Core.Path.{◌∙◌}
use lib.ListN.{length}
use Rattle.image.specs.View.{stretches_in, view}
use Rattle.image.proofs.ViewLaws.{view-length}
use Rattle.listing.specs.ListedLaws.{names-tabled, all_listed}
use Rattle.listing.proofs.all_rows.list_rows.Goals as goal

pub returns : goal.returns
returns c =
    let a = c.args in
    let cells = view a.image.now (stretches_in a.s.now) in
    let inside = c.list_inside-inside in
    let past = c.list_beyond-all in
    λ k number small.
    all_listed cells a.skip k (length a.image.now) (view-length a.image.now (stretches_in a.s.now))
    a.lines.now inside.new.m past.new.lines
    c.leave.new.m inside.result past.result (c.list_beyond-all.auto.lines ∙ c.list_inside-inside.auto.m)
    (inside.ensures k small) (past.ensures a.found.now.library.now k.ns number (names-tabled cells a.skip k a.names number)) c.leave.ensures
