-- `place_at` is the place of the thing there. Assumes nothing.
use Rattle.std.proofs.Common.{sym, ap, ◌∙◌}
use Rattle.tables.specs.links.Things.{thing_place}
use Rattle.tables.specs.links.ThingLaws.{place_is}
use Rattle.tables.proofs.links.place_at.Goals as goal

pub returns : goal.returns
unfolding thing_place
returns c =
    let a = c.args in ap thing_place c.thing_at.ensures ∙ sym (place_is a.things.now a.i)
