-- `next_at` is the link of the thing there. Assumes nothing.
use Rattle.std.proofs.Common.{sym, ap, ◌∙◌}
use Rattle.tables.specs.links.Things.{thing_next}
use Rattle.tables.specs.links.ThingLaws.{next-is}
use Rattle.tables.proofs.links.next_at.Goals as goal

pub returns : goal.returns
unfolding thing_next
returns c =
    let a = c.args in ap thing_next c.thing_at.ensures ∙ sym (next-is a.things.now a.i)
