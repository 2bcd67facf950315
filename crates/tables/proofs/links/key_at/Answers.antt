-- `key_at` is the key of the thing there. Assumes nothing.
use Rattle.std.proofs.Common.{sym, ap, ◌∙◌}
use Rattle.tables.specs.links.Things.{thing_key}
use Rattle.tables.specs.links.ThingLaws.{key-is}
use Rattle.tables.proofs.links.key_at.Goals as goal

pub returns : goal.returns
returns c =
    let a = c.args in c.key_in.ensures ∙ ap thing_key c.thing_at.ensures ∙ sym (key-is a.things.now a.i)
