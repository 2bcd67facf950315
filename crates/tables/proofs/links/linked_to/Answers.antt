-- `linked_to` puts the link above key and place. Assumes nothing.
use Rattle.tables.specs.links.Things.{linked_to}
use Rattle.tables.proofs.links.linked_to.Goals as goal

pub returns : goal.returns
unfolding linked_to
returns c =
    rw c.from.ensures
