-- `key_in` is the thing's key. Assumes nothing.
use Rattle.std.proofs.Common.{refl}
use Rattle.tables.specs.links.Things.{thing_key}
use Rattle.tables.proofs.links.key_in.Goals as goal

pub returns : goal.returns
unfolding thing_key
returns c =
    refl
