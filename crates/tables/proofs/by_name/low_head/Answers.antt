-- `low_head`: a link that is near, and one that is not. Assumes nothing.
use Rattle.std.proofs.Common.{le-ltb, lt-ltb}
use Rattle.tables.specs.by_name.Heads.{near}
use Rattle.tables.proofs.by_name.low_head.Goals as goal

pub returns-then-link-lt-NEAR : goal.returns-then-link-lt-NEAR
returns-then-link-lt-NEAR c =
    simp (lt-ltb c.args.link near c.if-link-lt-NEAR.true)

pub returns : goal.returns
returns c =
    simp (le-ltb c.args.link near c.if-link-lt-NEAR.false)
