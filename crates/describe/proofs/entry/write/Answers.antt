-- `write` meets its contract: the pieces, one after another.
use Rattle.describe.specs.DescribedLaws.{◌then-put◌}
use Rattle.describe.proofs.entry.write.Goals as goal

pub returns : goal.returns
returns c =
    c.put-a.ensures then-put c.put-b.ensures then-put c.put-c.ensures then-put c.put-d.ensures then-put c.put.ensures
