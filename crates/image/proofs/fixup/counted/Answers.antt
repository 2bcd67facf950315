-- `counted` by the rule set. Assumes nothing.
use Rattle.image.proofs.fixup.counted.Goals as goal

pub returns-in-AsFound : goal.returns-in-AsFound
returns-in-AsFound c =
    rw c.in-AsFound.is

pub returns-in-Documented : goal.returns-in-Documented
returns-in-Documented c =
    rw c.in-Documented.is
