-- `describe` meets its contract: the text, no room for it, or no description.
use native.Mathlib.Omega.{arith}
use mathlib.Core.Path.{ap}
use Rattle.describe.specs.DescribedLaws.{fits}
use Rattle.describe.specs.SpokenLaws.{longest}
use Rattle.describe.specs.Described.{length_in}
use Rattle.describe.proofs.entry.describe.Goals as goal

pub size-requires : goal.size-requires
size-requires c =
    omega (arith, longest c.args.name.now, ap length_in c.in-Some.ensures)

pub returns : goal.returns
returns c =
    let a = c.args in
    fits a.name.now a.out.now c.in-Some.ensures (omega arith) c.write.ensures
