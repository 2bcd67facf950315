-- `front` meets its contract: its word is the only one of its list. Assumes nothing.
use Rattle.describe.specs.WordLaws.{front-taken, front-passed}
use Rattle.describe.proofs.vocabulary.front.Goals as goal

pub returns-in_default : goal.returns-in_default
returns-in_default c =
    front-passed c.args.name.now c.in_default.ensures.cases

pub returns : goal.returns
returns c =
    let found = c.in-Some.ensures.cases in
    front-taken c.args.name.now found.0 found.1
