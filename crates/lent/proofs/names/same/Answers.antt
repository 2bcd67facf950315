use mathlib.Core.Path.{◌∙◌}
use Rattle.lent.specs.PartLaws.{same_is}
use Rattle.lent.proofs.names.same.Goals as goal

pub returns : goal.returns
returns c = c.eq.ensures ∙ same_is c.args.a.now c.args.b.now
