use Rattle.std.proofs.Common.{◌∙◌, ap, is_lt}
use Rattle.lent.specs.PartLaws.{before-is}
use Rattle.lent.proofs.names.before.Goals as goal

pub returns : goal.returns
returns c = c.is_lt.ensures ∙ ap is_lt c.cmp.ensures ∙ before-is c.args.a.now c.args.b.now
