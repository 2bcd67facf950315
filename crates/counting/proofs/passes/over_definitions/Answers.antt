use mathlib.Core.Path.{sym, ◌∙◌}
use Rattle.library.specs.items.Fewer.{fewer-definitions}
use Rattle.counting.proofs.passes.over_definitions.Goals as goal

pub loop-definition-smaller : goal.loop-definition-smaller
loop-definition-smaller c =
    fewer-definitions c.args.library.now
    c.loop-definition.c (sym c.next_definition.ensures ∙ c.in-Some.is)
