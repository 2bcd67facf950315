use mathlib.Core.Path.{sym, ◌∙◌}
use Rattle.library.specs.items.Fewer.{fewer-sections}
use Rattle.counting.proofs.passes.over_contents.Goals as goal

pub loop-content-smaller : goal.loop-content-smaller
loop-content-smaller c =
    fewer-sections c.args.library.now c.loop-content.at
    (sym c.next_content.ensures ∙ c.in-Some.is)
