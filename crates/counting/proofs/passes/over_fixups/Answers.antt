use mathlib.Core.Path.{sym, ◌∙◌}
use Rattle.library.specs.items.Fewer.{fewer-fixups}
use Rattle.counting.proofs.passes.over_fixups.Goals as goal

pub loop-fixup-smaller : goal.loop-fixup-smaller
loop-fixup-smaller c =
    fewer-fixups c.args.library.now
    c.loop-fixup.c (sym c.next_fixup.ensures ∙ c.in-Some.is)
