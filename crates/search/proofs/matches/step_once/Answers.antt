-- `step_once` by whether the pattern matches there. Assumes nothing.
use Rattle.image.specs.View.{stretches_in}
use Rattle.std.proofs.Common.{sym, ◌∙◌}
use Rattle.search.specs.matches.StepLaws.{once-at, once-done}
use Rattle.search.proofs.matches.step_once.Goals as goal

pub returns-then-match_at : goal.returns-then-match_at
returns-then-match_at c =
    let a = c.args in
    once-at a.view.image.now (stretches_in a.view.s.now) a.bytes.now a.masks.now a.at (sym c.match_at.ensures ∙ c.if-match_at.true)

pub returns : goal.returns
returns c =
    let a = c.args in
    once-done a.view.image.now (stretches_in a.view.s.now) a.bytes.now a.masks.now a.at (sym c.match_at.ensures ∙ c.if-match_at.false)
