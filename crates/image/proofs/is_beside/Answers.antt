-- `is_beside` gives one of four answers, each by a law of windows. Assumes nothing.
use Rattle.std.proofs.Common.{sym}
use Rattle.image.proofs.WindowLaws.{no-window, no-stretch, window-before, window-after}
use Rattle.image.proofs.is_beside.Goals as goal
use Rattle.image.proofs.is_beside.Goals.{then-n-eq0-via-then-n-eq0, then-n-eq0-via-else-n-eq0+then-len-eq0}

pub returns-then-n-eq0 : goal.returns-then-n-eq0
returns-then-n-eq0 c =
    let a = c.args in
    elim c.then-n-eq0.branch [
      | then-n-eq0-via-then-n-eq0 w ↦ sym (no-window a.s a.at a.n w.if-n-eq0.true)
      | then-n-eq0-via-else-n-eq0+then-len-eq0 w ↦ sym (no-stretch a.s a.at a.n w.if-len-eq0.true)
    ]

pub returns-then-at-start : goal.returns-then-at-start
returns-then-at-start c =
    let a = c.args in sym (window-before a.s a.at a.n c.if-at-start.true c.if-len-eq0.false)

pub returns : goal.returns
returns c =
    let a = c.args in sym (window-after a.s a.at a.n c.if-at-start.false c.if-n-eq0.false)
