-- `skip`: from record to record. Assumes nothing.
use Rattle.std.proofs.Common.{sym, ◌∙◌}
use native.Mathlib.Omega.{arith}
use Rattle.omf51.proofs.Exits.{handed_on}
use Rattle.library.specs.PassLaws.{all-turn, record-moved}
use Rattle.library.proofs.repeat.skip.Goals as goal

pub returns-in_err-next : goal.returns-in_err-next
returns-in_err-next g c =
    let a = c.args in
    rw (handed_on c.from_residual.result c.from_residual.ensures.1)
    (sym (all-turn g.E.ReadBy.edition a.what a.library.now c.loop-next.at (sym c.in_err-next.ensures)) ∙ c.loop-next.invariant)

pub loop-next-smaller : goal.loop-next-smaller
loop-next-smaller g c =
    let a = c.args in
    omega (arith, record-moved g.E.ReadBy.edition a.what a.library.now c.loop-next.at (sym (rw c.in-Some.is at c.in_ok-next.ensures)))

pub loop-next-preserved : goal.loop-next-preserved
loop-next-preserved g c =
    let a = c.args in
    sym (all-turn g.E.ReadBy.edition a.what a.library.now c.loop-next.at (sym (rw c.in-Some.is at c.in_ok-next.ensures))) ∙ c.loop-next.invariant

pub returns : goal.returns
returns g c =
    let a = c.args in
    sym (all-turn g.E.ReadBy.edition a.what a.library.now c.loop-next.at (sym (rw c.in_default.is at c.in_ok-next.ensures))) ∙ c.loop-next.invariant
