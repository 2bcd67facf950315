use Rattle.std.proofs.Common.{◌≡◌, ◌+◌, ◌*◌, ◌-◌, sym, ◌∙◌, arith, eq-eqb}
use Rattle.intel_hex.specs.Digits.{digit_at, byte_at}
use Rattle.intel_hex.proofs.RecordLaws.{sum_more, sum-all}
use Rattle.intel_hex.proofs.line.sum_of.Goals as goal

pub loop-i-preserved : goal.loop-i-preserved
unfolding byte_at digit_at
loop-i-preserved c =
    let a = c.args in
    let l = c.loop-i in
    let place : a.at + 2 * (l.i + 1) ≡ a.at + 2 * l.i + 2 = omega arith in
    let left : a.n - (l.i + 1) ≡ a.n - l.i - 1 = omega arith in
    record { same = rw (c.value-high.ensures, c.value-low.ensures, place, left) (sum_more a.text.now (a.at + 2 * l.i) l.others l.sum (a.n - l.i) (omega arith) ∙ l.invariant.same) }

pub returns-then-others-eq0 : goal.returns-then-others-eq0
returns-then-others-eq0 c =
    let a = c.args in
    let l = c.loop-i in
    sym (sum-all a.text.now (a.at + 2 * l.i) l.others l.sum (a.n - l.i) (omega arith) (omega arith) ∙ rw (eq-eqb l.others 0 c.if-others-eq0.true)) ∙ l.invariant.same
