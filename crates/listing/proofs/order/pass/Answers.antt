use mathlib.Core.Path.{refl, ◌∙◌}
use native.Mathlib.Omega.{arith}
use Rattle.listing.proofs.order.pass.Goals as goal

pub loop-i-init : goal.loop-i-init
loop-i-init c =
    record { long = refl; passed = λ r s. record { now = s; rising = λ g p h. absurd (omega (arith, g, h)) } }

pub loop-i-preserved : goal.loop-i-preserved
loop-i-preserved c =
    let l = c.loop-i in
    record {
      long = c.sink.auto.m ∙ l.invariant.long;
      passed = λ r s.
          let t = c.sink.ensures c.args.n r
          (l.invariant.passed r s) c.loop-i-test.true in
          record { now = t.now; rising = λ g p h. t.rising g p (omega (arith, h)) };
    }

pub returns : goal.returns
returns c =
    λ r s.
    let t = c.loop-i.invariant.passed r s in
    record { now = t.now; rising = λ g p h. t.rising g p (omega (arith, h, c.loop-i-test.false)) }
