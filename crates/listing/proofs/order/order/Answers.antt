use mathlib.Core.Path.{refl, ◌∙◌}
use native.Mathlib.Omega.{arith}
use Rattle.listing.specs.order.PassLaws.{region-fits, stands-first, stands-last}
use Rattle.listing.proofs.order.order.Goals as goal

pub returns-then-m-from : goal.returns-then-m-from
returns-then-m-from c =
    λ r h. absurd (omega (arith, region-fits r c.args.m.now h, c.if-m-from.true))

pub returns-then-m-from-2 : goal.returns-then-m-from-2
returns-then-m-from-2 c =
    λ r h. absurd (omega (arith, region-fits r c.args.m.now h, c.if-m-from-2.true, c.if-m-from.false))

pub loop-gap-init : goal.loop-gap-init
loop-gap-init c =
    record {
      long = refl;
      some = λ g. g;
      passed = λ r h. record { now = stands-first r c.args.m.now h; rising = λ g p l. absurd (omega (arith, g, l)) };
    }

pub loop-gap-preserved : goal.loop-gap-preserved
loop-gap-preserved c =
    let l = c.loop-gap in
    record {
      long = c.pass.auto.m ∙ l.invariant.long;
      some = λ g. absurd (omega (arith, g, c.next_gap-gap.ensures.0));
      passed = λ r h. c.pass.ensures r (l.invariant.passed r h).now;
    }

pub returns : goal.returns
returns c =
    λ r h. stands-last r c.loop-gap.m c.loop-gap.gap (c.loop-gap.invariant.passed r h) (omega (arith, c.loop-gap-test.false)) c.loop-gap.invariant.some
