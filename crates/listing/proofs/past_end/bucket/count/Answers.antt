use native.Mathlib.Omega.{arith}
use mathlib.Core.Logic.{inl, inr}
use Rattle.listing.specs.past_end.WalkLaws.{counted-first, counted-on, counted-last}
use Rattle.listing.proofs.past_end.bucket.count.Goals as goal
use Rattle.listing.proofs.past_end.bucket.count.Goals.{then-is_sought, else-is_sought}

pub loop-here-init : goal.loop-here-init
loop-here-init c =
    counted-first c.args.noted.now c.args.head c.args.t c.args.all

pub overflow_sub-here : goal.overflow_sub-here
overflow_sub-here c =
    omega (arith, c.loop-here-test.true)

pub overflow_add-n : goal.overflow_add-n
overflow_add-n c =
    omega (arith, c.loop-here.invariant.few, c.loop-here-test.true, c.ranges)

pub loop-here-smaller : goal.loop-here-smaller
loop-here-smaller c =
    c.onward-here.ensures.less c.loop-here-test.true

pub loop-here-preserved : goal.loop-here-preserved
loop-here-preserved c =
    let a = c.args in
    let l = c.loop-here in
    counted-on a.noted.now a.head a.t a.all l.here l.n l.invariant c.loop-here-test.true c.noted_at-row.result
    c.noted_at-row.ensures c.onward-here.result c.onward-here.ensures
    c.is_sought.result c.is_sought.ensures c.if-is_sought.n
    (elim c.if-is_sought.branch [
      | then-is_sought w ↦ inl (w.if-is_sought.true, w.n-is)
      | else-is_sought w ↦ inr (w.if-is_sought.false, w.n-is)
    ])

pub returns : goal.returns
returns c =
    let a = c.args in counted-last a.noted.now a.head a.t a.all c.loop-here.here c.loop-here.n c.loop-here.invariant c.loop-here-test.false
