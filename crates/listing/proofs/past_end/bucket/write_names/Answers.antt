use native.Mathlib.Omega.{arith}
use Rattle.listing.specs.past_end.WalkLaws.{writing-first, writing-on, writing-last}
use Rattle.listing.proofs.past_end.bucket.write_names.Goals as goal

pub loop-here-init : goal.loop-here-init
loop-here-init c =
    let a = c.args in writing-first a.noted.now a.head a.t a.end a.lines.now

pub overflow_sub-here : goal.overflow_sub-here
overflow_sub-here c =
    omega (arith, c.loop-here-test.true)

pub loop-here-smaller : goal.loop-here-smaller
loop-here-smaller c =
    c.onward-here.ensures.less c.loop-here-test.true

pub loop-here-preserved : goal.loop-here-preserved
loop-here-preserved c =
    let a = c.args in
    let l = c.loop-here in
    writing-on a.noted.now a.head a.t a.end a.lines.now l.lines l.k l.here l.invariant c.loop-here-test.true
    c.noted_at-row.result c.noted_at-row.ensures c.onward-here.result c.onward-here.ensures
    c.write_name-k.new.lines c.write_name-k.result c.write_name-k.ensures c.write_name-k.auto.lines

pub returns : goal.returns
returns c =
    let a = c.args in writing-last a.noted.now a.head a.t a.end a.lines.now c.loop-here.lines
    c.loop-here.k c.loop-here.here c.loop-here.invariant c.loop-here-test.false
