use native.Mathlib.Omega.{arith}
use Prim.Native.Nat.{◌+◌}
use mathlib.Core.Path.{refl, ◌∙◌}
use Rattle.listing.specs.past_end.BeyondLaws.{leaves_all, leaves-over, leaves_none, leaves-on}
use Rattle.listing.proofs.past_end.list_beyond.Goals as goal

pub loop-bound-init : goal.loop-bound-init
loop-bound-init c =
    let a = c.args in record { long = refl; leaves = leaves_all a.noted.now a.n a.goals.now a.end a.skip a.lines.now a.before }

pub returns-then-f : goal.returns-then-f
returns-then-f c =
    let a = c.args in
    let l = c.loop-bound in
    leaves-over a.noted.now a.n a.goals.now a.end a.skip a.lines.now a.before l.lines l.f l.bound l.invariant.leaves c.if-f.true

pub returns-then-top-last : goal.returns-then-top-last
returns-then-top-last c =
    let a = c.args in
    let l = c.loop-bound in
    let s = c.list_span-f in
    leaves_none a.noted.now a.n a.goals.now a.end a.skip a.lines.now a.before s.new.lines s.result (c.span_end-last.result + 1)
    (leaves-on a.noted.now a.n a.goals.now a.end a.skip a.lines.now a.before l.lines l.f l.bound l.invariant.leaves
    c.highest-top.result c.lowest-first.result c.span_end-last.result (omega (arith, c.loop-bound-test.true))
    c.lowest-first.ensures c.span_end-last.ensures s.new.lines s.result s.ensures)
    c.highest-top.result c.highest-top.ensures (omega (arith, c.if-top-last.true))

pub loop-bound-smaller : goal.loop-bound-smaller
loop-bound-smaller c =
    omega (arith, c.loop-bound-test.true, c.lowest-first.ensures.not-less (omega (arith, c.loop-bound-test.true)), c.span_end-last.ensures)

pub loop-bound-preserved : goal.loop-bound-preserved
loop-bound-preserved c =
    let a = c.args in
    let l = c.loop-bound in
    let s = c.list_span-f in
    record {
      long = c.list_span-f.auto.lines ∙ l.invariant.long;
      leaves =
          leaves-on a.noted.now a.n a.goals.now a.end a.skip a.lines.now a.before l.lines l.f l.bound l.invariant.leaves
          c.highest-top.result c.lowest-first.result c.span_end-last.result (omega (arith, c.loop-bound-test.true))
          c.lowest-first.ensures c.span_end-last.ensures s.new.lines s.result s.ensures;
    }

pub returns : goal.returns
returns c =
    let a = c.args in
    let l = c.loop-bound in
    leaves_none a.noted.now a.n a.goals.now a.end a.skip a.lines.now a.before l.lines l.f l.bound l.invariant.leaves
    c.highest-top.result c.highest-top.ensures (omega (arith, c.loop-bound-test.false))
