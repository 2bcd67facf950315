use mathlib.Core.Path.{refl, sym, ap, ◌∙◌}
use native.Mathlib.Omega.{arith}
use Rattle.listing.specs.order.Order.{by_name}
use Rattle.listing.specs.order.OrderLaws.{by_bytes}
use Rattle.listing.specs.order.SinkLaws.{held_first, held_next, held-last}
use Rattle.listing.proofs.order.sink.Goals as goal
use Rattle.listing.proofs.order.sink.Goals.{else-loop-j-test, then-loop-j-test+then-not-before}

pub loop-j-init : goal.loop-j-init
loop-j-init c =
    record {
      within = omega arith;
      long = refl;
      held = λ n r s h. held_first r c.args.gap c.args.i h c.args.m.now s c.line_at-x.result c.line_at-x.ensures;
    }

pub overflow_add-from-in-loop-j : goal.overflow_add-from-in-loop-j
overflow_add-from-in-loop-j c =
    omega (arith, c.loop-j.invariant.within, c.loop-j.invariant.long, c.requires.1, c.well_formed.1.0)

pub overflow_add-from-in-loop-j-2 : goal.overflow_add-from-in-loop-j-2
overflow_add-from-in-loop-j-2 c =
    omega (arith, c.loop-j.invariant.within, c.requires.1, c.well_formed.1.0)

pub loop-j-smaller : goal.loop-j-smaller
loop-j-smaller c =
    omega (arith, c.loop-j-test.true, c.requires.0)

pub loop-j-preserved : goal.loop-j-preserved
loop-j-preserved c =
    let a = c.args in
    let l = c.loop-j in
    let x = c.line_at-x.result in
    let y = c.line_at-y.result in
    record {
      within = omega (arith, l.invariant.within);
      long = c.put_line.auto.m ∙ l.invariant.long;
      held = λ n r s h.
          held_next r a.gap a.i h x l.m l.j (l.invariant.held n r s h) l.invariant.within y c.put_line.new.m
          c.requires.0 c.loop-j-test.true c.line_at-y.ensures
          (by_bytes a.library.now x y c.name-bytes.ensures c.name.ensures c.before-in-loop-j.ensures ∙
          c.if-not-before.false)
          c.put_line.ensures;
    }

pub overflow_add-from-2 : goal.overflow_add-from-2
overflow_add-from-2 c =
    omega (arith, c.loop-j.invariant.within, c.requires.1, c.well_formed.1.0)

pub returns : goal.returns
returns c =
    let a = c.args in
    let l = c.loop-j in
    let x = c.line_at-x.result in
    λ n r s h.
    held-last r a.gap a.i h x l.m l.j (l.invariant.held n r s h) l.invariant.within c.put_line-2.new.m
    (λ q. elim c.loop-j-test.branch [
      | else-loop-j-test w ↦ absurd (omega (arith, w.loop-j-test.false, q))
      | then-loop-j-test+then-not-before w ↦
          ap (by_name a.library.now x) (sym w.line_at-y.ensures)
          ∙ by_bytes a.library.now x w.line_at-y.result c.name-bytes.ensures w.name.ensures w.before-in-loop-j.ensures
          ∙ w.if-not-before.true
    ])
    c.put_line-2.ensures
