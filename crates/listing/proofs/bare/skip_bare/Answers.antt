use Prim.Native.Nat.{◌+◌}
use mathlib.Core.Path.{sym, ◌∙◌}
use native.Mathlib.Omega.{arith}
use Rattle.listing.specs.BareLaws.{bare-one, bare-on, skips-none, skips-on}
use Rattle.listing.proofs.bare.skip_bare.Goals as goal

pub loop-at-init : goal.loop-at-init
loop-at-init c =
    let a = c.args in skips-none a.positions.now a.goals.now a.from a.end

pub overflow_add-at : goal.overflow_add-at
overflow_add-at c =
    omega (arith, c.loop-at-test.true)

pub loop-at-smaller : goal.loop-at-smaller
loop-at-smaller c =
    omega (arith, c.loop-at-test.true, c.skip_parts-at.ensures.on)

pub loop-at-preserved : goal.loop-at-preserved
loop-at-preserved c =
    let a = c.args in
    let l = c.loop-at in
    let s = c.skip_parts-at.ensures in
    let r = c.skip_parts-at.result in
    skips-on a.positions.now a.goals.now a.from a.end l.at r l.invariant (omega (arith, s.on)) (s.within (omega (arith, c.loop-at-test.true)))
    (bare-on a.positions.now a.goals.now l.at (l.at + 1) r
    (bare-one a.positions.now a.goals.now l.at
    (sym c.number_at.ensures ∙ c.if-number_at-eq0.true) (sym c.number_at-then-number_at-eq0.ensures ∙ c.if-number_at-eq0-2.true)) s.bare)
