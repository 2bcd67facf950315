use Prim.Native.Nat.{◌-◌}
use mathlib.Core.Path.{refl, ◌∙◌}
use native.Mathlib.Omega.{arith}
use Rattle.printing.specs.PieceLaws.{digits-none, digits-counted, digits-most}
use Rattle.printing.proofs.sizes.digits.Goals as goal

pub loop-n-init : goal.loop-n-init
loop-n-init c =
    record { within = omega arith; same = refl }

pub returns-then-rest-eq0 : goal.returns-then-rest-eq0
returns-then-rest-eq0 c =
    let l = c.loop-n in omega (arith, l.invariant.same, digits-none (16 - l.n) l.rest c.if-rest-eq0.true)

pub loop-n-preserved : goal.loop-n-preserved
loop-n-preserved c =
    let l = c.loop-n in record { within = omega arith; same = digits-counted l.n l.rest c.loop-n-test.true c.if-rest-eq0.false ∙ l.invariant.same }

pub returns : goal.returns
returns c =
    let l = c.loop-n in omega (arith, l.invariant.same, digits-most (16 - l.n) l.rest)
