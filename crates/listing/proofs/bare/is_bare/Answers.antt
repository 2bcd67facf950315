use Prim.Native.Nat.{◌+◌}
use mathlib.Core.Path.{◌≡◌, sym}
use native.Mathlib.Omega.{arith}
use borrow.Author.Tests.{eqb-true}
use borrow.Author.Rules.{rules}
use Rattle.listing.specs.BareLaws.{bare-none, bare-turn}
use Rattle.listing.proofs.bare.is_bare.Goals as goal

pub loop-j-init : goal.loop-j-init
loop-j-init c =
    let a = c.args in (search rules, λ e. bare-none a.positions.now a.goals.now a.at (a.at + 0) (omega arith))

pub loop-j-preserved : goal.loop-j-preserved
loop-j-preserved c =
    let a = c.args in
    let l = c.loop-j in
    (search rules, bare-turn a.positions.now a.goals.now a.at l.j l.some l.invariant.1)

pub returns : goal.returns
returns c e =
    let l = c.loop-j in
    let end : l.j ≡ 8 = omega arith in
    rw (sym end) (l.invariant.1 (eqb-true l.some 0 e))
