use native.Mathlib.Omega.{arith}
use Rattle.listing.specs.past_end.BoundLaws.{before_more}
use Rattle.listing.specs.past_end.Beyond.{Lower}
use Rattle.listing.proofs.past_end.bounds.lowest.Goals as goal
use Rattle.listing.proofs.past_end.bounds.lowest.Goals.{then-bound-target, else-bound-target}

pub loop-i-preserved : goal.loop-i-preserved
loop-i-preserved c =
    let l = c.loop-i in
    let lower : Lower c.args.bound l.least c.cell-target.result c.if-bound-target.least = elim c.if-bound-target.branch [
      | then-bound-target w ↦ record { not-less = λ b. omega (arith, w.min-least.ensures, w.least-is, w.if-bound-target.true, b); first = omega (arith, w.min-least.ensures, w.least-is); second = λ b. omega (arith, w.min-least.ensures, w.least-is) }
      | else-bound-target w ↦ record { not-less = λ b. omega (arith, w.least-is, b); first = omega (arith, w.least-is); second = λ b. absurd (omega (arith, b, w.if-bound-target.false)) }
    ] in
    before_more c.args.noted.now l.i c.cell-target.result c.cell-target.ensures c.args.bound c.args.top l.least
    c.if-bound-target.least l.invariant lower
