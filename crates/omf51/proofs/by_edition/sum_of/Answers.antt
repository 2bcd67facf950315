-- `sum_of`, turn by turn. Assumes nothing.
use native.Mathlib.Omega.{arith}
use Rattle.lent.specs.PartLaws.{total-turn, total-done}
use Rattle.omf51.proofs.by_edition.sum_of.Goals as goal

pub loop-byte-preserved : goal.loop-byte-preserved
loop-byte-preserved c =
    let l = c.loop-byte in
    omega (arith, l.invariant, total-turn (λ byte. byte) c.args.bytes.now l.byte-index 0 c.loop-byte-test.true)

pub returns : goal.returns
returns c =
    let l = c.loop-byte in
    omega (arith, l.invariant, l.auto.sum-fits, total-done (λ byte. byte) c.args.bytes.now l.byte-index (omega arith))
