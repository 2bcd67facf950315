-- `cut_numbers`: one pair more is cut, and all are in the end. Assumes nothing.
use Prim.Native.Nat.{◌+◌, ◌-◌}
use native.Mathlib.Omega.{arith}
use Rattle.bank_rules.proofs.CutLaws.{Cutting, cutting-starts, cutting-next, cutting-ends}
use Rattle.banks.proofs.cut.cut_numbers.Goals as goal
use Rattle.banks.proofs.cut.cut_numbers.Goals.{After-place_end}
use lib.ListN.{set}

-- the pair is cut
cut_pair : (c : After-place_end) → let l = c.loop-i in Cutting c.args.k c.args.pairs.now (set (set l.pairs (l.i - 1) c.place-first.result) l.i (c.place_end.result - c.place-first.result)) (l.i + 2 - 1)
cut_pair c =
    let l = c.loop-i in
    cutting-next c.args.k c.args.pairs.now {now = l.pairs} {i = l.i} l.auto.i c.loop-i-test.true l.invariant c.place-first.result c.place_end.result c.place-first.ensures c.place_end.ensures

pub loop-i-init : goal.loop-i-init
loop-i-init c =
    cutting-starts c.args.k c.args.pairs.now

pub loop-i-preserved : goal.loop-i-preserved
loop-i-preserved c =
    cut_pair (goal.at.loop-i-preserved c).After-place_end

pub returns : goal.returns
returns c =
    cutting-ends c.args.k c.args.pairs.now (omega (arith, c.loop-i-test.false)) c.loop-i.invariant

pub returns-2 : goal.returns-2
returns-2 c =
    cutting-ends c.args.k c.args.pairs.now (omega arith) (cut_pair (goal.at.returns-2 c).After-place_end)
