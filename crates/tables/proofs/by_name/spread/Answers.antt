use Rattle.std.proofs.Common.{sym, ◌∙◌, arith}
use Rattle.tables.specs.by_name.NamedLaws.{spread-turn, spread-ends}
use Rattle.tables.proofs.by_name.spread.Goals as goal

pub loop-b-preserved : goal.loop-b-preserved
loop-b-preserved c =
    let l = c.loop-b in
    (omega arith, rw c.from.ensures (sym (spread-turn c.args.bytes.now l.h l.b-index (omega arith)) ∙ l.invariant.1))

pub returns : goal.returns
returns c =
    let l = c.loop-b in
    sym (spread-ends c.args.bytes.now l.h l.b-index (omega arith)) ∙ l.invariant.1
