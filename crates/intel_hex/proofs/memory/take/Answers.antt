use Rattle.std.proofs.Common.{◌∙◌, length-set}
use Rattle.intel_hex.proofs.CellLaws.{taken_more, taken-all}
use Rattle.intel_hex.proofs.memory.take.Goals as goal

pub loop-i-preserved : goal.loop-i-preserved
loop-i-preserved c =
    let a = c.args in
    let l = c.loop-i in
    record {
      long = simp length-set l.invariant.long;
      same = rw (c.from.ensures, c.byte_at.ensures) (taken_more a.text.now l.cells l.seen a.at a.address a.size l.i c.loop-i-test.true ∙ l.invariant.same);
    }

pub returns : goal.returns
returns c =
    let a = c.args in
    let l = c.loop-i in
    taken-all a.text.now l.cells l.seen a.at a.address a.size l.i c.loop-i-test.false ∙ l.invariant.same
