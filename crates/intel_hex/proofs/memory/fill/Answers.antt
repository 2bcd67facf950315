use Rattle.std.proofs.Common.{refl, ◌∙◌, length-set}
use Rattle.intel_hex.proofs.CellLaws.{fill_none, fill_more, fill-all}
use Rattle.intel_hex.proofs.memory.fill.Goals as goal

pub loop-i-init : goal.loop-i-init
loop-i-init c =
    let a = c.args in record { long = refl; same = fill_none a.cells.now a.end a.out.now }

pub loop-i-preserved : goal.loop-i-preserved
loop-i-preserved c =
    let a = c.args in
    let l = c.loop-i in
    record {
      long = simp length-set l.invariant.long;
      same = fill_more a.cells.now a.end l.out l.i c.loop-i-test.true c.byte.ensures ∙ l.invariant.same;
    }

pub returns : goal.returns
returns c =
    let a = c.args in
    let l = c.loop-i in
    fill-all a.cells.now a.end l.out l.i c.loop-i-test.false ∙ l.invariant.same
