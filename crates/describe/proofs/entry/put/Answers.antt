use Rattle.std.proofs.Common.{refl, ◌∙◌, arith, length-set}
use Rattle.describe.specs.DescribedLaws.{text-none, text-more, text-all}
use Rattle.describe.proofs.entry.put.Goals as goal

pub loop-j-init : goal.loop-j-init
loop-j-init c =
    let a = c.args in record { long = refl; same = text-none a.at a.text.now a.out.now }

pub loop-j-preserved : goal.loop-j-preserved
loop-j-preserved c =
    let a = c.args in
    let l = c.loop-j in
    record {
      long = simp length-set l.invariant.long;
      same = text-more a.at a.text.now l.out l.j (omega arith) ∙ l.invariant.same;
    }

pub returns : goal.returns
returns c =
    let a = c.args in
    let l = c.loop-j in
    record { ends = refl; stored = text-all a.at a.text.now l.out l.j (omega arith) ∙ l.invariant.same }
