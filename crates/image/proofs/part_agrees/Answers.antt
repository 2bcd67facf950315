use Rattle.std.proofs.Common.{◌≡◌, ◌+◌, sym, arith, rules}
use Rattle.image.proofs.MatchLaws.{part_none, part-turn}
use Rattle.image.proofs.part_agrees.Goals as goal

pub loop-j-init : goal.loop-j-init
loop-j-init c =
    let a = c.args in record { inside = search rules; agree = sym (part_none a.image.now a.bytes.now a.masks.now a.at a.i) }

pub loop-j-preserved : goal.loop-j-preserved
loop-j-preserved c =
    let a = c.args in
    let l = c.loop-j in
    let byte = c.shared_slice_known-1.given (a.at + (a.i + l.j)) in
    record {
      inside = search rules;
      agree = part-turn a.image.now a.bytes.now a.masks.now a.at a.i l.j l.differ (omega (arith, byte)) l.invariant.agree;
    }

pub returns : goal.returns
returns c =
    let a = c.args in
    let l = c.loop-j in
    let end : l.j ≡ 32 = omega arith in
    rw (sym end) l.invariant.agree
