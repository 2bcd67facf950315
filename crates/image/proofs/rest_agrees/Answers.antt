use Rattle.std.proofs.Common.{◌≡◌, ◌+◌, sym, arith, rules}
use Rattle.image.proofs.MatchLaws.{part-next, part-fails}
use Rattle.image.proofs.rest_agrees.Goals as goal

pub loop-i-init : goal.loop-i-init
loop-i-init c =
    c.requires.0

pub returns-then-image-at-ne0 : goal.returns-then-image-at-ne0
returns-then-image-at-ne0 c =
    let a = c.args in
    let l = c.loop-i in
    let byte = c.shared_slice_known-1.given (a.at + l.i) in
    sym (part-fails a.image.now a.bytes.now a.masks.now a.at l.i a.n (omega arith) (omega (arith, byte)) c.if-image-at-ne0.true)

pub loop-i-preserved : goal.loop-i-preserved
loop-i-preserved c =
    let a = c.args in
    let l = c.loop-i in
    let byte = c.shared_slice_known-1.given (a.at + l.i) in
    record {
      inside = search rules;
      agree = part-next a.image.now a.bytes.now a.masks.now a.at l.i (omega (arith, byte)) c.if-image-at-ne0.false l.invariant.agree;
    }

pub returns : goal.returns
returns c =
    let a = c.args in
    let l = c.loop-i in
    let end : l.i ≡ a.n = omega arith in
    sym (rw (sym end) l.invariant.agree)
