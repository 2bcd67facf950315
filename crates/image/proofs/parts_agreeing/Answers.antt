use Rattle.std.proofs.Common.{◌+◌, sym, ◌∙◌, arith}
use Rattle.image.proofs.MatchLaws.{none-agreeing, part-fewer, part-joins}
use Rattle.image.proofs.parts_agreeing.Goals as goal

pub loop-i-init : goal.loop-i-init
loop-i-init c =
    let a = c.args in
    record { last-is = omega arith; known = none-agreeing a.image.now a.bytes.now a.masks.now a.at a.n }

pub returns-then-not-part_agrees : goal.returns-then-not-part_agrees
returns-then-not-part_agrees c =
    let a = c.args in
    let l = c.loop-i in
    let i = c.min-i.result in
    record { inside = omega arith; agree = part-fewer a.image.now a.bytes.now a.masks.now a.at i l.i (omega arith) l.invariant.known.agree }

pub loop-i-preserved : goal.loop-i-preserved
loop-i-preserved c =
    let a = c.args in
    let l = c.loop-i in
    let part = c.min-i.result in
    let agrees = sym c.part_agrees.ensures ∙ c.if-not-part_agrees.false in
    let joined = part-joins a.image.now a.bytes.now a.masks.now a.at l.i part 32 (part + 32) (omega arith) (omega arith) (omega arith) l.invariant.known.agree in
    record { last-is = l.invariant.last-is; known = record { inside = omega arith; agree = sym joined ∙ agrees } }

pub returns : goal.returns
returns c =
    c.loop-i.invariant.known
