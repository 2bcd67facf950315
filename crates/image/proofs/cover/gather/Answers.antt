use Rattle.std.proofs.Common.{◌-◌, length, drop, sym, ap, ◌∙◌, arith, length-drop, take_all}
use Rattle.image.specs.Cover.{gathered}
use Rattle.image.proofs.CoverLaws.{gathered-turn, gathered-last, gathered-end}
use Rattle.image.proofs.cover.gather.Goals as goal

pub loop-rest-preserved : goal.loop-rest-preserved
loop-rest-preserved c =
    let l = c.loop-rest in
    let r = l.rest.now in
    let two = c.in-len2-up.len_at_least in
    ap (gathered c.one_more-w.result) (take_all (length r - 2) (drop 2 r) (omega (arith, length-drop 2 r)))
    ∙ ap (λ w. gathered w (drop 2 r)) c.one_more-w.ensures
    ∙ sym (gathered-turn l.w r 0 (omega (arith, two)))
    ∙ l.invariant

pub returns-in-empty : goal.returns-in-empty
returns-in-empty c =
    let l = c.loop-rest in
    sym (gathered-end l.w l.rest.now 0 (omega (arith, c.in-empty.len_below))) ∙ l.invariant

pub returns-in-len1-up : goal.returns-in-len1-up
returns-in-len1-up c =
    let l = c.loop-rest in
    c.one_more.ensures
    ∙ sym (gathered-last l.w l.rest.now 0 (omega (arith, c.in_default.len_below, c.in-len1-up.len_at_least)))
    ∙ l.invariant
