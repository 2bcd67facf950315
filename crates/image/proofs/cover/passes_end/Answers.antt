use Rattle.std.proofs.Common.{◌-◌, true, false, length, drop, sym, ap, ◌∙◌, arith, length-drop, take_all}
use Rattle.image.specs.View.{stretches_in}
use Rattle.image.specs.Cover.{ends_past, passes_end}
use Rattle.image.proofs.CoverLaws.{ends-turn, ends-none}
use Rattle.image.proofs.cover.passes_end.Goals as goal

pub returns-then-ends_past : goal.returns-then-ends_past
returns-then-ends_past c =
    let a = c.args in
    let l = c.loop-rest in
    sym (ends-turn a.len l.rest.now 0 true (omega (arith, c.in-len2-up.len_at_least))
    (ap (ends_past a.len) (sym c.stretch_at.ensures) ∙ sym c.ends_past.ensures ∙ c.if-ends_past.true))
    ∙ l.invariant

pub loop-rest-preserved : goal.loop-rest-preserved
loop-rest-preserved c =
    let a = c.args in
    let l = c.loop-rest in
    let r = l.rest.now in
    ap (λ others. passes_end a.len (stretches_in others)) (take_all (length r - 2) (drop 2 r) (omega (arith, length-drop 2 r)))
    ∙ sym (ends-turn a.len r 0 false (omega (arith, c.in-len2-up.len_at_least))
    (ap (ends_past a.len) (sym c.stretch_at.ensures) ∙ sym c.ends_past.ensures ∙ c.if-ends_past.false))
    ∙ l.invariant

pub returns : goal.returns
returns c =
    let a = c.args in
    let l = c.loop-rest in
    sym (ends-none a.len l.rest.now 0 (omega (arith, c.in_default.len_below))) ∙ l.invariant
