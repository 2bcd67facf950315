use Rattle.std.proofs.Common.{sym, ◌∙◌, arith}
use Rattle.image.specs.View.{stretches_in, view}
use Rattle.image.proofs.ViewLaws.{view-length}
use Rattle.image.proofs.NextLaws.{next-match, next-other, next_past}
use Rattle.image.proofs.next_match.Goals as goal

pub returns-then-match_at : goal.returns-then-match_at
returns-then-match_at c =
    let a = c.args in
    let l = c.loop-at in
    let cells = view a.image.now (stretches_in a.s.now) in
    let long = view-length a.image.now (stretches_in a.s.now) in
    sym (next-match cells a.bytes.now a.masks.now l.at (omega (arith, long)) (sym c.match_at.ensures ∙ c.if-match_at.true)) ∙ l.invariant

pub loop-at-preserved : goal.loop-at-preserved
loop-at-preserved c =
    let a = c.args in
    let l = c.loop-at in
    let cells = view a.image.now (stretches_in a.s.now) in
    let long = view-length a.image.now (stretches_in a.s.now) in
    let missed = sym c.match_at.ensures ∙ c.if-match_at.false in
    sym (next-other cells a.bytes.now a.masks.now l.at (omega (arith, long)) missed) ∙ l.invariant

pub returns : goal.returns
returns c =
    let a = c.args in
    let l = c.loop-at in
    let cells = view a.image.now (stretches_in a.s.now) in
    let long = view-length a.image.now (stretches_in a.s.now) in
    sym (next_past cells a.bytes.now a.masks.now l.at (omega (arith, long))) ∙ l.invariant
