-- `stands_at` asks for all that has a mask, at once or after the first bytes. Assumes nothing.
use Rattle.std.proofs.Common.{sym, ◌∙◌, arith, rules}
use Rattle.image.proofs.MatchLaws.{none-agreeing, match-past, part-within, part-whole}
use Rattle.image.proofs.stands_at.Goals as goal
use Rattle.image.proofs.stands_at.Goals.{then-image-at-via-then-image-at, then-image-at-via-else-image-at+then-image-at-2}

pub returns-then-image-at : goal.returns-then-image-at
returns-then-image-at c =
    elim c.then-image-at.branch [
      | then-image-at-via-then-image-at w ↦ sym (match-past _ _ _ _ (omega (arith, w.if-image-at.true)))
      | then-image-at-via-else-image-at+then-image-at-2 w ↦ sym (match-past _ _ _ _ (omega (arith, w.if-image-at.false, w.if-image-at-2.true)))
    ]

pub rest_agrees-requires : goal.rest_agrees-requires
rest_agrees-requires c =
    (none-agreeing _ _ _ _ _, search rules)

pub returns-then-n-lt32 : goal.returns-then-n-lt32
returns-then-n-lt32 c =
    let a = c.args in
    let n = c.min-n in
    c.rest_agrees.ensures
    ∙ part-whole a.image.now a.bytes.now a.masks.now a.at n.result (omega arith) n.ensures (λ k. omega (arith, c.shared_slice_known-1.given k))

pub rest_agrees-requires-2 : goal.rest_agrees-requires-2
rest_agrees-requires-2 c =
    (none-agreeing _ _ _ _ _, search rules)

pub returns-then-not-rest_agrees : goal.returns-then-not-rest_agrees
returns-then-not-rest_agrees c =
    let a = c.args in
    let n = c.min-n in
    let first = sym c.rest_agrees-2.ensures ∙ c.if-not-rest_agrees.true in
    sym (part-within a.image.now a.bytes.now a.masks.now a.at 0 4 n.result (omega arith) first)
    ∙ part-whole a.image.now a.bytes.now a.masks.now a.at n.result (omega arith) n.ensures (λ k. omega (arith, c.shared_slice_known-1.given k))

pub returns : goal.returns
returns c =
    let a = c.args in
    let n = c.min-n in
    c.rest_agrees-3.ensures
    ∙ part-whole a.image.now a.bytes.now a.masks.now a.at n.result (omega arith) n.ensures (λ k. omega (arith, c.shared_slice_known-1.given k))
