-- `head_at` of a link that stands in its head, and of one with a part behind the heads. Assumes nothing.
use Rattle.std.proofs.Common.{◌+◌, ◌*◌, ◌%◌, sym, ap₂, ◌∙◌, arith}
use Rattle.tables.specs.by_name.Heads.{near}
use Rattle.tables.specs.by_name.HeadLaws.{head_near, head-far}
use Rattle.tables.proofs.by_name.head_at.Goals as goal

pub returns-then-low-lt-NEAR : goal.returns-then-low-lt-NEAR
returns-then-low-lt-NEAR c =
    let a = c.args in
    let low = c.number_at-low.ensures in
    low ∙ sym (head_near a.heads.now a.i (omega (arith, low, c.if-low-lt-NEAR.true)))

pub returns : goal.returns
returns c =
    let a = c.args in
    let low = c.number_at-low.ensures in
    ap₂ (λ low high. low % near + near * high) low c.number_at.ensures
    ∙ sym (head-far a.heads.now a.i (omega (arith, low, c.if-low-lt-NEAR.false)))
