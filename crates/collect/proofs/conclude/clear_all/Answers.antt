-- `clear_all` clears one list after another. Assumes nothing.
use Rattle.collect.specs.stored.Segments.{lists}
use Rattle.collect.specs.EndLaws.{zeroed-is}
use Rattle.collect.proofs.conclude.clear_all.Goals as goal

pub returns : goal.returns
returns c =
    let a = c.args in
    zeroed-is (lists a.segments.now a.references.now a.symbols.now a.bytes.now a.masks.now)
    (c.fill.ensures.after (λ y e. e))
    (c.fill-2.ensures.after (λ y e. e)) (c.fill-3.ensures.after (λ y e. e))
    (c.fill-4.ensures.after (λ y e. e)) (c.fill-5.ensures.after (λ y e. e))
