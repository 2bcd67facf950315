-- `clear_all` clears one list after another. Assumes nothing.
use Rattle.search.specs.visit.Visits.{stored}
use Rattle.search.specs.EndLaws.{zeroed-is}
use Rattle.search.proofs.entry.clear_all.Goals as goal

pub returns : goal.returns
returns c =
    let a = c.args in
    zeroed-is (record { stored = stored a.segments.now a.references.now a.symbols.now a.bytes.now a.masks.now; placed = a.placed.now; noted = a.noted.now })
    (c.fill.ensures.after (λ y e. e)) (c.fill-2.ensures.after (λ y e. e)) (c.fill-3.ensures.after (λ y e. e))
    (c.fill-4.ensures.after (λ y e. e)) (c.fill-5.ensures.after (λ y e. e))
    (c.fill-6.ensures.after (λ y e. e)) (c.fill-7.ensures.after (λ y e. e))
