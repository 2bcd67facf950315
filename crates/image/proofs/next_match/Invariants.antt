-- `next_match` goes from place to place. The invariant: the next match from here is the next from the start. Assumes nothing.
use Rattle.std.proofs.Common.{◌≡◌}
use Rattle.image.specs.View.{stretches_in, view}
use Rattle.image.specs.Next.{next_match}
use Rattle.image.proofs.next_match.Given as goal

abbrev pub invariant-loop-at : goal.invariant-loop-at
invariant-loop-at l =
    let cells = view l.image (stretches_in l.s) in
    next_match cells l.bytes l.masks l.at ≡ next_match cells l.bytes l.masks l.from
