-- `start` takes the link of the anchor's byte, or starts at the first place or at the address. Assumes nothing.
use Rattle.std.proofs.Common.{get_or, sym, subst, arith}
use Rattle.image.specs.declared.Seat.{Seat}
use Rattle.search.specs.declared.matches.MatchCursor.TheVariants.{Along, Plain, Once}
use Rattle.search.specs.byte_index.Anchor.{Anchor, Anchored}
use Rattle.search.specs.matches.Cursor.{Started}
use Rattle.search.specs.matches.StepLaws.{started-along, started-plain, started-once}
use Rattle.search.proofs.matches.start.Goals as goal

pub returns-in-Some : goal.returns-in-Some
returns-in-Some c =
    let found : Anchor c.args.bytes.now c.args.masks.now c.in-Some.place = subst (Anchored c.args.bytes.now c.args.masks.now) c.in-Some.is c.anchor.ensures in
    let a = c.args in
    let place = c.in-Some.place in
    subst (λ (x : Seat). Started a.image.now x a.bytes.now a.masks.now (Along place (get_or a.first.now (get_or a.bytes.now place 0) 0)))
    (sym c.in-Anywhere.is)
    (started-along a.image.now a.bytes.now a.masks.now a.first.now place c.requires (found))

pub returns-in-None : goal.returns-in-None
returns-in-None c =
    let a = c.args in
    subst (λ (x : Seat). Started a.image.now x a.bytes.now a.masks.now (Plain 0))
    (sym c.in-Anywhere.is) (started-plain a.image.now a.bytes.now a.masks.now)

pub returns-in-Only : goal.returns-in-Only
returns-in-Only c =
    let a = c.args in
    let at = c.in-Only.at in
    subst (λ (x : Seat). Started a.image.now x a.bytes.now a.masks.now (Once at)) (sym c.in-Only.is) (started-once a.image.now a.bytes.now a.masks.now at)
