use mathlib.Core.Path.{sym, ap, ◌∙◌}
use lib.ListN.{length}
use Rattle.listing_rules.specs.Print.{printed_line}
use Rattle.printing.specs.PrintedTextLaws.{room-none, room-heading, room-turn, room-short, room-end}
use Rattle.printing.proofs.fits.Goals as goal

pub returns-then-room : goal.returns-then-room
returns-then-room c =
    let a = c.args in sym (room-none a.library.now a.lines.now a.n a.room c.if-room.true)

pub loop-i-init : goal.loop-i-init
loop-i-init c =
    let a = c.args in room-heading a.library.now a.lines.now a.n a.room c.if-room.false

pub returns-then-left-size : goal.returns-then-left-size
returns-then-left-size c =
    let a = c.args in
    let l = c.loop-i in
    sym (room-short a.library.now a.lines.now a.n l.i l.left c.line-size.result c.loop-i-test.true
    (c.line-size.ensures ∙ ap (λ r. length (printed_line a.library.now r)) c.line_at.ensures) c.if-left-size.true) ∙ l.invariant

pub loop-i-preserved : goal.loop-i-preserved
loop-i-preserved c =
    let a = c.args in
    let l = c.loop-i in
    room-turn a.library.now a.lines.now a.n l.i l.left c.line-size.result c.loop-i-test.true
    (c.line-size.ensures ∙ ap (λ r. length (printed_line a.library.now r)) c.line_at.ensures) c.if-left-size.false ∙ l.invariant

pub returns : goal.returns
returns c =
    let a = c.args in
    let l = c.loop-i in
    sym (room-end a.library.now a.lines.now a.n l.i l.left c.loop-i-test.false) ∙ l.invariant
