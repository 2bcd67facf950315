-- `match_at` asks the image, and where the pattern stands there, the window. Assumes nothing.
use Rattle.std.proofs.Common.{◌&&◌, length, sym, ap, ◌∙◌}
use Rattle.image.specs.View.{stretches_in}
use Rattle.image.specs.Window.{is_apart}
use Rattle.image.proofs.ViewMatchLaws.{seen-both}
use Rattle.image.proofs.match_at.Goals as goal

pub returns-then-stands_at : goal.returns-then-stands_at
returns-then-stands_at c =
    let a = c.args in
    let s = stretches_in a.s.now in
    c.is_apart.ensures
    ∙ sym (seen-both a.image.now s a.bytes.now a.masks.now a.at
    ∙ ap (λ t. t && is_apart s a.at (length a.bytes.now)) (sym c.stands_at.ensures ∙ c.if-stands_at.true))

pub returns-else-stands_at : goal.returns-else-stands_at
returns-else-stands_at c =
    let a = c.args in
    let s = stretches_in a.s.now in
    c.if-stands_at.false
    ∙ sym (seen-both a.image.now s a.bytes.now a.masks.now a.at
    ∙ ap (λ t. t && is_apart s a.at (length a.bytes.now)) (sym c.stands_at.ensures ∙ c.if-stands_at.false))
