-- `rest_places`: definitions, contents, the end, each from where the one before ended. Assumes nothing.
use Rattle.std.proofs.Common.{sym, ◌∙◌}
use Rattle.omf51.proofs.Exits.{handed_on}
use Rattle.library.specs.ModuleLaws.{rest-known, contents-known}
use Rattle.library.proofs.module.rest_places.Goals as goal

pub returns-in_err-contents : goal.returns-in_err-contents
returns-in_err-contents g c =
    let a = c.args in
    rw (handed_on c.from_residual.result c.from_residual.ensures.1) (sym (rest-known g.E.ReadBy.edition a.library.now a.name a.definitions (sym c.in_err-contents.ensures)))

pub returns-in_err-at : goal.returns-in_err-at
returns-in_err-at g c =
    let a = c.args in
    rw (handed_on c.from_residual-in_err-at.result c.from_residual-in_err-at.ensures.1)
    (sym (contents-known g.E.ReadBy.edition a.library.now a.name a.definitions (sym c.in_ok-contents.ensures) (sym c.in_err-at.ensures)))

pub returns : goal.returns
returns g c =
    let a = c.args in
    c.last_places.ensures ∙ sym (contents-known g.E.ReadBy.edition a.library.now a.name a.definitions (sym c.in_ok-contents.ensures) (sym c.in_ok-at.ensures))
