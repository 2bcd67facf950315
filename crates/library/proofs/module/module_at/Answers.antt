-- `module_at`: the header, then the rest. Assumes nothing.
use Rattle.std.proofs.Common.{sym, ◌∙◌}
use Rattle.omf51.proofs.Exits.{handed_on}
use Rattle.library.specs.ModuleLaws.{head-known}
use Rattle.library.proofs.module.module_at.Goals as goal

pub returns-in_err-head : goal.returns-in_err-head
returns-in_err-head g c =
    let a = c.args in
    rw (handed_on c.from_residual.result c.from_residual.ensures.1) (sym (head-known g.E.ReadBy.edition a.library.now a.at (sym c.in_err-head.ensures)))

pub returns-in_default : goal.returns-in_default
returns-in_default g c =
    let a = c.args in
    sym (head-known g.E.ReadBy.edition a.library.now a.at (sym (rw c.in_default.is at c.in_ok-head.ensures)))

pub returns : goal.returns
returns g c =
    let a = c.args in
    c.rest_places.ensures ∙ sym (head-known g.E.ReadBy.edition a.library.now a.at (sym (rw c.in-Some.is at c.in_ok-head.ensures)))
