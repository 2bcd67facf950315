-- `library_from`: the modules, and then the closing records. Assumes nothing.
use Rattle.std.proofs.Common.{sym, ◌∙◌}
use Rattle.omf51.proofs.Exits.{handed_on}
use Rattle.library.specs.ReadingLaws.{library-known, library-closed}
use Rattle.library.proofs.file.library_from.Goals as goal

pub returns-in_err-modules : goal.returns-in_err-modules
returns-in_err-modules c =
    let a = c.args in
    handed_on c.from_residual.result c.from_residual.ensures.1 ∙ sym (library-known a.edition a.library.now a.first (sym c.in_err-modules.ensures))

pub returns-in_err-end : goal.returns-in_err-end
returns-in_err-end c =
    let a = c.args in
    handed_on c.from_residual-in_err-end.result c.from_residual-in_err-end.ensures.1
    ∙ sym (library-closed a.edition a.library.now a.first (sym c.in_ok-modules.ensures) (sym c.in_err-end.ensures))

pub returns-in_default : goal.returns-in_default
returns-in_default c =
    let a = c.args in
    sym (library-closed a.edition a.library.now a.first (sym c.in_ok-modules.ensures) (sym (rw c.in_default.is at c.in_ok-end.ensures)))

pub returns : goal.returns
returns c =
    let a = c.args in
    c.used_reading.ensures ∙ sym (library-closed a.edition a.library.now a.first (sym c.in_ok-modules.ensures) (sym (rw c.in-Some.is at c.in_ok-end.ensures)))
