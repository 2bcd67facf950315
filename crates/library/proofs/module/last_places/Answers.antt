-- `last_places`: the end record, and then its name beside the header's. Assumes nothing.
use Rattle.std.specs.Prelude.{◌≡◌}
use Rattle.std.proofs.Common.{sym, ◌∙◌}
use Rattle.omf51.proofs.Exits.{handed_on}
use Rattle.omf51.specs.Reader.{read}
use Rattle.library.specs.Passes.{last_by}
use Rattle.library.specs.ModuleLaws.{last-known, last-same, last-differs}
use Rattle.library.proofs.module.last_places.Given as given
use Rattle.library.proofs.module.last_places.Goals as goal
use Rattle.library.proofs.module.last_places.Goals.{In-Some}

ended : (g : given.Over) (c : In-Some g) → last_by g.E.ReadBy.edition c.args.library.now c.args.at ≡ read c.in-Some.last.name c.in-Some.last.next
ended g c =
    sym (rw c.in-Some.is at c.in_ok-last.ensures)

pub returns-in_err-last : goal.returns-in_err-last
returns-in_err-last g c =
    let a = c.args in
    rw (handed_on c.from_residual.result c.from_residual.ensures.1) (sym (last-known g.E.ReadBy.edition a.library.now a.name a.definitions a.contents a.at (sym c.in_err-last.ensures)))

pub returns-in_default : goal.returns-in_default
returns-in_default g c =
    let a = c.args in
    sym (last-known g.E.ReadBy.edition a.library.now a.name a.definitions a.contents a.at (sym (rw c.in_default.is at c.in_ok-last.ensures)))

pub returns-then-not-same_name : goal.returns-then-not-same_name
returns-then-not-same_name g c =
    let a = c.args in
    sym (last-differs g.E.ReadBy.edition a.library.now a.name a.definitions a.contents a.at (ended g (goal.at.returns-then-not-same_name g c).In-Some) (sym c.same_name.ensures ∙ c.if-not-same_name.true))

pub returns : goal.returns
returns g c =
    let a = c.args in
    sym (last-same g.E.ReadBy.edition a.library.now a.name a.definitions a.contents a.at (ended g (goal.at.returns g c).In-Some) (sym c.same_name.ensures ∙ c.if-not-same_name.false))
