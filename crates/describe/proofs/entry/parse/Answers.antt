-- `parse` meets its contract: one law for each way out.
use mathlib.Core.Path.{ap, ◌∙◌}
use Rattle.describe.specs.Describe.{signs}
use Rattle.describe.specs.Described.{sentence_in}
use Rattle.describe.specs.DescribedLaws.{perhaps-said, no_front, no_kind, operates, moves-on}
use Rattle.describe.proofs.entry.parse.Goals as goal

pub returns-in_err-front : goal.returns-in_err-front
returns-in_err-front c =
    ap sentence_in c.from_residual.ensures ∙ no_front c.args.name.now c.in_err-front.ensures

pub returns-in_err-kind : goal.returns-in_err-kind
returns-in_err-kind c =
    ap sentence_in c.from_residual-in_err-kind.ensures
    ∙ no_kind c.args.name.now c.in_ok-front.ensures
    (perhaps-said signs c.in_ok-front.front.rest.now c.perhaps-sign.ensures c.sign.ensures)
    c.in_err-kind.ensures

pub returns-in_default : goal.returns-in_default
returns-in_default c =
    let name = c.args.name.now in
    c.parse_moving.ensures
    ∙ moves-on name c.in_ok-front.ensures (perhaps-said signs c.in_ok-front.front.rest.now c.perhaps-sign.ensures c.sign.ensures)
    c.in_ok-kind.ensures c.in_default.ensures

pub returns : goal.returns
returns c =
    let name = c.args.name.now in
    operates name c.in_ok-front.ensures (perhaps-said signs c.in_ok-front.front.rest.now c.perhaps-sign.ensures c.sign.ensures)
    c.in_ok-kind.ensures c.in-Some.ensures
