-- `rest_end`: from entry to entry. Assumes nothing.
use Rattle.std.specs.Prelude.{Ok}
use Rattle.std.proofs.Common.{sym, ap, ◌∙◌}
use native.Mathlib.Omega.{arith}
use Rattle.library.specs.BodyLaws.{rest-turn, rest-used, entry-moved}
use Rattle.library.proofs.edition.rest_end.Goals as goal

pub returns-in_default : goal.returns-in_default
returns-in_default c =
    let a = c.args in
    sym (rest-turn a.library.now a.f c.requires a.what c.loop-at.at (sym c.entry_end.ensures ∙ ap Ok c.in_default.is)) ∙ c.loop-at.invariant

pub loop-at-smaller : goal.loop-at-smaller
loop-at-smaller c =
    let a = c.args in
    omega (arith, entry-moved a.library.now a.f c.requires a.what c.loop-at.at (sym c.entry_end.ensures ∙ ap Ok c.in-Some.is))

pub loop-at-preserved : goal.loop-at-preserved
loop-at-preserved c =
    let a = c.args in
    sym (rest-turn a.library.now a.f c.requires a.what c.loop-at.at (sym c.entry_end.ensures ∙ ap Ok c.in-Some.is)) ∙ c.loop-at.invariant

pub returns : goal.returns
returns c =
    let a = c.args in
    sym (rest-used a.library.now a.f c.requires a.what c.loop-at.at (omega arith)) ∙ c.loop-at.invariant
