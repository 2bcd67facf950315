-- `count`: from module to module. Assumes nothing.
use Rattle.std.proofs.Common.{sym, ◌∙◌}
use native.Mathlib.Omega.{arith}
use Rattle.omf51.proofs.Exits.{handed_on}
use Rattle.omf51.specs.Reader.{many}
use Rattle.omf51.specs.Module.{module_by}
use Rattle.library.specs.WholeLaws.{count-all, count_turn, count-ends, count-refuses, module-moved}
use Rattle.library.proofs.module.count.Goals as goal

pub loop-places-init : goal.loop-places-init
loop-places-init g c =
    let a = c.args in
    record { few = omega arith; same = count-all (many a.library.now (module_by g.E.ReadBy.edition a.library.now) a.from) }

pub returns-in_err-places : goal.returns-in_err-places
returns-in_err-places g c =
    let l = c.loop-places in
    handed_on c.from_residual.result c.from_residual.ensures.1
    ∙ sym (count-refuses g.E.ReadBy.edition c.args.library.now l.at l.count (sym c.in_err-places.ensures)) ∙ l.invariant.same

pub overflow_add-count : goal.overflow_add-count
overflow_add-count g c =
    let l = c.loop-places in
    omega (arith, l.invariant.few, module-moved g.E.ReadBy.edition c.args.library.now l.at (sym (rw c.in-Some.is at c.in_ok-places.ensures)))

pub loop-places-smaller : goal.loop-places-smaller
loop-places-smaller g c =
    omega (arith, module-moved g.E.ReadBy.edition c.args.library.now c.loop-places.at (sym (rw c.in-Some.is at c.in_ok-places.ensures)))

pub loop-places-preserved : goal.loop-places-preserved
loop-places-preserved g c =
    let l = c.loop-places in
    let e = sym (rw c.in-Some.is at c.in_ok-places.ensures) in
    record {
      few = omega (arith, l.invariant.few, module-moved g.E.ReadBy.edition c.args.library.now l.at e);
      same = sym (count_turn g.E.ReadBy.edition c.args.library.now l.at l.count e) ∙ l.invariant.same;
    }

pub returns : goal.returns
returns g c =
    let l = c.loop-places in
    sym (count-ends g.E.ReadBy.edition c.args.library.now l.at l.count (sym (rw c.in_default.is at c.in_ok-places.ensures))) ∙ l.invariant.same
