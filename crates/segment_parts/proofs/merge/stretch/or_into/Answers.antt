use native.Mathlib.Omega.{arith}
use mathlib.Core.Path.{refl, sym, ◌∙◌}
use lib.ListN.{length-set}
use Rattle.segment_parts.specs.merge.OrLaws.{or-none, or_turn, or-end}
use Rattle.segment_parts.proofs.merge.stretch.or_into.Goals as goal

pub loop-i-init : goal.loop-i-init
loop-i-init c =
    record { within = omega arith; long = refl; in_place = sym (or-none _) }

pub loop-i-preserved : goal.loop-i-preserved
loop-i-preserved c =
    let l = c.loop-i in
    let a = c.args in
    record {
      within = omega (arith, c.loop-i-test.true, c.min-i-end.ensures);
      long = simp length-set l.invariant.long;
      in_place = rw l.invariant.in_place (or_turn a.old.now a.new.now l.i (omega (arith, c.loop-i-test.true, c.min-i-end.ensures)) (omega (arith, c.loop-i-test.true, c.min-i-end.ensures)));
    }

pub returns : goal.returns
returns c =
    let l = c.loop-i in
    let a = c.args in
    l.invariant.in_place ∙ or-end a.old.now a.new.now l.i (λ old new. omega (arith, c.loop-i-test.false, c.min-i-end.ensures, old, new))
