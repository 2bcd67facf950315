use Prim.Native.Nat.{◌+◌, ◌<◌}
use mathlib.Core.Path.{refl, ◌∙◌}
use native.Mathlib.Omega.{arith}
use lib.ListN.{length}
use Rattle.image.specs.View.{stretches_in, view}
use Rattle.image.proofs.ViewLaws.{view-length}
use Rattle.listing.specs.InsideLaws.{inside-first, inside_on, inside-skip, inside-last}
use Rattle.listing.proofs.inside.list_inside.Goals as goal

pub loop-at-init : goal.loop-at-init
loop-at-init c =
    let a = c.args in
    let cells = view a.image.now (stretches_in a.s.now) in
    let skips = c.skip_bare-at in
    record {
      long = refl;
      leads = λ k small.
          inside-skip cells k a.skip (length cells) a.m.now a.before 0 skips.result a.m.now a.before (omega arith) small
          (rw (view-length a.image.now (stretches_in a.s.now)) skips.ensures) (inside-first cells k a.skip (length cells) a.m.now a.before);
    }

pub overflow_add-at : goal.overflow_add-at
overflow_add-at c =
    omega (arith, c.loop-at-test.true)

pub loop-at-smaller : goal.loop-at-smaller
loop-at-smaller c =
    omega (arith, c.loop-at-test.true, c.skip_bare-at-in-loop-at.ensures.on)

pub loop-at-preserved : goal.loop-at-preserved
loop-at-preserved c =
    let a = c.args in
    let l = c.loop-at in
    let cells = view a.image.now (stretches_in a.s.now) in
    let p = c.list_position-f in
    let skips = c.skip_bare-at-in-loop-at in
    record {
      long = c.list_position-f.auto.m ∙ l.invariant.long;
      leads = λ k small.
          let lower : l.at < length cells = omega (arith, c.loop-at-test.true, view-length a.image.now (stretches_in a.s.now)) in
          inside-skip cells k a.skip (length cells) a.m.now a.before (l.at + 1) skips.result p.new.m p.result
          (omega (arith, lower)) small (rw (view-length a.image.now (stretches_in a.s.now)) skips.ensures)
          (inside_on cells k a.skip (length cells) a.m.now a.before l.at l.m l.f
          p.new.m p.result lower (l.invariant.leads k small) (p.ensures k (omega (arith, lower, small))));
    }

pub returns : goal.returns
returns c =
    let a = c.args in
    let l = c.loop-at in
    let cells = view a.image.now (stretches_in a.s.now) in
    λ k small. inside-last cells k a.skip (length cells) a.m.now a.before l.at l.m l.f
    (omega (arith, c.loop-at-test.false, view-length a.image.now (stretches_in a.s.now))) (l.invariant.leads k small)
