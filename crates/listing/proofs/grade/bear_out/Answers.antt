use Prim.Native.Nat.{◌+◌, ◌/◌, ◌≤◌}
use mathlib.Core.Path.{refl, sym, ap, ◌∙◌}
use mathlib.Core.Bool.{not}
use native.Mathlib.Omega.{arith}
use lib.ListN.{length}
use Rattle.lent.specs.Lists.{all}
use Rattle.image.specs.View.{stretches_in}
use Rattle.segments.specs.SegmentLayouts.{reference_layout}
use Rattle.segments.proofs.recalled.RowsLaws.{rows-past, rows_few, rows-within, rows-turn, rows_end}
use Rattle.listing.specs.grade.GradeLaws.{turned-true, turned-false, all-on, all-fails, all_end}
use Rattle.listing.proofs.grade.bear_out.Goals as goal
use Rattle.listing.proofs.grade.bear_out.Goals.{In-loop-k}
use Rattle.listing.proofs.grade.bear_out.Invariants.{bears}

fits : (c : In-loop-k) → c.args.part.at + c.args.part.len ≤ length c.args.found.now.references.now / 6
fits c =
    rows_few reference_layout c.args.found.now.references.now c.args.part c.lies_within.result c.lies_within.ensures (ap not c.if-not-lies_within.false)

pub returns-then-not-lies_within : goal.returns-then-not-lies_within
returns-then-not-lies_within c =
    let a = c.args in
    sym (all_end (bears a.image.now (stretches_in a.s.now) a.rules a.found.now.library.now a.found.now.placed.now a.found.now.positions.now a.base)
    (rows-past reference_layout a.found.now.references.now a.part c.lies_within.result c.lies_within.ensures (ap not c.if-not-lies_within.true)))

pub loop-k-init : goal.loop-k-init
loop-k-init c =
    record { within = omega arith; left = refl }

pub returns-then-not-bears_out : goal.returns-then-not-bears_out
returns-then-not-bears_out c =
    let a = c.args in
    sym (ap (all (bears a.image.now (stretches_in a.s.now) a.rules a.found.now.library.now a.found.now.placed.now a.found.now.positions.now a.base))
    (rows-within reference_layout a.found.now.references.now a.part c.lies_within.result c.lies_within.ensures (ap not c.if-not-lies_within.false))
    ∙ sym c.loop-k.invariant.left
    ∙ all-fails (bears a.image.now (stretches_in a.s.now) a.rules a.found.now.library.now a.found.now.placed.now a.found.now.positions.now a.base)
    (rows-turn reference_layout a.found.now.references.now a.part c.loop-k.k (omega (arith, c.loop-k-test.true)))
    (ap (bears a.image.now (stretches_in a.s.now) a.rules a.found.now.library.now a.found.now.placed.now a.found.now.positions.now a.base)
    (sym c.reference_at-r.ensures) ∙ turned-true c.bears_out.result c.bears_out.ensures (ap not c.if-not-bears_out.true)))

pub loop-k-preserved : goal.loop-k-preserved
loop-k-preserved c =
    let a = c.args in
    record {
      within = omega (arith, c.loop-k-test.true);
      left =
          sym (all-on (bears a.image.now (stretches_in a.s.now) a.rules a.found.now.library.now a.found.now.placed.now a.found.now.positions.now a.base)
          (rows-turn reference_layout a.found.now.references.now a.part c.loop-k.k (omega (arith, c.loop-k-test.true)))
          (ap (bears a.image.now (stretches_in a.s.now) a.rules a.found.now.library.now a.found.now.placed.now a.found.now.positions.now a.base)
          (sym c.reference_at-r.ensures) ∙ turned-false c.bears_out.result c.bears_out.ensures (ap not c.if-not-bears_out.false)))
          ∙ c.loop-k.invariant.left;
    }

pub returns : goal.returns
returns c =
    let a = c.args in
    sym (ap (all (bears a.image.now (stretches_in a.s.now) a.rules a.found.now.library.now a.found.now.placed.now a.found.now.positions.now a.base))
    (rows-within reference_layout a.found.now.references.now a.part c.lies_within.result c.lies_within.ensures (ap not c.if-not-lies_within.false))
    ∙ sym c.loop-k.invariant.left
    ∙ all_end (bears a.image.now (stretches_in a.s.now) a.rules a.found.now.library.now a.found.now.placed.now a.found.now.positions.now a.base)
    (rows_end reference_layout a.found.now.references.now a.part c.loop-k.k (omega (arith, c.loop-k-test.false))))
