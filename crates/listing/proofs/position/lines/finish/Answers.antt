-- `finish`, case by case. Assumes nothing.
use native.Mathlib.Omega.{arith}
use Rattle.listing.specs.position.FinishLaws.{finish-crowded, finish-over, finish-ordered}
use Rattle.listing.proofs.position.lines.finish.Goals as goal

pub returns-then-is_crowded : goal.returns-then-is_crowded
returns-then-is_crowded c =
    λ lines all long h apart small. finish-crowded c.args.library.now c.args.skip c.args.m.now c.args.from
    c.args.b lines all long h c.is_crowded.result c.is_crowded.ensures c.if-is_crowded.true

pub overflow_sub-m : goal.overflow_sub-m
overflow_sub-m c =
    omega (arith, c.requires)

pub returns-then-m-from : goal.returns-then-m-from
returns-then-m-from c =
    let a = c.args in
    λ lines all long h apart small. finish-over a.library.now a.skip a.m.now a.from a.b lines all long h
    c.is_crowded.result c.is_crowded.ensures c.if-is_crowded.false (omega (arith, c.if-m-from.true, c.requires))

pub overflow_add-result : goal.overflow_add-result
overflow_add-result c =
    omega (arith, c.if-m-from.false, c.requires, c.well_formed.1.1.0)

pub returns : goal.returns
returns c =
    let a = c.args in
    λ lines all long h apart small. finish-ordered a.library.now a.skip a.m.now a.from a.b lines all long h
    c.is_crowded.result c.is_crowded.ensures c.if-is_crowded.false
    (omega (arith, c.if-m-from.false, c.requires)) apart small c.order.new.m c.order.auto.m c.order.ensures
