-- `leave`, case by case. Assumes nothing.
use native.Mathlib.Omega.{arith}
use Rattle.listing.specs.ListedLaws.{leaves-over, leaves_none, leaves-cleared}
use Rattle.listing.proofs.all_rows.leave.Goals as goal

pub returns-then-f : goal.returns-then-f
returns-then-f c =
    leaves-over c.args.m.now c.args.f c.if-f.true

pub returns-then-m-f : goal.returns-then-m-f
returns-then-m-f c =
    leaves_none c.args.m.now c.args.f c.if-m-f.true

pub overflow_mul-f : goal.overflow_mul-f
overflow_mul-f c =
    omega (arith, c.if-m-f.false, c.well_formed.0)

pub returns : goal.returns
returns c =
    leaves-cleared c.args.m.now c.args.f c.clear_behind.new.m c.clear_behind.ensures
