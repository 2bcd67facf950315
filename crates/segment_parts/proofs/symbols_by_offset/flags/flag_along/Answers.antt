use Prim.Native.Nat.{◌-◌}
use native.Mathlib.Omega.{arith}
use Rattle.tables.specs.links.Things.{next_of}
use Rattle.tables.specs.links.ThingLaws.{next_small}
use Rattle.segment_parts.specs.symbols_by_offset.FlagLaws.{way-starts, way_on, way-ends, grows_none, grows-on}
use Rattle.segment_parts.proofs.symbols_by_offset.flags.flag_along.Goals as goal

pub loop-last-init : goal.loop-last-init
loop-last-init c =
    record {
      small = omega (arith, c.ranges);
      grows = grows_none c.args.flags.now c.args.before;
      way = λ keys first v l w e. way-starts keys v c.args.flags.now c.args.before e;
    }

pub flag_block-s-requires : goal.flag_block-s-requires
flag_block-s-requires c =
    omega (arith, c.loop-last.invariant.small)

pub loop-last-smaller : goal.loop-last-smaller
loop-last-smaller c =
    omega (arith, c.loop-last.invariant.small)

pub loop-last-preserved : goal.loop-last-preserved
loop-last-preserved c =
    let l = c.loop-last in
    record {
      small = rw c.next_at-here.ensures (omega (arith, next_small c.args.publics.now (l.here - 1)));
      grows = grows-on l.invariant.grows c.flag_block-s.ensures.grows;
      way = λ keys first v k w e. rw c.next_at-here.ensures
          (way_on keys v l.last l.here (l.invariant.way keys first v k w e) first (next_of c.args.publics.now) c.args.flags.now (omega arith)
          k w l.invariant.grows.long c.flag_block-s.ensures);
    }

pub returns : goal.returns
returns c =
    let l = c.loop-last in
    record { grows = l.invariant.grows; met = λ keys first v k w e. way-ends keys v l.last l.here (l.invariant.way keys first v k w e) (omega arith) }
