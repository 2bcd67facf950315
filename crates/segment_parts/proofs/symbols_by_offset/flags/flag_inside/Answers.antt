use mathlib.Core.Path.{subst}
use native.Mathlib.Omega.{arith}
use Rattle.tables.specs.links.Things.{next_of}
use Rattle.segment_parts.specs.symbols_by_offset.Flags.{no_blocks, FlagsAlong}
use Rattle.segment_parts.specs.symbols_by_offset.FlagLaws.{grows_none, grows-on, covers-on-to}
use Rattle.segment_parts.proofs.symbols_by_offset.flags.flag_inside.Goals as goal

pub loop-offset-init : goal.loop-offset-init
loop-offset-init c =
    record { from = omega arith; within = omega arith; grows = grows_none c.args.flags.now no_blocks; covers = λ keys l w k j h a b. absurd (omega arith) }

pub loop-offset-preserved : goal.loop-offset-preserved
loop-offset-preserved c =
    let l = c.loop-offset in
    let a = c.args in
    let along : FlagsAlong _ (next_of a.publics.now) l.flags l.s _ c.flag_along-s.result = subst
    (λ h. FlagsAlong h (next_of a.publics.now) l.flags l.s c.flag_along-s.new.flags c.flag_along-s.result)
    c.number_at.ensures c.flag_along-s.ensures in
    record {
      from = omega arith;
      within = omega arith;
      grows = grows-on l.invariant.grows c.flag_along-s.ensures.grows;
      covers = λ keys k w z. covers-on-to keys a.first.now (next_of a.publics.now) a.at l.offset l.invariant.from a.flags.now k w l.invariant.grows.long z along (l.invariant.covers keys k w z);
    }

pub returns : goal.returns
returns c =
    let l = c.loop-offset in
    record { grows = l.invariant.grows; met = λ keys k w z j h a b. l.invariant.covers keys k w z j h a (omega (arith, l.invariant.within)) }
