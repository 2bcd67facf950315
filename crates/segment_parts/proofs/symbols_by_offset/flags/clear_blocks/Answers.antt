use mathlib.Core.Path.{refl, ap, ◌∙◌}
use native.Mathlib.Omega.{arith}
use lib.ListN.{length, length-set}
use Rattle.segment_parts.specs.symbols_by_offset.FlagLaws.{clear-on, clear-all}
use Rattle.segment_parts.proofs.symbols_by_offset.flags.clear_blocks.Goals as goal

pub loop-b-init : goal.loop-b-init
loop-b-init c =
    record { long = refl; clear = λ k. record { before = k.before; behind = k.behind } }

pub loop-b-preserved : goal.loop-b-preserved
loop-b-preserved c =
    let l = c.loop-b in
    record {
      long = ap length c.put_flag.ensures ∙ length-set l.flags l.b 0 ∙ l.invariant.long;
      clear = λ k. rw c.put_flag.ensures (clear-on c.args.s l.flags l.b (l.invariant.clear k));
    }

pub returns : goal.returns
returns c =
    record { long = c.loop-b.invariant.long; clear = λ k. clear-all c.args.s c.loop-b.flags c.loop-b.b (c.loop-b.invariant.clear k) (omega arith) }
