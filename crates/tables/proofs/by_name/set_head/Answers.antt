-- `set_head`: within the heads, with numbers behind them or without, and past their end. Assumes nothing.
use Rattle.std.proofs.Common.{◌+◌, ◌/◌, ◌%◌, set, sym, ap, ◌∙◌, arith, length-set}
use lib.Seq.{set_out}
use Rattle.tables.specs.by_name.Heads.{head_count, near, low_head, head_set}
use Rattle.tables.specs.by_name.HeadLaws.{head-out}
use Rattle.tables.proofs.by_name.set_head.Goals as goal

pub returns-then-end-i : goal.returns-then-end-i
returns-then-end-i c =
    let a = c.args in sym (head-out a.heads.now a.i a.link c.if-end-i.true)

pub returns-then-behind-end : goal.returns-then-behind-end
unfolding head_set
returns-then-behind-end c =
    let a = c.args in
    ap (λ low. set (set a.heads.now a.i low) (head_count + a.i) (a.link / near % 4294967296)) c.low_head.ensures

pub returns-else-behind-end : goal.returns-else-behind-end
unfolding head_set
returns-else-behind-end c =
    let a = c.args in
    let once = set a.heads.now a.i (low_head a.link) in
    ap (set a.heads.now a.i) c.low_head.ensures
    ∙ sym (set_out once (head_count + a.i) (a.link / near % 4294967296) (omega (arith, c.if-behind-end.false, length-set a.heads.now a.i (low_head a.link))))
