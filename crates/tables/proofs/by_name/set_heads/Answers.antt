-- `set_heads` sets one head and then the other. Assumes nothing.
use Rattle.std.proofs.Common.{◌+◌, sym, ap, ◌∙◌, arith}
use Rattle.tables.specs.by_name.Sheet.{key_buckets, key_bucket}
use Rattle.tables.specs.by_name.Heads.{head_set}
use Rattle.tables.specs.by_name.HeadLaws.{head-length, head-out}
use Rattle.tables.proofs.by_name.set_heads.Goals as goal

pub overflow_add-bucket : goal.overflow_add-bucket
overflow_add-bucket c =
    omega (arith, c.set_head.auto.heads, c.well_formed.0)

pub returns-then-bucket-heads : goal.returns-then-bucket-heads
returns-then-bucket-heads c =
    let a = c.args in
    c.set_head-then-bucket-heads.ensures ∙ ap (λ h. head_set h (key_buckets + a.bucket) a.number) c.set_head.ensures

pub returns-else-bucket-heads : goal.returns-else-bucket-heads
returns-else-bucket-heads c =
    let a = c.args in
    let once = head_set a.heads.now (key_bucket a.key) a.number in
    c.set_head.ensures ∙ sym (head-out once (key_buckets + a.bucket) a.number
    (omega (arith, c.if-bucket-heads.false, c.set_head.auto.heads, head-length a.heads.now (key_bucket a.key) a.number)))
