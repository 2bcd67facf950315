-- `bucket` mixes in the name's ends, and adds the key. Assumes nothing.
use Rattle.std.proofs.Common.{◌+◌, ◌/◌, ◌%◌, ap, ◌∙◌}
use Rattle.tables.specs.by_name.Sheet.{name_buckets, name_bucket}
use Rattle.tables.proofs.by_name.bucket.Goals as goal

pub returns : goal.returns
unfolding name_bucket
returns c =
    let key = c.args.key in
    ap (λ mixed. (key % name_buckets + mixed / name_buckets) % name_buckets) c.spread_ends-mixed.ensures ∙ ap (name_bucket key) c.name-bytes.ensures
