-- `remark` counts what the buffer holds, and a blank before it. Assumes nothing.
use mathlib.Core.Path.{refl}
use native.Mathlib.Omega.{arith}
use lib.ListN.{replicate}
use Rattle.printing.specs.PieceLaws.{held, has-room, held-length}
use Rattle.printing.proofs.sizes.remark.Goals as goal

pub unwrap-requires : goal.unwrap-requires
unwrap-requires c =
    has-room c.args.bytes.now (replicate 88 0) refl c.describe.ensures

pub overflow_add-result : goal.overflow_add-result
overflow_add-result c =
    omega (arith, (held c.args.bytes.now (replicate 88 0) refl c.describe.ensures c.in-Some.ensures).short)

pub returns-in-Some : goal.returns-in-Some
returns-in-Some c =
    let b = c.args.bytes.now in held-length b (held b (replicate 88 0) refl c.describe.ensures c.in-Some.ensures)

pub returns-in-None : goal.returns-in-None
returns-in-None c =
    let b = c.args.bytes.now in held-length b (held b (replicate 88 0) refl c.describe.ensures c.in-None.ensures)
