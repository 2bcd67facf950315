-- `line` counts as the definition does, piece by piece. Assumes nothing.
use Prim.Native.Nat.{◌/◌}
use native.Mathlib.Omega.{arith}
use Rattle.printing.specs.PieceLaws.{digits-most, address-length, name-length, remark-short}
use Rattle.printing.specs.PutLaws.{line-length}
use Rattle.printing.proofs.sizes.line.Goals as goal

pub overflow_add-result : goal.overflow_add-result
overflow_add-result c =
    let a = c.args.l in omega
    (arith, address-length a.address, digits-most 12 (a.address / 0x10000), name-length a.grade c.name-bytes.result.now)

pub overflow_add-result-2 : goal.overflow_add-result-2
overflow_add-result-2 c =
    let a = c.args.l in
    let n = c.name-bytes.result.now in
    omega (arith, address-length a.address, digits-most 12 (a.address / 0x10000), name-length a.grade n, remark-short n)

pub overflow_add-result-3 : goal.overflow_add-result-3
overflow_add-result-3 c =
    let a = c.args.l in
    let n = c.name-bytes.result.now in
    omega (arith, address-length a.address, digits-most 12 (a.address / 0x10000), name-length a.grade n, remark-short n)

pub returns : goal.returns
returns c =
    let a = c.args in omega (arith, line-length a.library.now a.l c.name-bytes.ensures)
