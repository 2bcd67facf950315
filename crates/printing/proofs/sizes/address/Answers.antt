-- `address` counts as the definition does: two letters, the digits, and blanks. Assumes nothing.
use Prim.Native.Nat.{◌/◌}
use native.Mathlib.Omega.{arith}
use Rattle.printing.specs.PieceLaws.{digits-most, address-length}
use Rattle.printing.proofs.sizes.address.Goals as goal

pub overflow_add-n : goal.overflow_add-n
overflow_add-n c =
    omega (arith, digits-most 12 (c.args.a / 0x10000))

pub overflow_add-result : goal.overflow_add-result
overflow_add-result c =
    omega (arith, digits-most 12 (c.args.a / 0x10000))

pub returns : goal.returns
returns c =
    omega (arith, c.blanks.ensures, address-length c.args.a)
