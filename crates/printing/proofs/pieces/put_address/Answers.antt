-- `put_address` meets its contract: two letters, the digits, and blanks. Assumes nothing.
use Prim.Native.Nat.{◌/◌}
use native.Mathlib.Omega.{arith}
use Rattle.printing.specs.StoreLaws.{digits-length}
use Rattle.printing.specs.PieceLaws.{digits-most, address-length}
use Rattle.printing.specs.PutLaws.{address-put}
use Rattle.printing.proofs.pieces.put_address.Goals as goal

pub put-from-requires : goal.put-from-requires
put-from-requires c =
    omega (arith, address-length c.args.address)

pub put_digits-end-requires : goal.put_digits-end-requires
put_digits-end-requires c =
    omega (arith, address-length c.args.address)

pub overflow_add-n : goal.overflow_add-n
overflow_add-n c =
    omega (arith, digits-most 12 (c.args.address / 0x10000))

pub put_blanks-requires : goal.put_blanks-requires
put_blanks-requires c =
    let a = c.args.address in omega (arith, address-length a, digits-length c.digits-n.result a, c.blanks.ensures)

pub returns : goal.returns
returns c =
    address-put c.args.address c.digits-n.ensures c.blanks.ensures
    c.put-from.ensures
    c.put_digits-end.ensures c.put_blanks.ensures
