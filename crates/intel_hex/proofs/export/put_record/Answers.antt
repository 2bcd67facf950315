-- `put_record` meets its contract: colon, head, data, check byte and LF stand one behind another. Assumes nothing.
use Rattle.std.proofs.Common.{◌≡◌, ◌+◌, arith}
use Rattle.intel_hex.specs.Digits.{sum}
use Rattle.intel_hex.specs.Export.{checksum}
use Rattle.intel_hex.proofs.ExportLaws.{first, line-stored}
use Rattle.intel_hex.proofs.export.put_record.Goals as goal

pub returns : goal.returns
returns c =
    let a = c.args in
    let check : c.wrapping_neg-check.result ≡ checksum (sum (first a.kind a.address a.bytes.now) + sum a.bytes.now) = omega (arith, c.put_bytes-first.ensures.0, c.put_bytes-second.ensures.0) in
    rw (c.put_byte.ensures, check, c.put_bytes-second.ensures.1, c.put_bytes-first.ensures.1) (line-stored a.kind a.address a.bytes.now a.out.now a.at)
