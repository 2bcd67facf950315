-- `export_image` meets its contract: too long, no room, or written. Assumes nothing.
use Prim.Native.Nat.{◌+◌, ◌*◌, ◌/◌}
use Rattle.std.specs.Prelude.{Ok}
use mathlib.Core.Path.{sym, ap, ◌∙◌}
use native.Mathlib.Omega.{arith}
use lib.ListN.{length}
use Rattle.intel_hex.specs.Outcome.{stored}
use Rattle.intel_hex.specs.Export.{text_of}
use Rattle.intel_hex.proofs.ImportLaws.{no_room, with-room}
use Rattle.intel_hex.proofs.ExportLaws.{text-length, exports}
use Rattle.intel_hex.proofs.export.export_image.Goals as goal

pub returns-then-out-size : goal.returns-then-out-size
returns-then-out-size c =
    let a = c.args in no_room (text_of a.image.now) a.out.now
    (omega (arith, c.if-out-size.true, text-length a.image.now)) ∙ ap (λ m. stored m a.out.now) (sym (exports a.image.now c.if-n-gt65536.false))

pub returns : goal.returns
returns c =
    let a = c.args in
    ap (λ l. (Ok (12 * ((length a.image.now + 15) / 16) + 2 * length a.image.now + 12), l)) c.put_all.ensures
    ∙ with-room (text_of a.image.now) a.out.now (sym (text-length a.image.now)) (omega (arith, c.if-out-size.false, text-length a.image.now))
    ∙ ap (λ m. stored m a.out.now) (sym (exports a.image.now c.if-n-gt65536.false))
