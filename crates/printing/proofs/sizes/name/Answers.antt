-- `name` counts as the definition does: a name, what stands around it, and blanks. Assumes nothing.
use mathlib.Core.Path.{sym, ap, ◌∙◌}
use lib.ListN.{length}
use Prim.Native.Nat.{◌+◌}
use Rattle.printing.specs.PieceLaws.{name-length}
use Rattle.printing.proofs.sizes.name.Goals as goal

pub returns : goal.returns
returns c =
    let a = c.args in ap (λ k. length a.bytes.now + 2 + k) c.blanks.ensures ∙ sym (name-length a.grade a.bytes.now)
