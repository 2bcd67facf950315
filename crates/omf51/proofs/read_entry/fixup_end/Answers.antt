-- `fixup_end`: room for the plain fixup, and for the byte that block 3 has more. Assumes nothing.
use Prim.Native.Nat.{◌+◌}
use mathlib.Core.Path.{refl, sym, ap, ◌∙◌}
use native.Mathlib.Omega.{arith}
use Rattle.omf51.proofs.EntryLaws.{fixup-short, fixup-plain, fixup-cut, fixup-longer}
use Rattle.omf51.proofs.read_entry.fixup_end.Goals as goal

pub returns-then-end-at : goal.returns-then-end-at
returns-then-end-at c =
    let a = c.args in sym (fixup-short a.library.now a.f a.at refl (omega arith))

pub returns-then-end-at-2 : goal.returns-then-end-at-2
returns-then-end-at-2 c =
    let a = c.args in sym (fixup-short a.library.now a.f a.at (ap (λ n. 4 + n + 2) c.id_size.ensures.0) (omega arith))

pub returns-then-byte_at-ne3 : goal.returns-then-byte_at-ne3
returns-then-byte_at-ne3 c =
    let a = c.args in
    let b = c.byte_at.ensures in
    sym (fixup-plain a.library.now a.f a.at (ap (λ n. 4 + n + 2) c.id_size.ensures.0) (λ e. c.if-byte_at-ne3.true (b ∙ e)) (omega arith))

pub returns-then-end-at-3 : goal.returns-then-end-at-3
returns-then-end-at-3 c =
    let a = c.args in
    let b = c.byte_at.ensures in
    sym (fixup-cut a.library.now a.f a.at (ap (λ n. 4 + n + 2) c.id_size.ensures.0) (sym b ∙ c.if-byte_at-ne3.false) (omega arith))

pub returns : goal.returns
returns c =
    let a = c.args in
    let b = c.byte_at.ensures in
    sym (fixup-longer a.library.now a.f a.at (ap (λ n. 4 + n + 2) c.id_size.ensures.0) (sym b ∙ c.if-byte_at-ne3.false) (omega arith))
