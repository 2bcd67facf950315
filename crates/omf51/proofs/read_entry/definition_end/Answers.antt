-- `definition_end`: room up to the name, and for the name. Assumes nothing.
use Prim.Native.Nat.{◌+◌}
use mathlib.Core.Path.{refl, sym, ap, ◌∙◌}
use native.Mathlib.Omega.{arith}
use Rattle.omf51.proofs.EntryLaws.{definition-cut, definition-whole}
use Rattle.omf51.proofs.read_entry.definition_end.Goals as goal

pub returns-then-end-at : goal.returns-then-end-at
returns-then-end-at c =
    let a = c.args in sym (definition-cut a.library.now a.f a.at refl (omega arith))

pub returns-then-end-at-2 : goal.returns-then-end-at-2
returns-then-end-at-2 c =
    let a = c.args in sym (definition-cut a.library.now a.f a.at refl (omega (arith, c.name_offset-before.ensures)))

pub returns-then-end-name : goal.returns-then-end-name
returns-then-end-name c =
    let a = c.args in
    let here = ap (λ n. a.at + n) c.name_offset-before.ensures.0 in
    let len = c.from-len.ensures ∙ c.byte_at.ensures in
    sym (definition-cut a.library.now a.f a.at here (omega (arith, len)))

pub returns : goal.returns
returns c =
    let a = c.args in
    let here = ap (λ n. a.at + n) c.name_offset-before.ensures.0 in
    let len = c.from-len.ensures ∙ c.byte_at.ensures in
    rw len (sym (definition-whole a.library.now a.f a.at here (omega (arith, len))))
