use Rattle.std.proofs.Common.{true, false, sym, ◌∙◌, arith}
use Rattle.image.proofs.WindowLaws.{first-turn, no-pair}
use Rattle.image.proofs.+apart_from_all.Goals as goal

pub returns-then-s-lt2 : goal.returns-then-s-lt2
returns-then-s-lt2 t c = let a = c.args in sym (no-pair a.s.now a.at a.n c.if-s-lt2.true)

pub returns-then-is_beside : goal.returns-then-is_beside
returns-then-is_beside t c =
    let a = c.args in
    c.apart_from_all.ensures ∙ sym (first-turn a.s.now a.at a.n true (omega (arith, c.if-s-lt2.false))
    (rw (sym c.stretch_at.ensures) (sym c.is_beside.ensures ∙ c.if-is_beside.true)))

pub returns-else-is_beside : goal.returns-else-is_beside
returns-else-is_beside t c =
    let a = c.args in
    c.if-is_beside.false ∙ sym (first-turn a.s.now a.at a.n false (omega (arith, c.if-s-lt2.false))
    (rw (sym c.stretch_at.ensures) (sym c.is_beside.ensures ∙ c.if-is_beside.false)))
