-- `append`: the row is put behind the others, or there is no room. Assumes nothing.
use Rattle.std.proofs.Common.{length, sym, ap, ◌∙◌}
use Rattle.tables.specs.declared.fill.Fill.{Fill}
use Rattle.tables.specs.fill.FilledRows.{one_more}
use Rattle.tables.specs.fill.FilledRowLaws.{put-none, put-behind}
use Rattle.tables.proofs.fill.append.Goals as goal

pub returns-then-next : goal.returns-then-next
returns-then-next g c =
    let a = c.args in
    let e = c.one_more-next.ensures ∙ ap (λ w. one_more a.f w (length a.m.now)) c.width.ensures in
    (sym (put-none g.R.Row.layout a.f a.row a.m.now (ap (λ (x : Fill). x.over) (sym e) ∙ c.if-next.true)), e)

pub returns : goal.returns
returns g c =
    let a = c.args in
    let e = c.one_more-next.ensures ∙ ap (λ w. one_more a.f w (length a.m.now)) c.width.ensures in
    (c.put.ensures ∙ sym (put-behind g.R.Row.layout a.f a.row a.m.now (ap (λ (x : Fill). x.over) (sym e) ∙ c.if-next.false)), e)
