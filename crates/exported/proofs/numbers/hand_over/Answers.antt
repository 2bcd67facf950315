-- `hand_over`: the number and the counts of either answer. Assumes nothing.
use Rattle.std.specs.Prelude.{length}
use Rattle.std.proofs.Common.{sym, ap, ◌∙◌}
use Rattle.lent.specs.Rows.{put_row}
use Rattle.run.specs.Run.{number_of, counts_of}
use Rattle.exported.specs.Exported.{count_numbers, counts_in}
use Rattle.exported.proofs.numbers.hand_over.Goals as goal
use Rattle.exported.proofs.numbers.hand_over.Goals.{in-Ok, in-Err}

pub returns : goal.returns
unfolding counts_in
returns c =
    let a = c.args in
    elim c.match-answer.branch [
      | in-Ok w ↦ (
        ap (λ p. p.0) w.number-is ∙ sym (ap number_of w.in-Ok.is),
        c.put.ensures ∙ ap (λ p. put_row (length p.1) a.counts.now 0 p.1) w.number-is ∙ sym (ap (λ x. put_row 7 a.counts.now 0 (count_numbers (counts_of x))) w.in-Ok.is),
      )
      | in-Err w ↦ (
        ap (λ p. p.0) w.number-is ∙ w.from.ensures ∙ sym (ap number_of w.in-Err.is),
        c.put.ensures ∙ ap (λ p. put_row (length p.1) a.counts.now 0 p.1) w.number-is ∙ sym (ap (λ x. put_row 7 a.counts.now 0 (count_numbers (counts_of x))) w.in-Err.is),
      )
    ]
