-- `line_at` meets its contract: each way to none lacks a part of a record line. Assumes nothing.
use Rattle.std.proofs.Common.{◌+◌, ◌*◌, sym, ap, ◌∙◌, arith}
use Rattle.std.specs.Prelude.{is_some}
use Rattle.intel_hex.specs.Record.{size_at, ending_at, sum_of}
use Rattle.intel_hex.proofs.RecordLaws.{no-digits, ending-most, line-bad, line-is}
use Rattle.intel_hex.proofs.line.line_at.Goals as goal
use Rattle.intel_hex.proofs.line.line_at.Goals.{else-size-ne0-via-then-size-ne0+else-byte_at-eq-END, else-size-ne0-via-else-size-ne0}

pub returns-then-text-at-ne58 : goal.returns-then-text-at-ne58
returns-then-text-at-ne58 c =
    let a = c.args in
    sym (line-bad a.text.now a.at (λ p. c.if-text-at-ne58.true p.colon))

pub returns-then-left-lt11 : goal.returns-then-left-lt11
returns-then-left-lt11 c =
    let a = c.args in
    sym (line-bad a.text.now a.at (λ p. omega (arith, p.room)))

pub returns-then-left-size : goal.returns-then-left-size
returns-then-left-size c =
    let a = c.args in
    sym (line-bad a.text.now a.at (λ p. omega (arith, p.room, c.byte_at.ensures, c.from-size.ensures)))

pub returns-in_err-sum : goal.returns-in_err-sum
returns-in_err-sum c =
    let a = c.args in
    c.from_residual.ensures
    ∙ sym (line-bad a.text.now a.at (λ p. no-digits a.text.now (a.at + 1) (5 + size_at a.text.now a.at) (ap (λ n. sum_of a.text.now (a.at + 1) (5 + n)) (c.from-size.ensures ∙ c.byte_at.ensures)) c.in_err-sum.ensures p.digits))

pub returns-in_err-next : goal.returns-in_err-next
returns-in_err-next c =
    let a = c.args in
    c.from_residual-in_err-next.ensures
    ∙ sym (line-bad a.text.now a.at (λ p.
    let none = ap is_some (c.in_err-next.ensures ∙ ap (λ n. ending_at a.text.now (a.at + 11 + 2 * n)) (c.from-size.ensures ∙ c.byte_at.ensures)) ∙ p.ends in
    cc))

pub overflow_add-next : goal.overflow_add-next
overflow_add-next c =
    omega (arith, ending-most c.args.text.now (c.args.at + 11 + 2 * c.from-size.result) c.in_ok-next.ensures)

pub returns-then-byte_at-eq-END : goal.returns-then-byte_at-eq-END
returns-then-byte_at-eq-END c =
    let a = c.args in
    sym (line-bad a.text.now a.at
    (λ p. c.if-size-ne0.true (omega (arith, c.byte_at.ensures, c.from-size.ensures, p.sound (sym c.byte_at-then-size-ne0.ensures ∙ c.if-byte_at-eq-END.true)))))

pub returns : goal.returns
returns c =
    let a = c.args in
    line-is a.text.now a.at (c.from-size.ensures ∙ c.byte_at.ensures) (sym c.in_ok-sum.ensures) c.in_ok-next.ensures c.if-text-at-ne58.false (omega arith)
    (elim c.else-size-ne0.branch [
      | else-size-ne0-via-then-size-ne0+else-byte_at-eq-END w ↦ λ k. absurd (w.if-byte_at-eq-END.false (w.byte_at-then-size-ne0.ensures ∙ k))
      | else-size-ne0-via-else-size-ne0 w ↦ λ k. w.if-size-ne0.false
    ])
