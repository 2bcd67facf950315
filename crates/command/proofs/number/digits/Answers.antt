use Rattle.std.proofs.Common.{ℕ, ◌+◌, ◌*◌, ◌≡◌, drop, sym, ap, ◌∙◌, arith}
use Rattle.command.specs.Numbers.{digits_from}
use Rattle.command.specs.NumberLaws.{digits-none, digits-large, digits-turn, digits-end}
use Rattle.command.proofs.number.digits.Goals as goal

pub returns-then-base-d : goal.returns-then-base-d
returns-then-base-d c =
    let l = c.loop-b in
    sym (digits-none c.args.base l.n c.args.text.now l.b-index (omega arith) c.digit-d.ensures (omega arith)) ∙ l.invariant

pub returns-in_default : goal.returns-in_default
returns-in_default c =
    let l = c.loop-b in
    sym (digits-large c.args.base l.n c.args.text.now l.b-index (omega arith) c.digit-d.ensures (omega arith) (omega (arith, c.in_default.ensures))) ∙ l.invariant

pub returns-in_default-checked_add : goal.returns-in_default-checked_add
returns-in_default-checked_add c =
    let l = c.loop-b in
    sym (digits-large c.args.base l.n c.args.text.now l.b-index (omega arith) c.digit-d.ensures (omega arith)
    (omega (arith, c.in-Some.ensures, c.in_default-checked_add.ensures))) ∙ l.invariant

pub loop-b-preserved : goal.loop-b-preserved
loop-b-preserved c =
    let l = c.loop-b in
    let sum : c.in-Some-checked_add.next ≡ l.n * c.args.base + c.digit-d.result = omega (arith, c.in-Some.ensures, c.in-Some-checked_add.ensures) in
    ap (λ (n : ℕ). digits_from c.args.base n (drop (l.b-index + 1) c.args.text.now)) sum
    ∙ (sym (digits-turn c.args.base l.n c.args.text.now l.b-index (omega arith) c.digit-d.ensures (omega arith) (omega (arith, c.in-Some.ensures, c.in-Some-checked_add.ensures)))
    ∙ l.invariant)

pub returns : goal.returns
returns c =
    let l = c.loop-b in
    sym (digits-end c.args.base l.n c.args.text.now l.b-index (omega arith)) ∙ l.invariant
