-- `record_at` meets its contract: the tests of a line in their order. Assumes nothing.
use Rattle.std.proofs.Common.{◌+◌, ◌*◌, sym, ◌∙◌, arith, eq-eqb, ne_eqb, lt-ltb, le-ltb}
use Rattle.intel_hex.specs.Record.{kind_at}
use Rattle.intel_hex.proofs.DigitLaws.{byte-below}
use Rattle.intel_hex.proofs.RecordLaws.{whole-line, past-text, of-line}
use Rattle.intel_hex.proofs.record.record_at.Goals as goal

pub returns-then-text-at : goal.returns-then-text-at
returns-then-text-at c =
    sym (past-text c.args.text.now c.args.at c.if-text-at.true)

pub returns-in_default : goal.returns-in_default
returns-in_default c =
    sym (of-line c.args.text.now c.args.at c.if-text-at.false (sym c.line_at.ensures ∙ c.in_default.is))

pub returns-then-sum-ne0 : goal.returns-then-sum-ne0
returns-then-sum-ne0 c =
    sym (of-line c.args.text.now c.args.at c.if-text-at.false (sym c.in-Some.ensures) ∙ simp (ne_eqb _ _ c.if-sum-ne0.true))

pub byte_at-requires : goal.byte_at-requires
byte_at-requires c =
    omega (arith, (whole-line c.args.text.now c.args.at (sym c.in-Some.ensures)).parts.room)

pub returns-in-1 : goal.returns-in-1
returns-in-1 c =
    sym (of-line c.args.text.now c.args.at c.if-text-at.false (sym c.in-Some.ensures)
    ∙ simp (eq-eqb _ _ c.if-sum-ne0.false, eq-eqb _ _ (sym c.byte_at.ensures ∙ c.in-1.is)))

pub returns-in_default-byte_at : goal.returns-in_default-byte_at
returns-in_default-byte_at c =
    let kind = kind_at c.args.text.now c.args.at in
    sym (of-line c.args.text.now c.args.at c.if-text-at.false (sym c.in-Some.ensures)
    ∙ simp (eq-eqb _ _ c.if-sum-ne0.false, ne_eqb kind 1 (λ e. omega (arith, e, c.byte_at.ensures)), ne_eqb kind 0 (λ e. omega (arith, e, c.byte_at.ensures))))

pub byte_at-requires-2 : goal.byte_at-requires-2
byte_at-requires-2 c =
    omega (arith, (whole-line c.args.text.now c.args.at (sym c.in-Some.ensures)).parts.room)

pub byte_at-requires-3 : goal.byte_at-requires-3
byte_at-requires-3 c =
    omega (arith, (whole-line c.args.text.now c.args.at (sym c.in-Some.ensures)).parts.room)

pub overflow_add-address-2 : goal.overflow_add-address-2
overflow_add-address-2 c =
    omega (arith, (whole-line c.args.text.now c.args.at (sym c.in-Some.ensures)).sizes, byte-below c.args.text.now (c.args.at + 1))

pub returns-then-address-size-gt65536 : goal.returns-then-address-size-gt65536
returns-then-address-size-gt65536 c =
    sym (of-line c.args.text.now c.args.at c.if-text-at.false (sym c.in-Some.ensures)
    ∙ simp (
      eq-eqb _ _ c.if-sum-ne0.false,
      ← c.byte_at.ensures,
      c.in-0.is,
      ← c.byte_at-2.ensures,
      ← c.byte_at-3.ensures,
      ← c.from.ensures,
      ← c.from-2.ensures,
      lt-ltb 65536 (256 * c.from.result + c.from-2.result + c.in-Some.field-0.size) (omega (arith, c.if-address-size-gt65536.true)),
    ))

pub returns : goal.returns
returns c =
    sym (of-line c.args.text.now c.args.at c.if-text-at.false (sym c.in-Some.ensures)
    ∙ simp (
      eq-eqb _ _ c.if-sum-ne0.false,
      ← c.byte_at.ensures,
      c.in-0.is,
      ← c.byte_at-2.ensures,
      ← c.byte_at-3.ensures,
      ← c.from.ensures,
      ← c.from-2.ensures,
      le-ltb 65536 (256 * c.from.result + c.from-2.result + c.in-Some.field-0.size) (omega (arith, c.if-address-size-gt65536.false)),
    ))
