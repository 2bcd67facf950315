use Rattle.std.proofs.Common.{◌+◌, ap, ◌∙◌, arith, rules, drop}
use Rattle.std.proofs.lemmas.List.Edits.{sets}
use Rattle.lent.specs.PartLaws.{total-turn, total-done}
use Rattle.intel_hex.specs.Digits.{all_digits}
use Rattle.intel_hex.proofs.ExportLaws.{digits_more, digits-all}
use Rattle.intel_hex.proofs.export.put_bytes.Goals as goal

pub loop-byte-preserved : goal.loop-byte-preserved
loop-byte-preserved c =
    let a = c.args in
    let l = c.loop-byte in
    record {
      place = omega arith;
      long = search rules;
      summed = omega (arith, l.invariant.summed, total-turn (λ byte. byte) a.bytes.now l.byte-index 0 c.loop-byte-test.true);
      same = ap (λ o. sets o (l.to + 2) (all_digits (drop (l.byte-index + 1) a.bytes.now))) c.put_byte.ensures
          ∙ digits_more a.bytes.now l.out l.to l.byte-index c.loop-byte-test.true ∙ l.invariant.same;
    }

pub returns : goal.returns
returns c =
    let a = c.args in
    let l = c.loop-byte in (
      omega (arith, l.invariant.summed, total-done (λ byte. byte) a.bytes.now l.byte-index c.loop-byte-test.false),
      digits-all a.bytes.now l.out l.to l.byte-index c.loop-byte-test.false ∙ l.invariant.same,
    )
