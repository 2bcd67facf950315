use Rattle.std.specs.Prelude.{Ok}
use Rattle.std.proofs.Common.{◌+◌, ◌-◌, sym, ap, ◌∙◌, arith, rules}
use Rattle.std.proofs.lemmas.Result.{err_from_is_err_and}
use Rattle.intel_hex.specs.Digits.{bytes_at}
use Rattle.intel_hex.specs.Import.{given, walk}
use Rattle.intel_hex.specs.Cells.{memory_in}
use Rattle.intel_hex.proofs.RecordCases.{data_at}
use Rattle.intel_hex.proofs.ImportLaws.{walk_at, walk-twice, walk-on, end-most}
use Rattle.intel_hex.proofs.CellLaws.{all_noted, one-given}
use Rattle.intel_hex.proofs.import.read.Goals as goal

pub returns-in_err-data : goal.returns-in_err-data
returns-in_err-data c =
    let l = c.loop-data in
    let p = err_from_is_err_and c.from_residual.result c.from_residual.ensures.1 in
    rw (p.1, p.2) record {
      same = sym (walk_at c.args.text.now l.invariant.fuel l.at (memory_in l.cells) l.end (omega arith) (sym c.in_err-data.ensures)) ∙ l.invariant.same;
      within = omega arith;
    }

pub overflow_add-at : goal.overflow_add-at
overflow_add-at c =
    omega (arith, (data_at c.args.text.now c.loop-data.at c.in_ok-data.ensures c.in-Some.is).good.parts.room)

pub take-requires : goal.take-requires
take-requires c =
    let d = data_at c.args.text.now c.loop-data.at c.in_ok-data.ensures c.in-Some.is in
    omega (arith, d.good.parts.room, d.sizes, d.fits, c.loop-data.invariant.long)

pub returns-then-not-take : goal.returns-then-not-take
returns-then-not-take c =
    let a = c.args in
    let l = c.loop-data in
    let r = c.in-Some.data in
    let d = data_at a.text.now l.at c.in_ok-data.ensures c.in-Some.is in
    record {
      same = sym (walk-twice a.text.now l.invariant.fuel l.at (memory_in l.cells) l.end r.address r.size r.next (omega arith) (sym c.in_ok-data.ensures ∙ ap Ok c.in-Some.is)
          (one-given a.text.now (l.at + 9) l.cells r.address r.size (omega (arith, d.fits, l.invariant.long)) c.take.ensures c.if-not-take.true)) ∙ l.invariant.same;
      within = omega arith;
    }

pub end_after-end-requires : goal.end_after-end-requires
end_after-end-requires c =
    (data_at c.args.text.now c.loop-data.at c.in_ok-data.ensures c.in-Some.is).fits

pub loop-data-smaller : goal.loop-data-smaller
loop-data-smaller c =
    let d = data_at c.args.text.now c.loop-data.at c.in_ok-data.ensures c.in-Some.is in
    omega (arith, d.good.parts.room, d.nexts)

pub loop-data-preserved : goal.loop-data-preserved
loop-data-preserved c =
    let a = c.args in
    let l = c.loop-data in
    let r = c.in-Some.data in
    let e = c.end_after-end in
    let d = data_at a.text.now l.at c.in_ok-data.ensures c.in-Some.is in
    let noted = all_noted a.text.now (l.at + 9) l.cells r.address r.size (omega (arith, d.fits, l.invariant.long)) c.take.ensures c.if-not-take.false in
    record {
      long = search rules;
      within = omega (arith, e.ensures, d.fits, end-most 65536 l.end r.address r.size l.invariant.within d.fits);
      fuel = l.invariant.fuel - 1;
      enough = omega (arith, d.good.parts.room, d.nexts, l.invariant.enough);
      same = ap (λ m. walk a.text.now (l.invariant.fuel - 1) r.next m e.result) noted.1
          ∙ ap (walk a.text.now (l.invariant.fuel - 1) r.next (given r.address (bytes_at a.text.now (l.at + 9) r.size) (memory_in l.cells))) e.ensures
          ∙ sym (walk-on a.text.now l.invariant.fuel l.at (memory_in l.cells) l.end r.address r.size r.next (omega arith) (sym c.in_ok-data.ensures ∙ ap Ok c.in-Some.is) noted.0)
          ∙ l.invariant.same;
    }

pub returns : goal.returns
returns c =
    let l = c.loop-data in
    record {
      same = sym (walk_at c.args.text.now l.invariant.fuel l.at (memory_in l.cells) l.end (omega arith) (sym c.in_ok-data.ensures ∙ ap Ok c.in_default.is)) ∙ l.invariant.same;
      within = l.invariant.within;
    }
