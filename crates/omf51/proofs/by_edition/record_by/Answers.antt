-- `record_by`: the record, and in edition 2 its sum. Assumes nothing.
use Rattle.std.specs.Prelude.{◌+◌, ◌≡◌}
use Rattle.std.proofs.Common.{sym, ◌∙◌}
use native.Mathlib.Omega.{arith}
use borrow.Author.Tests.{eqb-true, eqb-false}
use Rattle.std.proofs.lemmas.Result.{err_from_is_err_and}
use Rattle.omf51.specs.Reader.{read}
use Rattle.omf51.specs.Record.{record_sum, expected, expected_by}
use Rattle.omf51.proofs.RecordLaws.{Fits, read_fits, sum-right, sum-wrong, stops_by, refuses_by}
use Rattle.omf51.specs.Expected.{allows}
use Rattle.omf51.proofs.by_edition.record_by.Goals as goal
use Rattle.omf51.proofs.by_edition.record_by.Goals.{In-Some}

framed : (c : In-Some) → let a = c.args in expected a.library.now (allows a.what) a.at ≡ read c.in-Some.f (c.in-Some.f.end + 1)
framed c =
    sym (rw c.in-Some.is at c.in_ok-f.ensures)

fits : (c : In-Some) → let a = c.args in Fits a.library.now a.at c.in-Some.f (c.in-Some.f.end + 1)
fits c =
    let a = c.args in read_fits a.library.now (allows a.what) a.at (framed c)

pub returns-in_err-f : goal.returns-in_err-f
returns-in_err-f c =
    let a = c.args in
    let p = err_from_is_err_and c.from_residual.result c.from_residual.ensures.1 in
    rw (p.1, p.2) (sym (refuses_by a.edition a.library.now (allows a.what) a.at (sym c.in_err-f.ensures)))

pub returns-in_default : goal.returns-in_default
returns-in_default c =
    let a = c.args in
    sym (stops_by a.edition a.library.now (allows a.what) a.at (sym (rw c.in_default.is at c.in_ok-f.ensures)))

pub overflow_add-f : goal.overflow_add-f
overflow_add-f c =
    omega (arith, fits (goal.at.overflow_add-f c).In-Some)

pub sums_to_zero-requires : goal.sums_to_zero-requires
sums_to_zero-requires c =
    let fits = fits (goal.at.sums_to_zero-requires c).In-Some in
    (omega (arith, fits), fits.inside)

pub returns-in-One : goal.returns-in-One
unfolding expected_by
returns-in-One c =
    rw c.in-One.is (sym (framed (goal.at.returns-in-One c).In-Some))

pub returns-then-sums_to_zero : goal.returns-then-sums_to_zero
returns-then-sums_to_zero c =
    let a = c.args in
    let zero = eqb-true (record_sum a.library.now a.at (c.in-Some.f.end + 1)) 0 (sym c.sums_to_zero.ensures ∙ c.if-sums_to_zero.true) in
    rw c.in-Two.is (sym (sum-right a.library.now (allows a.what) a.at (framed (goal.at.returns-then-sums_to_zero c).In-Some) zero))

pub returns-else-sums_to_zero : goal.returns-else-sums_to_zero
returns-else-sums_to_zero c =
    let a = c.args in
    let zero = eqb-false (record_sum a.library.now a.at (c.in-Some.f.end + 1)) 0 (sym c.sums_to_zero.ensures ∙ c.if-sums_to_zero.false) in
    rw c.in-Two.is (sym (sum-wrong a.library.now (allows a.what) a.at (framed (goal.at.returns-else-sums_to_zero c).In-Some) zero))
