-- `import_text` meets its contract: what was read, refused, without room, or written. Assumes nothing.
use Rattle.std.proofs.Common.{ap}
use Rattle.std.proofs.lemmas.Result.{err_from_is_err_and}
use Rattle.intel_hex.specs.Outcome.{stored}
use Rattle.intel_hex.proofs.ImportLaws.{came, unfilled, filled}
use Rattle.intel_hex.proofs.import.import_text.Goals as goal

pub returns-in_err-end : goal.returns-in_err-end
returns-in_err-end c =
    let p = err_from_is_err_and c.from_residual.result c.from_residual.ensures.1 in
    rw (p.1, p.2) (ap (λ m. stored m c.args.out.now) (came c.args.text.now c.nothing-cells.result c.read.new.cells c.read.ensures c.nothing-cells.ensures c.in_err-end.was))

pub returns-then-out-end : goal.returns-then-out-end
returns-then-out-end c =
    unfilled c.args.text.now c.read.new.cells c.in_ok-end.end c.args.out.now
    (came c.args.text.now c.nothing-cells.result c.read.new.cells c.read.ensures c.nothing-cells.ensures c.in_ok-end.was) c.if-out-end.true

pub returns : goal.returns
returns c =
    filled c.args.text.now c.read.new.cells c.in_ok-end.end c.args.out.now
    (came c.args.text.now c.nothing-cells.result c.read.new.cells c.read.ensures c.nothing-cells.ensures c.in_ok-end.was) c.if-out-end.false c.fill.ensures
