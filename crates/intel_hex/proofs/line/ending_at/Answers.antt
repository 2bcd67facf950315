-- `ending_at` meets its contract. Assumes nothing.
use Rattle.std.proofs.Common.{arith}
use Rattle.intel_hex.proofs.RecordLaws.{ends-here, ends-lf, ends-crlf, ends-not}
use Rattle.intel_hex.proofs.line.ending_at.Goals as goal

pub returns-in-empty : goal.returns-in-empty
returns-in-empty c =
    ends-here c.args.text.now c.args.at (omega arith)

pub returns-in-13 : goal.returns-in-13
returns-in-13 c =
    ends-crlf c.args.text.now c.args.at (omega arith) (omega arith) (omega arith)

pub returns-in-10 : goal.returns-in-10
returns-in-10 c =
    ends-lf c.args.text.now c.args.at (omega arith) (omega arith)

pub returns-in-10-2 : goal.returns-in-10-2
returns-in-10-2 c =
    ends-lf c.args.text.now c.args.at (omega arith) (omega arith)

pub returns-in_default : goal.returns-in_default
returns-in_default c =
    ends-not c.args.text.now c.args.at (omega arith) (λ e. omega arith) (λ l e f. omega arith)

pub returns-in_default-2 : goal.returns-in_default-2
returns-in_default-2 c =
    ends-not c.args.text.now c.args.at (omega arith) (λ e. omega arith) (λ l e f. omega arith)

pub returns-in_default-3 : goal.returns-in_default-3
returns-in_default-3 c =
    ends-not c.args.text.now c.args.at (omega arith) (λ e. omega arith) (λ l e f. omega arith)
