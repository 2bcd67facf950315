-- `sum_of` meets its contract: what was summed and what is left come to the whole. Assumes nothing.
use Rattle.std.proofs.Common.{◌≡◌, ℕ, ◌+◌, ◌*◌, ◌-◌, List}
use Rattle.intel_hex.specs.Record.{sum_of}
use Rattle.intel_hex.proofs.RecordLaws.{added}
use Rattle.intel_hex.proofs.line.sum_of.Given as goal

pub record Turn (text : List ℕ) (at n sum others i : ℕ) : Type 0 where
  pub same : added others sum (sum_of text (at + 2 * i) (n - i)) ≡ sum_of text at n

abbrev pub invariant-loop-i : goal.invariant-loop-i
invariant-loop-i l =
    Turn l.text l.at l.n l.sum l.others l.i
