-- `take` meets its contract: noting what is left completes what noting all would do. Assumes nothing.
use Rattle.std.proofs.Common.{◌≡◌, ℕ, ◌+◌, ◌*◌, ◌-◌, List, length}
use Rattle.intel_hex.specs.Digits.{bytes_at}
use Rattle.intel_hex.specs.Cells.{taken}
use Rattle.intel_hex.proofs.memory.take.Given as goal

pub record Turn (text : List ℕ) (at address size : ℕ) (cells₀ cells : List ℕ) (seen i : ℕ) : Type 0 where
  pub long : length cells ≡ length cells₀
  pub same : taken seen cells (address + i) (bytes_at text (at + 2 * i) (size - i)) ≡ taken 0 cells₀ address (bytes_at text at size)

abbrev pub invariant-loop-i : goal.invariant-loop-i
invariant-loop-i l =
    Turn l.text l.at l.address l.size l.initial.cells l.cells l.seen l.i
