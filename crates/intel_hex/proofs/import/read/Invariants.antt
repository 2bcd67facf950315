-- `read` meets its contract: at each turn what is left of the text, with what the cells hold, comes to what the whole does. Assumes nothing.
use Rattle.intel_hex.specs.Import.{walk}
use Prim.Native.Nat.{ℕ, ◌+◌, ◌-◌, ◌≤◌, ◌<◌}
use mathlib.Core.Path.{◌≡◌}
use mathlib.Core.List.{List}
use lib.ListN.{length}
use Rattle.intel_hex.specs.Cells.{memory_in}
use Rattle.intel_hex.proofs.import.read.Given as goal

pub record Turn (text cells₀ cells : List ℕ) (at end : ℕ) : Type 0 where
  pub long : length cells ≡ 65536
  pub within : end ≤ 65536
  pub fuel : ℕ
  pub enough : length text - at < fuel
  pub same : walk text fuel at (memory_in cells) end ≡ walk text (length text + 1) 0 (memory_in cells₀) 0

abbrev pub invariant-loop-data : goal.invariant-loop-data
invariant-loop-data l =
    Turn l.text l.initial.cells l.cells l.at l.end

abbrev pub decreases-loop-data : goal.decreases-loop-data
decreases-loop-data l =
    length l.text - l.at
