-- `fill` meets its contract: the bytes that are left complete what the whole image stored. Assumes nothing.
use Rattle.std.proofs.Common.{◌≡◌, ℕ, List, length}
use Rattle.std.proofs.lemmas.List.Edits.{sets}
use Rattle.intel_hex.specs.Cells.{image_in}
use Rattle.intel_hex.proofs.CellLaws.{bytes_from}
use Rattle.intel_hex.proofs.memory.fill.Given as goal

pub record Turn (cells : List ℕ) (end : ℕ) (out₀ out : List ℕ) (i : ℕ) : Type 0 where
  pub long : length out ≡ length out₀
  pub same : sets out i (bytes_from cells end i) ≡ sets out₀ 0 (image_in cells end)

abbrev pub invariant-loop-i : goal.invariant-loop-i
invariant-loop-i l =
    Turn l.cells l.end l.initial.out l.out l.i
