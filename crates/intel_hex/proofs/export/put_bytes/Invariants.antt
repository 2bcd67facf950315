-- `put_bytes` meets its contract: the bytes that are left complete digits and sum. Assumes nothing.
use Rattle.std.proofs.Common.{◌≡◌, ℕ, ◌+◌, ◌*◌, ◌%◌, List, length, drop}
use Rattle.std.proofs.lemmas.List.Edits.{sets}
use Rattle.intel_hex.specs.Digits.{sum, all_digits}
use Rattle.intel_hex.proofs.export.put_bytes.Given as goal

pub record Turn (out₀ : List ℕ) (at : ℕ) (bytes out : List ℕ) (total to i : ℕ) : Type 0 where
  pub place : to ≡ at + 2 * i
  pub long : length out ≡ length out₀
  pub summed : (total + sum (drop i bytes)) % 256 ≡ sum bytes % 256
  pub same : sets out to (all_digits (drop i bytes)) ≡ sets out₀ at (all_digits bytes)

abbrev pub invariant-loop-byte : goal.invariant-loop-byte
invariant-loop-byte l =
    Turn l.initial.out l.at l.bytes l.out l.total l.to l.byte-index
