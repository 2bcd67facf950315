-- `sum_of` meets its contract: the sum so far and that of the bytes that are left come to the whole. Assumes nothing.
use Rattle.std.specs.Prelude.{◌≡◌, ◌+◌, ◌%◌, drop}
use Rattle.lent.specs.Lists.{total}
use Rattle.omf51.proofs.by_edition.sum_of.Given as goal

abbrev pub invariant-loop-byte : goal.invariant-loop-byte
invariant-loop-byte l =
    (l.sum + total (λ byte. byte) (drop l.byte-index l.bytes)) % 256 ≡ total (λ byte. byte) l.bytes % 256
