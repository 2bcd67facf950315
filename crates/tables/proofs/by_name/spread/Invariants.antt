-- `spread` goes over the bytes, and what is left to go over leads to the definition's number. Assumes nothing.
use Rattle.std.proofs.Common.{◌≡◌, ◌<◌, drop}
use Rattle.tables.specs.by_name.Sheet.{spread}
use Rattle.tables.proofs.by_name.spread.Given as goal

abbrev pub invariant-loop-b : goal.invariant-loop-b
invariant-loop-b l =
    (l.h < 4294967296) × (spread l.h (drop l.b-index l.bytes) ≡ spread l.from l.bytes)
