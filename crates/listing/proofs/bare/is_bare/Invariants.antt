-- `is_bare` puts heads together. The invariant: if that is 0 all heads so far are 0. Assumes nothing.
use Prim.Native.Nat.{◌+◌, ◌≤◌}
use mathlib.Core.Path.{◌≡◌}
use Rattle.listing.specs.Bare.{BareTo}
use Rattle.listing.proofs.bare.is_bare.Given as goal

abbrev pub invariant-loop-j : goal.invariant-loop-j
invariant-loop-j l =
    (l.j ≤ 8) × (l.some ≡ 0 → BareTo l.positions l.goals l.at (l.at + l.j))
