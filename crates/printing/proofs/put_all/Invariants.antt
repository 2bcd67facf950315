-- `put_all` meets its contract: behind the heading, what was put and the lines that are left are all lines. Assumes nothing.
use Prim.Native.Nat.{ℕ}
use mathlib.Core.Path.{◌≡◌}
use mathlib.Core.List.{List, ◌++◌}
use lib.ListN.{length}
use Rattle.describe.specs.Described.{Put}
use Rattle.printing.specs.Pieces.{lines_from}
use Rattle.printing.proofs.put_all.Given as goal

pub record Turn (library lines : List ℕ) (n : ℕ) (out₀ : List ℕ) (at₀ : ℕ) (out : List ℕ) (at i : ℕ) : Type 0 where
  pub done : List ℕ
  pub long : length out ≡ length out₀
  pub wrote : Put out₀ at₀ done out at
  pub whole : done ++ lines_from library lines n i ≡ lines_from library lines n 0

abbrev pub invariant-loop-i : goal.invariant-loop-i
invariant-loop-i l =
    Turn l.library l.lines l.n l.initial.out l.initial.at l.out l.at l.i
