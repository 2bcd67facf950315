-- `put` meets its contract: what is left to store completes what the whole text stored from the start. Assumes nothing.
use Rattle.std.proofs.Common.{◌+◌, ◌≡◌, ℕ, List, length, drop}
use Rattle.std.proofs.lemmas.List.Edits.{sets}
use Rattle.describe.proofs.entry.put.Given as goal

pub record Turn (out₀ : List ℕ) (at : ℕ) (t out : List ℕ) (j : ℕ) : Type 0 where
  pub long : length out ≡ length out₀
  pub same : sets out (at + j) (drop j t) ≡ sets out₀ at t

abbrev pub invariant-loop-j : goal.invariant-loop-j
invariant-loop-j l =
    Turn l.initial.out l.at l.text l.out l.j
