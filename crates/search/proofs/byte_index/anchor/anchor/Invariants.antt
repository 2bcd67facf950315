-- `anchor` goes over the pattern. The invariant: the place, where it is one, is that of a byte that is compared whole, and the end is the pattern's or before it. Assumes nothing.
use Rattle.std.proofs.Common.{ℕ, ◌-◌, ◌<◌, ◌≤◌, List, length}
use Rattle.search.specs.byte_index.Anchor.{Anchor}
use Rattle.search.proofs.byte_index.anchor.anchor.Given as goal

abbrev pub Chosen : List ℕ → List ℕ → ℕ → ℕ → Type 0
Chosen bytes masks n place = place < n → Anchor bytes masks place

pub record Inv (bytes masks : List ℕ) (n place end i : ℕ) : Type 0 where
  pub within : i ≤ n
  pub ends : end ≤ n
  pub in_bytes : n ≤ length bytes
  pub in-masks : n ≤ length masks
  pub chosen : Chosen bytes masks n place

abbrev pub invariant-loop-i : goal.invariant-loop-i
invariant-loop-i l =
    Inv l.bytes l.masks l.n l.place l.end l.i

abbrev pub decreases-loop-i : goal.decreases-loop-i
decreases-loop-i l =
    l.n - l.i
