-- `next_content` goes from record to record. The invariant: from here it comes to what it comes to from the start. Assumes nothing.
use Prim.Native.Nat.{ℕ, ◌-◌, ◌<◌}
use mathlib.Core.Path.{◌≡◌}
use mathlib.Core.List.{List}
use lib.ListN.{length}
use Rattle.library.specs.items.Contents.{seek, next_content}
use Rattle.library.proofs.items.contents.next_content.Given as goal

pub record Inv (library : List ℕ) (from at : ℕ) : Type 0 where
  pub count : ℕ
  pub enough : length library - at < count
  pub same : seek count library at ≡ next_content library from

abbrev pub invariant-loop-next : goal.invariant-loop-next
invariant-loop-next l =
    Inv l.library l.from l.at

abbrev pub decreases-loop-next : goal.decreases-loop-next
decreases-loop-next l =
    length l.library - l.at
