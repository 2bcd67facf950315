-- `list_inside` goes from position to position. The invariant: whoever adds the lines that are left has added all. Assumes nothing.
use Prim.Native.Nat.{ℕ, ◌-◌, ◌≤◌}
use mathlib.Core.Path.{◌≡◌}
use mathlib.Core.List.{List}
use lib.ListN.{length}
use Rattle.tables.specs.declared.fill.Fill.{Fill}
use Rattle.image.specs.View.{stretches_in, view}
use Rattle.image.specs.declared.fixup.Rules.{Rules}
use Rattle.tables.specs.by_name.Sheet.{key_buckets}
use Rattle.listing_rules.specs.Listing.{SkipAmount}
use Rattle.listing.specs.position.RowsAt.{Known}
use Rattle.listing.specs.InsideLaws.{LeadsFrom}
use Rattle.listing.proofs.inside.list_inside.Given as goal

pub record Inv (cells : List ℕ) (rules : Rules) (skip : SkipAmount) (library segments : List ℕ) (n : ℕ) (references placed positions noted goals m₀ : List ℕ)
    (f₀ : Fill) (m : List ℕ) (f : Fill) (at : ℕ) : Type 0 where
  pub long : length m ≡ length m₀
  pub leads : (k : Known rules library segments references n placed positions noted goals) → length cells ≤ key_buckets → LeadsFrom cells k skip (length cells) m₀ f₀ at m f

abbrev pub invariant-loop-at : goal.invariant-loop-at
invariant-loop-at l =
    Inv (view l.image (stretches_in l.s)) l.rules l.skip l.found.library.now
    l.found.segments.now l.found.n l.found.references.now l.found.placed.now l.found.positions.now l.found.noted.now l.found.goals.now l.initial.m l.initial.f l.m l.f l.at

abbrev pub decreases-loop-at : goal.decreases-loop-at
decreases-loop-at l =
    length l.image - l.at
