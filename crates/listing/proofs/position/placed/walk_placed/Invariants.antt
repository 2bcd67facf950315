-- `walk_placed` goes from link to link. The invariant: the lines of the rows behind were met. Assumes nothing.
use Prim.Native.Nat.{ℕ, ◌+◌, ◌/◌, ◌≤◌, ◌<◌}
use mathlib.Core.Path.{◌≡◌}
use mathlib.Core.List.{List}
use lib.ListN.{length}
use Rattle.image.specs.View.{stretches_in, view}
use Rattle.image.specs.declared.fixup.Rules.{Rules}
use Rattle.tables.specs.by_name.Sheet.{key_buckets}
use Rattle.search_rules.specs.SearchRows.{placed_sheet}
use Rattle.listing_rules.specs.declared.Line.{Line}
use Rattle.listing.specs.declared.position.Best.{Best}
use Rattle.listing.specs.position.Bests.{Bests}
use Rattle.listing.specs.position.RowsAt.{Walked, Known, stays_at, line_of}
use Rattle.listing.proofs.position.placed.walk_placed.Given as goal

pub record Inv (cells : List ℕ) (rules : Rules) (library segments : List ℕ) (n : ℕ) (references placed positions noted goals : List ℕ) (at : ℕ)
    (m₀ : List ℕ) (from : ℕ) (b₀ : Best) (m : List ℕ) (b : Best) (here : ℕ) : Type 0 where
  pub few : b.count + here ≤ b₀.count + length placed / 8
  pub long : length m ≡ length m₀
  pub walked : (k : Known rules library segments references n placed positions noted goals) (lines before : List Line) → at < key_buckets → length lines ≡ from → Bests lines before m₀ b₀
      → Walked placed_sheet library k.ps at (stays_at cells k at) (line_of cells k) lines before here m b

abbrev pub invariant-loop-here : goal.invariant-loop-here
invariant-loop-here l =
    Inv (view l.image (stretches_in l.s)) l.rules l.found.library.now
    l.found.segments.now l.found.n l.found.references.now l.found.placed.now l.found.positions.now l.found.noted.now l.found.goals.now l.at l.initial.m l.from l.initial.b l.m l.b l.here

abbrev pub decreases-loop-here : goal.decreases-loop-here
decreases-loop-here l =
    l.here
