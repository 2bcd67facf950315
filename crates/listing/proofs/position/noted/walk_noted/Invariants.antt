-- `walk_noted` goes from link to link. The invariant: the lines of the rows behind were met. Assumes nothing.
use Prim.Native.Nat.{ℕ, ◌+◌, ◌/◌, ◌≤◌, ◌<◌}
use mathlib.Core.Path.{◌≡◌}
use mathlib.Core.Bool.{false}
use mathlib.Core.List.{List, []}
use lib.ListN.{length}
use Rattle.tables.specs.by_name.Sheet.{key_buckets}
use Rattle.tables.specs.by_name.Tables.{table, Tabled}
use Rattle.search_rules.specs.Search.{Noting}
use Rattle.search_rules.specs.SearchRows.{noted_sheet}
use Rattle.listing_rules.specs.declared.Line.{Line}
use Rattle.listing_rules.specs.Listing.{noted_line}
use Rattle.listing_rules.specs.FrontLines.{Fronts}
use Rattle.listing.specs.declared.position.Best.{Best}
use Rattle.listing.specs.position.RowsAt.{Walked, noted_at_it}
use Rattle.listing.proofs.position.noted.walk_noted.Given as goal

abbrev pub Noted-table : List ℕ → List ℕ → List ℕ → List Noting → Type 0
Noted-table library noted goals ns = Tabled noted_sheet library ns (table noted goals (record { rows = length ns; over = false }))

pub record Inv (noted goals : List ℕ) (at : ℕ) (m₀ : List ℕ) (from : ℕ) (m : List ℕ) (b : Best) (here : ℕ) : Type 0 where
  pub few : b.count + here ≤ length noted / 6
  pub long : length m ≡ length m₀
  pub walked : (library : List ℕ) (ns : List Noting) (lines : List Line) → Noted-table library noted goals ns → at < key_buckets → length lines ≡ from → Fronts lines m₀
      → Walked noted_sheet library ns at (noted_at_it at) noted_line lines [] here m b

abbrev pub invariant-loop-here : goal.invariant-loop-here
invariant-loop-here l =
    Inv l.noted l.goals l.at l.initial.m l.from l.m l.b l.here

abbrev pub decreases-loop-here : goal.decreases-loop-here
decreases-loop-here l =
    l.here
