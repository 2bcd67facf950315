-- On the way: some matches are gone over, and going over the matches that are left finishes the work on all.
use Rattle.std.specs.Prelude.{ℕ, List, length}
use Rattle.segments.specs.Collect.{Collected}
use Rattle.tables.specs.by_name.Tables.{table, LeadsOn}
use Rattle.search_rules.specs.declared.Asked.{Asked}
use Rattle.search_rules.specs.Search.{Match, place, note}
use Rattle.search_rules.specs.SearchRows.{placed_sheet, noted_sheet}
use Rattle.search.specs.declared.visit.Fills.{Fills}
use Rattle.search.specs.visit.Visits.{placings, notings}

pub record Leading (cells : List ℕ) (a : Asked) (library : List ℕ) (gs : List Collected) (all : List Match) (placed₀ positions₀ noted₀ goals₀ : List ℕ) (f₀ : Fills)
    (left : List Match) (placed positions noted goals : List ℕ) (f : Fills) : Type 0 where
  pub places : LeadsOn placed_sheet library (place library (length cells)) (placings cells a gs left) (table placed positions f.placed) (placings cells a gs all) (table placed₀ positions₀ f₀.placed)
  pub notes : LeadsOn noted_sheet library (note library) (notings cells a gs left) (table noted goals f.noted) (notings cells a gs all) (table noted₀ goals₀ f₀.noted)
