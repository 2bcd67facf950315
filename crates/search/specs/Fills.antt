-- What the search's rows are filled with, with the heads by which they are found, or that there are too many of them.
use Rattle.std.specs.Prelude.{◌≡◌, ℕ, ◌*◌, ◌<◌, true, false, List, length}
use Rattle.lent.specs.Rows.{padded}
use Rattle.tables.specs.declared.fill.Fill.{Fill}
use Rattle.tables.specs.by_name.Heads.{Blank}
use Rattle.tables.specs.by_name.Tables.{table, Tabled}
use Rattle.segments.specs.Collect.{Collected}
use Rattle.search_rules.specs.declared.Asked.{Asked}
use Rattle.search_rules.specs.Search.{Placing, Noting, placed, noted}
use Rattle.search_rules.specs.SearchRows.{placed_width, noted_width, placed_sheet, noted_sheet, placed_numbers, noted_numbers}
use Rattle.search.specs.declared.visit.Fills.{Fills}
use Rattle.search.specs.visit.Visits.{Stored, segments_in}

-- memory after: so many rows and then zeros, or they are too many for memory as it was
pub record Fitted (width count : ℕ) (numbers before after : List ℕ) (f : Fill) : Type 0 where
  pub fits : f.over ≡ false → (after ≡ padded (length before) numbers) × (f.rows ≡ count)
  pub room : f.over ≡ false → (length before < count * width → ⊥)
  pub over : f.over ≡ true → length before < count * width

-- rows of symbols and of names, each as the definition has it, and heads by which they are found
pub record Sought (library : List ℕ) (ps : List Placing) (ns : List Noting) (placed positions noted goals : List ℕ) : Type 0 where
  pub placings : Tabled placed_sheet library ps (table placed positions (record { rows = length ps; over = false }))
  pub notings : Tabled noted_sheet library ns (table noted goals (record { rows = length ns; over = false }))

pub record Filled (cells : List ℕ) (a : Asked) (library : List ℕ) (gs : List Collected) (before-placed before-noted after-placed positions after-noted goals : List ℕ) (f : Fills) : Type 0 where
  pub places : Fitted placed_width (length (placed library cells a gs)) (placed_numbers library (placed library cells a gs)) before-placed after-placed f.placed
  pub notes : Fitted noted_width (length (noted library cells a gs)) (noted_numbers library (noted library cells a gs)) before-noted after-noted f.noted
  pub sought : f.placed.over ≡ false → f.noted.over ≡ false → Sought library (placed library cells a gs) (noted library cells a gs) after-placed positions after-noted goals

-- with heads that are blank before
abbrev pub FillsRows : List ℕ → Asked → List ℕ → Stored → ℕ → List ℕ → List ℕ → List ℕ → List ℕ → List ℕ → List ℕ → List ℕ → List ℕ → Fills → Type 0
FillsRows cells a library t n placed positions noted goals placed' positions' noted' goals' f =
    Blank (length placed) positions → Blank (length noted) goals → Filled cells a library (segments_in t n) placed noted placed' positions' noted' goals' f
