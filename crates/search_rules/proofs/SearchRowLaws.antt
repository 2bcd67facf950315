-- How much of lent memory the search's rows take. Assumes nothing.
use Rattle.std.specs.Prelude.{ℕ, ◌*◌, ◌≡◌, refl, List, length}
use Rattle.std.proofs.Common.{ap, ◌∙◌}
use Rattle.lent.specs.ListLaws.{rows-length}
use Rattle.tables.specs.by_name.Sheet.{linked}
use Rattle.tables.specs.by_name.SheetLaws.{linked-length}
use Rattle.search_rules.specs.Search.{Placing, Noting}
use Rattle.search_rules.specs.SearchRows.{placed_width, noted_width, placed_cells, noted_cells, placed_sheet, noted_sheet, placed_numbers, noted_numbers}

pub placed-take : (library : List ℕ) (rows : List Placing) → length (placed_numbers library rows) ≡ length rows * placed_width
unfolding placed_numbers
placed-take library rows =
    rows-length placed_width placed_cells (λ r. refl) (linked placed_sheet library rows)
    ∙ ap (λ n. n * placed_width) (linked-length placed_sheet library rows)

pub noted-take : (library : List ℕ) (rows : List Noting) → length (noted_numbers library rows) ≡ length rows * noted_width
unfolding noted_numbers
noted-take library rows =
    rows-length noted_width noted_cells (λ r. refl) (linked noted_sheet library rows)
    ∙ ap (λ n. n * noted_width) (linked-length noted_sheet library rows)
