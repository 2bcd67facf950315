-- The functions on rows have one outcome each, by their contracts alone. Assumes nothing.
use Rattle.std.specs.Prelude.{ℕ, ◌≡◌, List}
use Rattle.lent.specs.OneOutcome.{Determines, by-equation}
use Rattle.lent.specs.Rows.{put_row}
use Rattle.search_rules.specs.declared.Placed.{Placed}
use Rattle.search_rules.specs.declared.Noted.{Noted}
use Rattle.search_rules.specs.SearchRows.{placed_width, noted_width, placed_cells, noted_cells}
use Rattle.search_rules.specs.SearchLayouts.{placed_at, noted_at}

pub placed-at-one : (m : List ℕ) (i : ℕ) → Determines (λ r. r ≡ placed_at m i)
placed-at-one m i = by-equation (placed_at m i)

pub put-placed-one : (m : List ℕ) (i : ℕ) (row : Placed) → Determines (λ exit. exit ≡ put_row placed_width m i (placed_cells row))
put-placed-one m i row = by-equation (put_row placed_width m i (placed_cells row))

pub noted-at-one : (m : List ℕ) (i : ℕ) → Determines (λ r. r ≡ noted_at m i)
noted-at-one m i = by-equation (noted_at m i)

pub put-noted-one : (m : List ℕ) (i : ℕ) (row : Noted) → Determines (λ exit. exit ≡ put_row noted_width m i (noted_cells row))
put-noted-one m i row = by-equation (put_row noted_width m i (noted_cells row))
