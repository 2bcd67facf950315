-- The search's rows have their widths, and are read back as they were written. Assumes nothing.
use Rattle.std.specs.Prelude.{ℕ, ◌+◌, ◌*◌, ◌≤◌, ◌≡◌, refl, List, length}
use Rattle.lent.specs.Rows.{put_row}
use Rattle.lent.specs.RowLaws.{Wide, Back, flag-back, get-put}
use Rattle.search_rules.specs.declared.Placed.{Placed}
use Rattle.search_rules.specs.declared.Noted.{Noted}
use Rattle.search_rules.specs.SearchRows.{placed_width, noted_width, placed_cells, noted_cells, placed_layout, noted_layout}
use Rattle.search_rules.specs.SearchLayouts.{placed_at, noted_at}

pub placed-width : Wide placed_layout
placed-width r = refl

pub noted-width : Wide noted_layout
noted-width r = refl

pub placed-back : (r : Placed) → Back placed_layout r
placed-back r = rw flag-back

pub noted_back : (r : Noted) → Back noted_layout r
noted_back r = rw flag-back

-- what is put is got
pub placed-kept : (m : List ℕ) (i : ℕ) (r : Placed) → i * placed_width + placed_width ≤ length m → placed_at (put_row placed_width m i (placed_cells r)) i ≡ r
placed-kept m i r h = get-put placed_layout placed-width m i r h (placed-back r)

pub noted-kept : (m : List ℕ) (i : ℕ) (r : Noted) → i * noted_width + noted_width ≤ length m → noted_at (put_row noted_width m i (noted_cells r)) i ≡ r
noted-kept m i r h = get-put noted_layout noted-width m i r h (noted_back r)
