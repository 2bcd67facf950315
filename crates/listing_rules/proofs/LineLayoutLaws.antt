-- A line has its width, and is read back as it was written, whatever grade a byte holds. Assumes nothing.
use Rattle.std.specs.Prelude.{ℕ, ◌+◌, ◌*◌, ◌≤◌, ◌<◌, ◌≡◌, refl, List, length}
use Rattle.std.proofs.Common.{mod-eq_of_lt}
use Rattle.lent.specs.Rows.{put_row}
use Rattle.lent.specs.RowLaws.{Wide, Back, get-put}
use Rattle.listing_rules.specs.declared.Line.{Line}
use Rattle.listing_rules.specs.Listing.{line_width, line_cells}
use Rattle.listing_rules.specs.LineLayout.{line_layout, line_at}

pub line-width : Wide line_layout
line-width l = refl

pub line-back : (l : Line) → l.grade < 256 → Back line_layout l
line-back l h = rw (mod-eq_of_lt h)

-- what is put is got
pub line_kept : (m : List ℕ) (i : ℕ) (r : Line) → r.grade < 256 → i * line_width + line_width ≤ length m → line_at (put_row line_width m i (line_cells r)) i ≡ r
line_kept m i r g h = get-put line_layout line-width m i r h (line-back r g)
