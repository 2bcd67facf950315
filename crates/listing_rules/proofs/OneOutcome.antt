-- The functions on rows, and the skip test, have one outcome each, by their contracts alone. Assumes nothing.
use Rattle.std.specs.Prelude.{ℕ, ◌≡◌, List}
use Rattle.lent.specs.OneOutcome.{Determines, by-equation}
use Rattle.lent.specs.Rows.{put_row}
use Rattle.listing_rules.specs.declared.Line.{Line}
use Rattle.listing_rules.specs.Listing.{SkipAmount, crowded, line_width, line_cells}
use Rattle.listing_rules.specs.LineLayout.{line_at}

pub line-at-one : (m : List ℕ) (i : ℕ) → Determines (λ r. r ≡ line_at m i)
line-at-one m i = by-equation (line_at m i)

pub put-line-one : (m : List ℕ) (i : ℕ) (row : Line) → Determines (λ exit. exit ≡ put_row line_width m i (line_cells row))
put-line-one m i row = by-equation (put_row line_width m i (line_cells row))

pub is-crowded-one : (skip : SkipAmount) (n : ℕ) → Determines (λ r. r ≡ crowded skip n)
is-crowded-one skip n = by-equation (crowded skip n)
