-- Lent memory in which lines stand from the front on; what stands behind them is anything.
use Rattle.std.specs.Prelude.{ℕ, ◌*◌, ◌≤◌, ◌<◌, ◌≡◌, true, false, List, ◌++◌, length, take}
use Rattle.tables.specs.declared.fill.Fill.{Fill}
use Rattle.listing_rules.specs.declared.Line.{Line}
use Rattle.listing_rules.specs.Listing.{line_width, line_numbers}

-- so many lines stand in front
pub record Fronts (lines : List Line) (m : List ℕ) : Type 0 where
  pub room : length lines * line_width ≤ length m
  pub numbers : take (length lines * line_width) m ≡ line_numbers lines

-- either they do, or there are too many of them
pub record Front (lines : List Line) (m : List ℕ) (f : Fill) : Type 0 where
  pub counted : f.over ≡ false → f.rows ≡ length lines
  pub fits : f.over ≡ false → Fronts lines m
  pub over : f.over ≡ true → length m < length lines * line_width

-- memory that had some lines in front, or was too small for them, has the new ones behind them, or is too small
abbrev pub Extends : List Line → List ℕ → Fill → List ℕ → Fill → Type 0
Extends new m f m' f' = (lines : List Line) → Front lines m f → Front (lines ++ new) m' f'

-- whoever adds what is left has added all
abbrev pub LeadsTo : List Line → List ℕ → Fill → List Line → List ℕ → Fill → Type 0
LeadsTo left m f all m₀ f₀ = (m' : List ℕ) (f' : Fill) → Extends left m f m' f' → Extends all m₀ f₀ m' f'
