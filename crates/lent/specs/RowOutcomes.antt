-- The functions on rows have one outcome each, by their contracts alone. Assumes nothing.
use Rattle.std.specs.Prelude.{ℕ, ◌≡◌, Bool, List, length}
use Rattle.lent.specs.OneOutcome.{Determines, by-equation}
use Rattle.lent.specs.Rows.{zeros, flag, cell_of, numbers_of, put_row}

-- `fill(0)` on lent memory
pub clear-one : (m : List ℕ) → Determines (λ exit. exit ≡ zeros (length m))
clear-one m = by-equation (zeros (length m))

pub cell-one : (m : List ℕ) (width i j : ℕ) → Determines (λ r. r ≡ cell_of width m i j)
cell-one m width i j = by-equation (cell_of width m i j)

pub numbers-one : (m : List ℕ) (width i : ℕ) → Determines (λ r. r ≡ numbers_of width m i)
numbers-one m width i = by-equation (numbers_of width m i)

pub put_one : (m : List ℕ) (i : ℕ) (cells : List ℕ) → Determines (λ exit. exit ≡ put_row (length cells) m i cells)
put_one m i cells = by-equation (put_row (length cells) m i cells)

pub flag_one : (b : Bool) → Determines (λ r. r ≡ flag b)
flag_one b = by-equation (flag b)
