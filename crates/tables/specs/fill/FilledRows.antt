-- Lent memory that is filled with rows: what it holds while there is room, and that there are too many rows once there is none.
use Rattle.std.specs.Prelude.{◌≡◌, ℕ, ◌+◌, ◌*◌, ◌<◌, ◌≤◌, true, false, List, ◌++◌, length, ◌==◌, nat_le, if◌then◌else◌}
use Rattle.lent.specs.Lists.{joined}
use Rattle.lent.specs.Rows.{padded, put_row, Layout}
use Rattle.tables.specs.declared.fill.Fill.{Fill}

abbrev pub no_more : Fill → Fill
no_more f = record { rows = f.rows; over = true }

unfoldable pub one_more : Fill → ℕ → ℕ → Fill
one_more f width len =
    if f.over then f
    else if width == 0 then no_more f
    else if nat_le (f.rows * width + width) len then record { rows = f.rows + 1; over = false }
    else no_more f

-- the memory after one row more, which is put behind the rows before it, if there is room
unfoldable pub put_more : {R : Type 0} → Layout R → Fill → R → List ℕ → List ℕ
put_more l f r m = if (one_more f l.width (length m)).over then m else put_row l.width m f.rows (l.cells r)

-- the memory holds exactly these rows, and then zeros
pub record Holds {R : Type 0} (l : Layout R) (rows : List R) (m : List ℕ) (f : Fill) : Type 0 where
  pub number : f.rows ≡ length rows
  pub room : length rows * l.width ≤ length m
  pub memory : m ≡ padded (length m) (joined l.cells rows)

-- either the memory holds the rows, or there are too many of them for it
pub record Filling {R : Type 0} (l : Layout R) (rows : List R) (m : List ℕ) (f : Fill) : Type 0 where
  pub fits : f.over ≡ false → Holds l rows m f
  pub over : f.over ≡ true → length m < length rows * l.width

-- if the memory held some rows, or was too small for them, then it holds the new rows behind them, or is too small for all
abbrev pub Adds : {R : Type 0} → Layout R → List R → List ℕ → Fill → List ℕ → Fill → Type 0
Adds {R} l new m f n g = (rows : List R) → Filling l rows m f → Filling l (rows ++ new) n g

-- adding the rows that are left, from here on, comes to adding all of them from the start
abbrev pub Leads : {R : Type 0} → Layout R → List R → List ℕ → Fill → List R → List ℕ → Fill → Type 0
Leads l left m f all m₀ f₀ = (n : List ℕ) (g : Fill) → Adds l left m f n g → Adds l all m₀ f₀ n g
