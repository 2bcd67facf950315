-- Lent memory: lists of numbers that hold rows, one after another, and then zeros.
use Rattle.std.specs.Prelude.{ℕ, ◌+◌, ◌-◌, ◌*◌, Bool, ◌&&◌, List, [], ◌∷◌, ◌++◌, leb, ltb, length, get_or, replicate, if◌then◌else◌}
use Rattle.std.proofs.lemmas.List.Edits.{sets}

-- n zeros
abbrev pub zeros : ℕ → List ℕ
zeros n = replicate n 0

-- the numbers xs, and then zeros up to a length
abbrev pub padded : ℕ → List ℕ → List ℕ
padded room xs = xs ++ zeros (room - length xs)

-- n rows of a width need more numbers than were lent
abbrev pub too_many : ℕ → List ℕ → ℕ → Bool
too_many width lent n = ltb (length lent) (n * width)

-- yes and no as the numbers 1 and 0 in a row
abbrev pub flag : Bool → ℕ
flag b = if b then 1 else 0

-- row i of a width is whole in the memory m
abbrev pub has_row : ℕ → List ℕ → ℕ → Bool
has_row width m i = leb (i * width + width) (length m)

-- number j of row i, 0 where there is no such row or number
unfoldable pub cell_of : ℕ → List ℕ → ℕ → ℕ → ℕ
cell_of width m i j = if has_row width m i && ltb j width then get_or m (i * width + j) 0 else 0

-- the first eight numbers of row i; no row has more
abbrev pub numbers_of : ℕ → List ℕ → ℕ → List ℕ
numbers_of width m i =
    let n = cell_of width m i in
    n 0 ∷ n 1 ∷ n 2 ∷ n 3 ∷ n 4 ∷ n 5 ∷ n 6 ∷ n 7 ∷ []

-- the memory m after a row was put into row i, unchanged where there is no such row
unfoldable pub put_row : ℕ → List ℕ → ℕ → List ℕ → List ℕ
put_row width m i cells = if has_row width m i then sets m (i * width) cells else m

-- how a kind of row is kept in memory: how many numbers a row takes, the numbers of a thing, and the thing again from
-- number 0, number 1, and so on
pub record Layout (R : Type 0) : Type 0 where
  pub width : ℕ
  pub cells : R → List ℕ
  pub read : (ℕ → ℕ) → R

-- the thing that row i of the memory m holds
abbrev pub row_at : {R : Type 0} → Layout R → List ℕ → ℕ → R
row_at l m i = l.read (cell_of l.width m i)
