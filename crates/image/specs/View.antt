-- The view of an image: its bytes as cells, with 256 for each byte that is withheld. All later
-- rules take the view, never the image. What is withheld is a cover: a list of stretches, which may overlap or be empty.
use Rattle.std.specs.Prelude.{ℕ, ◌+◌, Bool, ◌&&◌, List, [], ◌∷◌, map, nat_le, nat_lt, slice_index, if◌then◌else◌}
use Rattle.lent.specs.Lists.{any, numbered}
use Rattle.image.specs.declared.Stretch.{Stretch}

-- the place `at` lies in one stretch
abbrev pub in_one : Stretch → ℕ → Bool
in_one s at = nat_le s.start at && nat_lt at (s.start + s.len)

-- it is withheld if it lies in some stretch of the cover
abbrev pub within : List Stretch → ℕ → Bool
within s at = any (λ one. in_one one at) s

-- the cover that a list of numbers gives: start, length, start, length, ..; a start without a length gives no stretch
unfoldable pub stretches_in : List ℕ → List Stretch
stretches_in [] = []
stretches_in (start ∷ []) = []
stretches_in (start ∷ len ∷ rest) = record { start = start; len = len } ∷ stretches_in rest

-- the stretch that begins at number i of a list of numbers; numbers past its end are 0
abbrev pub pair_at : List ℕ → ℕ → Stretch
pair_at s i = record { start = slice_index s i; len = slice_index s (i + 1) }

-- the cell of a withheld byte
abbrev pub withheld : ℕ
withheld = 256

-- the cell for the image's byte at a place
abbrev pub seen : List Stretch → ℕ × ℕ → ℕ
seen s (at, byte) = if within s at then withheld else byte

-- the view: as long as the image, wherever the stretches lie
unfoldable pub view : List ℕ → List Stretch → List ℕ
view image s = map (seen s) (numbered 0 image)

-- the cell at a place, 0 past the end
abbrev pub cell_at : List ℕ → ℕ → ℕ
cell_at cells at = slice_index cells at

-- a cell is a byte, and not withheld
abbrev pub is_byte : ℕ → Bool
is_byte cell = nat_lt cell 256
