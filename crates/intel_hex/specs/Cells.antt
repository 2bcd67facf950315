-- The memory of an import as the code keeps it: a cell for each address, 0 where nothing was given, else 256 and the byte.
use Rattle.std.specs.Prelude.{ℕ, ◌+◌, ◌%◌, ◌≤◌, ◌≡◌, Bool, Result, Ok, Err, List, [], ◌∷◌, map, eqb, length, get_or, set, replicate, if◌then◌else◌}
use Rattle.std.proofs.Math.Option.{Option, none, some}
use Rattle.std.specs.Int.Bits.{bit_or}
use Rattle.lent.specs.Lists.{from}
use Rattle.intel_hex.specs.Import.{Memory, image_of, walk}
use Rattle.intel_hex.specs.Outcome.{Made, made, refused}
use Rattle.intel_hex.specs.declared.HexRefusal.{HexRefusal}

-- cells of which none was given; this does not unfold by itself, since so many would take the checker too long
unfoldable pub no_cells : List ℕ
no_cells = replicate 65536 0

-- what a cell says
abbrev pub cell_byte : ℕ → Option ℕ
cell_byte c = if eqb c 0 then none else some (c % 256)

abbrev pub byte_in : ℕ → ℕ
byte_in c = if eqb c 0 then 0xFF else c % 256

unfoldable pub memory_in : List ℕ → Memory
memory_in cells k = cell_byte (get_or cells k 0)

unfoldable pub image_in : List ℕ → ℕ → List ℕ
image_in cells end = map (λ k. byte_in (get_or cells k 0)) (from 0 end)

-- bytes are noted from an address on, with what stood in their cells; then, whether nothing stood there
unfoldable pub taken : ℕ → List ℕ → ℕ → List ℕ → Bool × List ℕ
taken seen cells address [] = (eqb seen 0, cells)
taken seen cells address (b ∷ bytes) = taken (bit_or seen (get_or cells address 0)) (set cells address (256 + b)) (address + 1) bytes

-- what an answer and the cells come to
abbrev pub made_in : Result ℕ HexRefusal → List ℕ → Made
made_in (Ok end) cells = made (image_of (memory_in cells) end)
made_in (Err r) cells = refused r

-- how far the image reaches
abbrev pub end_in : Result ℕ HexRefusal → ℕ
end_in (Ok end) = end
end_in (Err r) = 0

-- reading a text into cells: they and the answer come to what the text does, and the image ends within them
pub record Noted (text before after : List ℕ) (r : Result ℕ HexRefusal) : Type 0 where
  pub same : made_in r after ≡ walk text (length text + 1) 0 (memory_in before) 0
  pub within : end_in r ≤ 65536
