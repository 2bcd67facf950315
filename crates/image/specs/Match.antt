-- Where a pattern, bytes with masks, matches a view.
use Rattle.std.specs.Prelude.{◌≡◌, ℕ, ◌+◌, ◌≤◌, Bool, true, ◌&&◌, List, length, ◌==◌, bit_and, bit_xor, nat_le, slice_index}
use Rattle.lent.specs.Lists.{one, keep, all, from}
use Rattle.image.specs.declared.Seat.{Seat}
use Rattle.image.specs.declared.Seat.TheVariants.{Anywhere, Only}
use Rattle.image.specs.View.{cell_at, is_byte}

-- a cell is not withheld, and differs from the pattern byte in no bit of the mask
abbrev pub agrees : ℕ → ℕ → ℕ → Bool
agrees cell byte mask = is_byte cell && bit_and (bit_xor cell byte) mask == 0

-- all of the pattern fits at the place `at`, and each of its bytes agrees with the cell under it; a missing mask counts as 0
unfoldable pub matches_at : List ℕ → List ℕ → List ℕ → ℕ → Bool
matches_at cells bytes masks at =
    nat_le (at + length bytes) (length cells)
    && all (λ i. agrees (cell_at cells (at + i)) (slice_index bytes i) (slice_index masks i)) (from 0 (length bytes))

-- n bytes of the pattern from byte i on agree with the cells, if the pattern stands at `at`
abbrev pub part_agrees : List ℕ → List ℕ → List ℕ → ℕ → ℕ → ℕ → Bool
part_agrees cells bytes masks at i n = all (λ k. agrees (cell_at cells (at + k)) (slice_index bytes k) (slice_index masks k)) (from i n)

-- the first n bytes of a pattern at `at` can be compared: image, pattern bytes and masks reach that far
pub record Reaches (image bytes masks : List ℕ) (at n : ℕ) : Type 0 where
  pub cells : at + n ≤ length image
  pub bytes-long : n ≤ length bytes
  pub masks-long : n ≤ length masks

-- r is at most n, and the first r bytes of the pattern agree
pub record Agreeing (cells bytes masks : List ℕ) (at n r : ℕ) : Type 0 where
  pub inside : r ≤ n
  pub agree : part_agrees cells bytes masks at 0 r ≡ true

-- the places that are tried: all, up to the view's end itself (where only an empty pattern fits), or the address alone
abbrev pub tried : List ℕ → Seat → List ℕ
tried cells Anywhere = from 0 (length cells + 1)
tried cells (Only address) = one address

-- the positions of all matches of a pattern, ascending
unfoldable pub matches : List ℕ → Seat → List ℕ → List ℕ → List ℕ
matches cells seat bytes masks = keep (matches_at cells bytes masks) (tried cells seat)
