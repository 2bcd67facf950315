-- The index of an image's bytes: the first place of each byte, and for each place the next place with the same byte, as links.
use Rattle.std.specs.Prelude.{◌≡◌, ℕ, ◌+◌, ◌<◌, ◌≤◌, List, length, slice_index}
use Rattle.tables.specs.links.Index.{key_at, link_from}

-- the first places; behind them stand counts, of which nothing is said
pub record Heads (image first : List ℕ) : Type 0 where
  pub room : 512 ≤ length first
  pub starts : (byte : ℕ) → byte < 256 → slice_index first byte ≡ link_from image byte 0

-- the next places
pub record Nexts (image next : List ℕ) : Type 0 where
  pub room : length image ≤ length next
  pub follows : (j : ℕ) → j < length image → slice_index next j ≡ link_from image (key_at image j) (j + 1)

pub record Indexed (image first next : List ℕ) : Type 0 where
  pub heads : Heads image first
  pub nexts : Nexts image next

-- tables with room, in which nothing is linked
pub record Ready (image first next : List ℕ) : Type 0 where
  pub few : length image ≤ 65536
  pub heads : 512 ≤ length first
  pub room : length image ≤ length next
  pub clear : (byte : ℕ) → byte < 256 → slice_index first byte ≡ 0
