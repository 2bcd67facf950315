-- Flags of blocks of 256 places: which are set, and where none is.
use Rattle.std.specs.Prelude.{ℕ, ◌+◌, ◌*◌, ◌/◌, ◌<◌, ◌≤◌, ◌^◌, ◌≡◌, List, length, get_or}
use Rattle.tables.specs.links.Index.{key_at, link_from, Linked}
use Rattle.segment_parts.specs.declared.symbols_by_offset.flags.Blocks.{Blocks}

abbrev pub Clear : List ℕ → Type 0
Clear flags = (b : ℕ) → get_or flags b 0 ≡ 0

abbrev pub no_blocks : Blocks
no_blocks = record { low = 4294967296; high = 0 }

-- a block is flagged, and lies within
pub record Flagged (flags : List ℕ) (s : Blocks) (b : ℕ) : Type 0 where
  pub one : get_or flags b 0 ≡ 1
  pub from : s.low ≤ b
  pub below : b < s.high

-- no flag lies outside
pub record Bounds (flags : List ℕ) (s : Blocks) : Type 0 where
  pub before : (b : ℕ) → b < s.low → get_or flags b 0 ≡ 0
  pub behind : (b : ℕ) → s.high ≤ b → get_or flags b 0 ≡ 0
  pub low_small : s.low ≤ 2 ^ 32
  pub high_small : s.high ≤ 2 ^ 32

-- more flags, and none less
pub record Grows (flags : List ℕ) (s : Blocks) (flags' : List ℕ) (s' : Blocks) : Type 0 where
  pub long : length flags' ≡ length flags
  pub bounds : Bounds flags s → Bounds flags' s'
  pub keeps : (b : ℕ) → Flagged flags s b → Flagged flags' s' b

pub record FlagsBlock (b : ℕ) (flags : List ℕ) (s : Blocks) (flags' : List ℕ) (s' : Blocks) : Type 0 where
  pub grows : Grows flags s flags' s'
  pub flagged : b < length flags → Flagged flags' s' b

-- there is a flag for the block of each key
abbrev pub Wide : List ℕ → List ℕ → Type 0
Wide keys flags = length keys ≤ 256 * length flags

-- from the link of a key on, the blocks of all its places
pub record FlagsAlong (link : ℕ) (next flags : List ℕ) (s : Blocks) (flags' : List ℕ) (s' : Blocks) : Type 0 where
  pub grows : Grows flags s flags' s'
  pub met : (keys first : List ℕ) (v : ℕ) → Linked keys 0 first next → Wide keys flags → link ≡ link_from keys v 0
      → (j : ℕ) → j < length keys → key_at keys j ≡ v → Flagged flags' s' (j / 256)

-- of all keys from `at` up to an end, which is not one of them
abbrev pub Covers : List ℕ → ℕ → ℕ → List ℕ → Blocks → Type 0
Covers keys at end flags s = (j : ℕ) → j < length keys → at ≤ key_at keys j → key_at keys j < end → Flagged flags s (j / 256)

abbrev pub Words : List ℕ → Type 0
Words keys = (j : ℕ) → j < length keys → key_at keys j < 65536

pub record FlagsInside (at len : ℕ) (first next flags flags' : List ℕ) (s : Blocks) : Type 0 where
  pub grows : Grows flags no_blocks flags' s
  pub met : (keys : List ℕ) → Linked keys 0 first next → Wide keys flags → Words keys → Covers keys at (at + len) flags' s

-- all flags are 0 again
pub record Clears (s : Blocks) (flags flags' : List ℕ) : Type 0 where
  pub long : length flags' ≡ length flags
  pub clear : Bounds flags s → Clear flags'
