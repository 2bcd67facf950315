-- The heads of the buckets: for each bucket of keys, and then for each of key and name, a link to its newest row, in numbers of 32 bits.
use Rattle.std.specs.Prelude.{◌≡◌, ℕ, ◌+◌, ◌*◌, ◌/◌, ◌%◌, ◌<◌, ◌≤◌, List, length, nat_lt, slice_index, slice_index_or, slice_set, if◌then◌else◌}
use Rattle.tables.specs.by_name.Sheet.{key_buckets, name_buckets, key_bucket}

-- how many heads there are
abbrev pub head_count : ℕ
head_count = key_buckets + name_buckets

-- a link below this stands in its head by itself; of another the head has the low 31 bits, and this added
abbrev pub near : ℕ
near = 2147483648

-- the link in head i; the upper bits of one that is not near stand behind all heads, where there are numbers behind them
unfoldable pub head_at : List ℕ → ℕ → ℕ
head_at heads i = let low = slice_index_or heads i 0 in if nat_lt low near then low else low % near + near * slice_index heads (head_count + i)

-- what stands in the head of a link
abbrev pub low_head : ℕ → ℕ
low_head link = if nat_lt link near then link else link % near + near

-- the heads after head i was made a link
unfoldable pub head_set : List ℕ → ℕ → ℕ → List ℕ
head_set heads i link = slice_set (slice_set heads i (low_head link)) (head_count + i) (link / near % 4294967296)

-- the heads after those of two buckets, one of each kind, were made links to a row
abbrev pub heads_with : List ℕ → ℕ → ℕ → ℕ → List ℕ
heads_with heads key bucket number = head_set (head_set heads (key_bucket key) number) (key_buckets + bucket) number

-- links below this fit a table of so many numbers
abbrev pub head_limit : ℕ → ℕ
head_limit numbers = if nat_lt numbers (head_count + head_count) then near else near * near

-- heads that lead nowhere yet, and fit links to the rows of a memory of so many numbers
pub record Blank (memory : ℕ) (heads : List ℕ) : Type 0 where
  pub room : head_count ≤ length heads
  pub fits : memory < head_limit (length heads)
  pub clear : (i : ℕ) → slice_index heads i ≡ 0
