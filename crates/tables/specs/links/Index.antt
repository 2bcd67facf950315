-- The index of a list of keys: the first place of each key, and for each place the next place of the same key, as links.
use Rattle.std.specs.Prelude.{◌≡◌, ℕ, ◌+◌, ◌<◌, ◌≤◌, List, length, take, ◌≢◌, nat_eq, slice_index}
use Rattle.tables.specs.links.First.{first_in, link_to}
use Rattle.tables.specs.links.Things.{keys_of, places_of, next_of}

abbrev pub key_at : List ℕ → ℕ → ℕ
key_at keys i = slice_index keys i

-- the link to the first place of a key at or after the place `from`
abbrev pub link_from : List ℕ → ℕ → ℕ → ℕ
link_from keys key from = link_to (first_in (λ j. nat_eq (key_at keys j) key) from (length keys))

-- tables in which the places from i on are linked; all keys are below `bound`
pub record LinkedIn (bound : ℕ) (keys : List ℕ) (i : ℕ) (first next : List ℕ) : Type 0 where
  pub heads : bound ≤ length first
  pub room : length keys ≤ length next
  pub starts : (key : ℕ) → key < bound → slice_index first key ≡ link_from keys key i
  pub follows : (j : ℕ) → i ≤ j → j < length keys → slice_index next j ≡ link_from keys (key_at keys j) (j + 1)

abbrev pub Linked : List ℕ → ℕ → List ℕ → List ℕ → Type 0
Linked keys i first next = LinkedIn 65536 keys i first next

-- the first n of these things can be linked: there are heads, and nothing is linked
pub record Ready (things : List ℕ) (n : ℕ) (first : List ℕ) : Type 0 where
  pub within : n ≤ length things
  pub few : n < 268435456
  pub heads : 65536 ≤ length first
  pub clear : (key : ℕ) → key < 65536 → slice_index first key ≡ 0

-- of the first n things those from i on are linked, and all keys and places are as they were
pub record LinkedThings (things₀ : List ℕ) (n i : ℕ) (things first : List ℕ) : Type 0 where
  pub keys : keys_of things ≡ keys_of things₀
  pub places : places_of things ≡ places_of things₀
  pub linked : Linked (take n (keys_of things₀)) i first (next_of things)

-- the heads of the first n keys are 0, and all other heads are as they were
pub record ClearedTo (keys : List ℕ) (n : ℕ) (before after : List ℕ) : Type 0 where
  pub long : length after ≡ length before
  pub those : (j : ℕ) → j < n → slice_index after (key_at keys j) ≡ 0
  pub others : (key : ℕ) → ((j : ℕ) → j < n → key_at keys j ≢ key) → slice_index after key ≡ slice_index before key

abbrev pub Cleared : List ℕ → List ℕ → List ℕ → Type 0
Cleared keys before after = ClearedTo keys (length keys) before after
