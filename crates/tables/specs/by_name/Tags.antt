-- What a search looks at in a row (its tag), and which rows it passes.
use Rattle.std.specs.Prelude.{◌≡◌, ℕ, ◌+◌, ◌-◌, ◌*◌, ◌/◌, ◌<◌, ◌≤◌, Bool, not, ◌&&◌, List, length, ◌==◌, ◌≢◌, slice_index}
use Rattle.lent.specs.declared.part.Part.{Part}
use Rattle.lent.specs.Parts.{bytes_of}
use Rattle.lent.specs.Rows.{cell_of}
use Rattle.tables.specs.by_name.Tables.{followed}
use Rattle.tables.specs.declared.by_name.Tag.{Tag}

abbrev pub tag_at : ℕ → List ℕ → ℕ → Tag
tag_at width m i = let n = cell_of width m i in record { key = n 0; name = record { at = n 1; len = n 2 }; next = n (width - 1) }

-- a name of this length can't have the bytes wanted, by their number alone; no bytes are wanted of any length, since a
-- name that passes the library's end has none
abbrev pub other_length : ℕ → ℕ → Bool
other_length len wanted = not (wanted == 0) && not (len == wanted)

-- so many rows are whole in memory, and if there is one, a row is wide enough for a key and a name
pub record Whole (width : ℕ) (m : List ℕ) (rows : ℕ) : Type 0 where
  pub whole : rows ≤ length m / width
  pub wide : 0 < rows → 3 ≤ width

-- the name of the row whose numbers start at a place
abbrev pub named_at : List ℕ → ℕ → Part
named_at m at = record { at = slice_index m (at + 1); len = slice_index m (at + 2) }

-- that row has this key, and its name's length does not rule out a name of so many bytes
abbrev pub may_be : List ℕ → ℕ → ℕ → ℕ → Bool
may_be m at key wanted = not (other_length (slice_index m (at + 2)) wanted) && slice_index m at == key

-- rows from `link` on are passed up to `r`: whichever name of so many bytes is sought with this key, the way from `link` comes
-- to what the way from `r` comes to
pub record Passes (width : ℕ) (m : List ℕ) (key wanted link r : ℕ) : Type 0 where
  pub near : r ≤ link
  pub right : (library : List ℕ) (name : Part) → length (bytes_of library name) ≡ wanted → followed library width m key name link ≡ followed library width m key name r

-- up to a row that has the key, if there is one
pub record Stops (width : ℕ) (m : List ℕ) (key wanted link r : ℕ) : Type 0 where
  pub passed : Passes width m key wanted link r
  pub keyed : (r ≢ 0) → slice_index m ((r - 1) * width) ≡ key
