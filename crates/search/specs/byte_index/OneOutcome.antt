-- The index of an image's bytes has one outcome, by the contract alone. Assumes nothing.
use Rattle.std.specs.Prelude.{◌≡◌, ℕ, ◌<◌, List, length, slice_index}
use Rattle.tables.specs.links.OneOutcome.{link-one}
use Rattle.search.specs.byte_index.Index.{Indexed}
use Rattle.search.specs.byte_index.IndexLaws.{linked-all}

-- `index`: the head of each byte, and the link of each place
pub index-one : (image first next first' next' : List ℕ) → Indexed image first next → Indexed image first' next'
    → ((byte : ℕ) → byte < 256 → slice_index first byte ≡ slice_index first' byte) × ((j : ℕ) → j < length image → slice_index next j ≡ slice_index next' j)
index-one image first next first' next' p q = link-one image first next first' next' (linked-all p) (linked-all q)
