-- What is lent to the search, as its code holds it: a view of the image, and the lists in which the segments are stored.
use Rattle.std.specs.Prelude.{ℕ, List}
use Rattle.image.specs.View.{stretches_in, view}
use Rattle.segments.specs.Collect.{Collected}
use Rattle.segments.specs.recalled.Recall.{recalled_at, recalled}
use Rattle.search.specs.declared.View.{View}
use Rattle.search.specs.declared.StoredSegments.{StoredSegments}

-- what is seen of an image
abbrev pub seen : View → List ℕ
seen v = view v.image.now (stretches_in v.s.now)

-- the lists in which the segments are stored
pub record Stored : Type 0 where
  pub segments : List ℕ
  pub references : List ℕ
  pub symbols : List ℕ
  pub bytes : List ℕ
  pub masks : List ℕ

abbrev pub stored : List ℕ → List ℕ → List ℕ → List ℕ → List ℕ → Stored
stored segments references symbols bytes masks =
    record { segments = segments; references = references; symbols = symbols; bytes = bytes; masks = masks }

abbrev pub stored_in : StoredSegments → Stored
stored_in c = stored c.segments.now c.references.now c.symbols.now c.bytes.now c.masks.now

-- the segments of the first n rows
abbrev pub segments_in : Stored → ℕ → List Collected
segments_in t n = recalled t.segments t.references t.symbols t.bytes t.masks n

abbrev pub segment_at : Stored → ℕ → Collected
segment_at t i = recalled_at t.segments t.references t.symbols t.bytes t.masks i
