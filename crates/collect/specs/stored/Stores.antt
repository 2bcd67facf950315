-- What lent memory holds once segments are stored, and what it means that there is no room for them.
use Rattle.std.specs.Prelude.{ℕ, ◌*◌, ◌≤◌, ◌≡◌, List, ◌++◌, length}
use Rattle.lent.specs.Lists.{joined}
use Rattle.lent.specs.Rows.{padded}
use Rattle.tables.specs.fill.FilledRows.{Holds}
use Rattle.segments.specs.declared.Reference.{Reference}
use Rattle.segments.specs.declared.Symbol.{Symbol}
use Rattle.segments.specs.Collect.{Collected}
use Rattle.segments.specs.SegmentRows.{segment_rows, pattern_bytes, pattern_masks}
use Rattle.segments.specs.SegmentLayouts.{segment_layout, reference_layout, symbol_layout}
use Rattle.collect.specs.declared.stored.CollectCounts.{CollectCounts}
use Rattle.collect.specs.stored.Rows.{Stored}
use Rattle.std.specs.Prelude.{Ok, Err}
use Rattle.collect.specs.stored.Rows.{filled_to}

-- the lists that are lent to the collection
pub record CollectLists : Type 0 where
  pub segments : List ℕ
  pub references : List ℕ
  pub symbols : List ℕ
  pub bytes : List ℕ
  pub masks : List ℕ

-- all references, and all symbols, of segments
abbrev pub references_in : List Collected → List Reference
references_in gs = joined (λ g. g.references) gs

abbrev pub symbols_in : List Collected → List Symbol
symbols_in gs = joined (λ g. g.symbols) gs

-- there is room for segments
pub record Room (gs : List Collected) (l : CollectLists) : Type 0 where
  pub segments : length gs * 8 ≤ length l.segments
  pub references : length (references_in gs) * 6 ≤ length l.references
  pub symbols : length (symbols_in gs) * 3 ≤ length l.symbols
  pub bytes : length (pattern_bytes gs) ≤ length l.bytes
  pub masks : length (pattern_masks gs) ≤ length l.masks

-- pattern memory holds bytes, and then zeros
pub record Padded (xs m : List ℕ) : Type 0 where
  pub room : length xs ≤ length m
  pub memory : m ≡ padded (length m) xs

-- segments are stored, and so many rows and bytes are taken
pub record Stores (gs : List Collected) (l : CollectLists) (c : CollectCounts) : Type 0 where
  pub segments : Holds segment_layout (segment_rows gs) l.segments (filled_to c.segments)
  pub references : Holds reference_layout (references_in gs) l.references (filled_to c.references)
  pub symbols : Holds symbol_layout (symbols_in gs) l.symbols (filled_to c.symbols)
  pub bytes : Padded (pattern_bytes gs) l.bytes
  pub masks : Padded (pattern_masks gs) l.masks
  pub pattern : c.pattern ≡ length (pattern_bytes gs)
  pub even : length (pattern_masks gs) ≡ length (pattern_bytes gs)

abbrev pub After : List Collected → CollectLists → Stored → Type 0
After gs l (Ok c) = Stores gs l c
After gs l (Err e) = Room gs l → ⊥

-- whatever was stored before, these are stored behind it, or there is no room for all
abbrev pub Extends : List Collected → CollectLists → CollectCounts → CollectLists → Stored → Type 0
Extends new l c after w = (gs : List Collected) → Stores gs l c → After (gs ++ new) after w

-- lent lists keep their lengths
pub record SameLengths (l after : CollectLists) : Type 0 where
  pub segments : length after.segments ≡ length l.segments
  pub references : length after.references ≡ length l.references
  pub symbols : length after.symbols ≡ length l.symbols
  pub bytes : length after.bytes ≡ length l.bytes
  pub masks : length after.masks ≡ length l.masks
