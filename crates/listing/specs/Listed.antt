-- The lines of all rows that a search left.
use Rattle.std.specs.Prelude.{ℕ, ◌≤◌, ◌≡◌, false, List, length}
use Rattle.lent.specs.Rows.{padded}
use Rattle.tables.specs.declared.fill.Fill.{Fill}
use Rattle.image.specs.declared.fixup.Rules.{Rules}
use Rattle.tables.specs.by_name.Sheet.{key_buckets}
use Rattle.search.specs.Fills.{Fitted}
use Rattle.listing_rules.specs.declared.Line.{Line}
use Rattle.listing_rules.specs.Listing.{SkipAmount, listing, line_width, line_numbers}
use Rattle.listing_rules.specs.FrontLines.{Front}
use Rattle.listing.specs.position.RowsAt.{Known, segments_of}

-- the list of rows that are known
abbrev pub list_of : List ℕ → SkipAmount → {rules : Rules} {library segments references : List ℕ} {n : ℕ} {placed positions noted goals : List ℕ} → Known rules library segments references n placed positions noted goals → List Line
list_of cells skip {library = library} k = listing library cells k.a skip (segments_of cells k) k.ps k.ns

-- memory that has lines in front has nothing behind them
abbrev pub Leaves : List ℕ → Fill → List ℕ → Type 0
Leaves m f m' = (lines : List Line) → Front lines m f → f.over ≡ false → m' ≡ padded (length m) (line_numbers lines)

-- memory after: all lines and then zeros, or they are too many for memory as it was
abbrev pub ListsRows : List ℕ → Rules → SkipAmount → List ℕ → List ℕ → ℕ → List ℕ → List ℕ → List ℕ → List ℕ → List ℕ → ℕ → List ℕ → List ℕ → Fill → Type 0
ListsRows cells rules skip library segments n references placed positions noted goals names m m' f =
    (k : Known rules library segments references n placed positions noted goals) → length k.ns ≡ names → length cells ≤ key_buckets
    → Fitted line_width (length (list_of cells skip k)) (line_numbers (list_of cells skip k)) m m' f
