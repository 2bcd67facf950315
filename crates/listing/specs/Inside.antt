-- The lines of the image's positions, ascending.
use Rattle.std.specs.Prelude.{ℕ, ◌≤◌, List, length}
use Rattle.lent.specs.Lists.{joined, from}
use Rattle.tables.specs.declared.fill.Fill.{Fill}
use Rattle.image.specs.declared.fixup.Rules.{Rules}
use Rattle.tables.specs.by_name.Sheet.{key_buckets}
use Rattle.listing_rules.specs.declared.Line.{Line}
use Rattle.listing_rules.specs.Listing.{SkipAmount, lines_at}
use Rattle.listing_rules.specs.FrontLines.{Extends}
use Rattle.listing.specs.position.RowsAt.{Known, segments_of}

module _ (cells : List ℕ) {rules : Rules} {library segments references : List ℕ} {n : ℕ} {placed positions noted goals : List ℕ} (k : Known rules library segments references n placed positions noted goals) (skip : SkipAmount) where
  abbrev pub lines_of : ℕ → List Line
  lines_of at = lines_at library cells k.a (segments_of cells k) k.ps k.ns skip at

  -- those of so many positions from one on
  abbrev pub lines_from : ℕ → ℕ → List Line
  lines_from at count = joined lines_of (from at count)

abbrev pub ListsInside : List ℕ → Rules → SkipAmount → List ℕ → List ℕ → ℕ → List ℕ → List ℕ → List ℕ → List ℕ → List ℕ → List ℕ → Fill → List ℕ → Fill → Type 0
ListsInside cells rules skip library segments n references placed positions noted goals m f m' f' =
    (k : Known rules library segments references n placed positions noted goals) → length cells ≤ key_buckets → Extends (lines_from cells k skip 0 (length cells)) m f m' f'
