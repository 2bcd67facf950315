-- The lines of rows of which it is known what they hold. Assumes nothing.
use Rattle.std.specs.Prelude.{ℕ, ◌<◌, ◌≡◌, true, ◌||◌, List, map, if◌then◌else◌}
use Rattle.std.proofs.Common.{subst}
use Rattle.lent.specs.Lists.{one, keep}
use Rattle.image.specs.declared.fixup.Rules.{Rules}
use Rattle.tables.specs.by_name.Sheet.{key_buckets, key_bucket}
use Rattle.search_rules.specs.declared.Placed.{Placed}
use Rattle.search_rules.specs.Search.{Placing, is_noted}
use Rattle.search_rules.specs.SearchRows.{placed_sheet}
use Rattle.listing_rules.specs.declared.Line.{Line}
use Rattle.listing_rules.specs.Listing.{grade}
use Rattle.listing.specs.grade.Grades.{row_grade}
use Rattle.listing.specs.grade.SoughtLaws.{grade-is}
use Rattle.listing.specs.position.Bests.{placed_lines}
use Rattle.listing.specs.position.RowsAt.{Known, segments_of, stays_at, line_of}
use Rattle.listing.specs.position.RowLines.{placed-within, placed-lines}

-- the lines that the code makes of a placed row
abbrev pub row_lines : List ℕ → Rules → List ℕ → List ℕ → ℕ → List ℕ → List ℕ → List ℕ → List ℕ → List ℕ → ℕ → Placed → List Line
row_lines cells rules library segments n references placed positions noted goals at row =
    placed_lines at (row_grade cells library rules segments references n placed positions noted goals row) row

module _ (cells : List ℕ) (rules : Rules) (library segments : List ℕ) (n : ℕ) (references placed positions noted goals : List ℕ) (k : Known rules library segments references n placed positions noted goals) (at : ℕ) where
  pub known-within : at < key_buckets → (p : Placing) → stays_at cells k at p ≡ true → key_bucket p.position ≡ at
  known-within small p e = placed-within library cells k.a (segments_of cells k) k.ps k.ns p at small e

  pub known-lines : (p : Placing) (link alike : ℕ) → row_lines cells rules library segments n references placed positions noted goals at (placed_sheet.row p link alike) ≡ map (line_of cells k) (keep (stays_at cells k at) (one p))
  known-lines p link alike =
      placed-lines library cells k.a (segments_of cells k) k.ps k.ns p at (row_grade cells library rules segments references n placed positions noted goals (placed_sheet.row p link alike)) link alike
      (subst (λ r. row_grade cells library r segments references n placed positions noted goals (placed_sheet.row p link alike) ≡ (if p.valid || is_noted library k.ns p.position p.name then grade library cells k.a (segments_of cells k) k.ps k.ns p else 0)) k.ruled
      (grade-is library cells k.a segments references k.symbols k.bytes k.masks n k.ps k.ns placed positions noted goals k.sought p link alike))
