-- The lines of a position, once all of its names were met: put in order behind those in front, or left out.
use Rattle.std.specs.Prelude.{ℕ, ◌<◌, ◌≡◌, List, [], ◌++◌, length, if◌then◌else◌}
use Rattle.lent.specs.Lists.{sorted}
use Rattle.lent.specs.Members.{◌among◌}
use Rattle.tables.specs.declared.fill.Fill.{Fill}
use Rattle.image.specs.declared.fixup.Rules.{Rules}
use Rattle.tables.specs.by_name.Sheet.{key_buckets}
use Rattle.listing_rules.specs.declared.Line.{Line}
use Rattle.listing_rules.specs.Listing.{SkipAmount, best, crowded, lines_at}
use Rattle.listing_rules.specs.FrontLines.{Front, Extends}
use Rattle.listing.specs.order.Order.{by_name, Apart}
use Rattle.listing.specs.declared.position.Best.{Best}
use Rattle.listing.specs.position.Bests.{Bests}
use Rattle.listing.specs.position.RowsAt.{Known, segments_of}

abbrev pub listed : List ℕ → SkipAmount → List Line → List Line
listed library skip all = if crowded skip (length (best all)) then [] else sorted (by_name library) (best all)

abbrev pub Finishes : List ℕ → SkipAmount → List ℕ → ℕ → Best → List ℕ → Fill → Type 0
Finishes library skip m from b m' f =
    (lines all : List Line) → length lines ≡ from → Bests lines all m b → Apart library (best all) → ((x : Line) → x among best all → x.grade < 256)
    → Front (lines ++ listed library skip all) m' f

-- the lines of one position of an image
abbrev pub ListsAt : List ℕ → Rules → SkipAmount → List ℕ → List ℕ → ℕ → List ℕ → List ℕ → List ℕ → List ℕ → List ℕ → ℕ → List ℕ → Fill → List ℕ → Fill → Type 0
ListsAt cells rules skip library segments n references placed positions noted goals at m f m' f' =
    (k : Known rules library segments references n placed positions noted goals) → at < key_buckets
    → Extends (lines_at library cells k.a (segments_of cells k) k.ps k.ns skip at) m f m' f'
