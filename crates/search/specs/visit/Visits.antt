-- What matches leave in lent memory: the symbols that they place, and the names that their references note.
use Rattle.std.specs.Prelude.{◌≡◌, ℕ, ◌<◌, ◌≤◌, Bool, false, List, length}
use Rattle.lent.specs.Lists.{one, joined}
use Rattle.segments.specs.declared.SegmentNumber.{SegmentNumber}
use Rattle.segments.specs.declared.SegmentRow.{SegmentRow}
use Rattle.segments.specs.Collect.{Collected}
use Rattle.segments.specs.recalled.Recall.{recalled_by}
use Rattle.search_rules.specs.declared.Asked.{Asked}
use Rattle.search_rules.specs.Search.{Match, Placing, Noting, matches_of, all_matches, is_valid, notes, symbols_at}
pub use Rattle.search.specs.Store.{Stored, stored, segments_in, segment_at}
use Rattle.search.specs.place.PlacedSymbols.{Places}
use Rattle.search.specs.note.NotedNames.{Notes}
use Rattle.search.specs.depth.Depths.{Told, KeepsOut}
use Rattle.search.specs.declared.visit.Fills.{Fills}

-- what some matches place and note
module _ (cells : List ℕ) (a : Asked) (gs : List Collected) where
  abbrev pub placings : List Match → List Placing
  placings ms = joined (symbols_at cells a gs) ms

  abbrev pub notings : List Match → List Noting
  notings ms = joined (λ m. notes cells a m.segment m.position) ms

-- matches are visited: symbols are placed in an image of cells, and names noted
pub record Visits (cells : List ℕ) (a : Asked) (library : List ℕ) (gs : List Collected) (ms : List Match)
    (placed positions noted goals : List ℕ) (f : Fills) (placed' positions' noted' goals' : List ℕ) (f' : Fills) : Type 0 where
  pub places : Places library (length cells) (placings cells a gs ms) placed positions f.placed placed' positions' f'.placed
  pub notes : Notes library (notings cells a gs ms) noted goals f.noted noted' goals' f'.noted

-- a table tells the truth about the segments that are stored
abbrev pub ToldOf : List ℕ → Asked → Stored → ℕ → List ℕ → Type 0
ToldOf cells a t n m = Told cells a.rules t n m

-- a match of the segment of a row, if its validity is known; all matches of segment i; those of the first n
module _ (cells : List ℕ) (a : Asked) (library : List ℕ) (t : Stored) (n : ℕ) where
  abbrev pub segment_by : SegmentRow → Collected
  segment_by row = recalled_by t.segments t.references t.symbols t.bytes t.masks row

  abbrev pub match_of : SegmentNumber → SegmentRow → ℕ → Match
  match_of number row at = record { number = number.0; segment = segment_by row; position = at }

  -- at a depth above 1 it is known whether a reference of the match fails there; else nothing is said of it
  abbrev pub KnownDeep : SegmentRow → ℕ → Bool → Type 0
  KnownDeep row at deep =
      (1 < a.depth → KeepsOut cells a.rules t n a.depth at row.references deep) × (a.depth ≤ 1 → deep ≡ false)

  abbrev pub VisitsMatch : SegmentNumber → SegmentRow → Bool → ℕ → Bool → List ℕ → List ℕ → List ℕ → List ℕ → Fills → List ℕ → List ℕ → List ℕ → List ℕ → Fills → Type 0
  VisitsMatch number row valid at deep placed positions noted goals f placed' positions' noted' goals' f' =
      valid ≡ is_valid a (segment_by row) → KnownDeep row at deep → Visits cells a library (segments_in t n) (one (match_of number row at)) placed positions noted goals f placed' positions' noted' goals' f'

  abbrev pub VisitsSegment : ℕ → List ℕ → List ℕ → List ℕ → List ℕ → Fills → List ℕ → List ℕ → List ℕ → List ℕ → Fills → Type 0
  VisitsSegment i = Visits cells a library (segments_in t n) (matches_of cells (i, segment_at t i))

  abbrev pub VisitsAll : List ℕ → List ℕ → List ℕ → List ℕ → Fills → List ℕ → List ℕ → List ℕ → List ℕ → Fills → Type 0
  VisitsAll = Visits cells a library (segments_in t n) (all_matches cells (segments_in t n))
