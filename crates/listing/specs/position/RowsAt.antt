-- Going over the rows of a position, from the newest row of its bucket to the oldest.
use Rattle.std.specs.Prelude.{ℕ, ◌+◌, ◌/◌, ◌≤◌, ◌<◌, ◌≡◌, Bool, false, ◌&&◌, List, ◌++◌, map, eqb, length, drop}
use Rattle.lent.specs.Lists.{keep}
use Rattle.image.specs.declared.fixup.Rules.{Rules}
use Rattle.segments.specs.Collect.{Collected}
use Rattle.tables.specs.by_name.Sheet.{Sheet, key_buckets}
use Rattle.tables.specs.by_name.Tables.{table, Tabled}
use Rattle.tables.specs.by_name.ChainLaws.{Stands}
use Rattle.segments.specs.recalled.Recall.{recalled}
use Rattle.search_rules.specs.declared.Asked.{Asked}
use Rattle.search_rules.specs.Search.{Placing, Noting}
use Rattle.search_rules.specs.SearchRows.{noted_sheet}
use Rattle.listing_rules.specs.declared.Line.{Line}
use Rattle.listing_rules.specs.Listing.{noted_line, placed_line, stays}
use Rattle.listing_rules.specs.FrontLines.{Fronts}
use Rattle.search.specs.Fills.{Sought}
use Rattle.listing.specs.declared.position.Best.{Best}
use Rattle.listing.specs.position.Bests.{Bests}

-- so far: the rows of a bucket from the newest back to a link were gone over, and the lines of those that pass were met, in front
-- of some that had been met before
pub record Walked {A R : Type 0} (s : Sheet A R) (library : List ℕ) (xs : List A) (bucket : ℕ) (q : A → Bool) (line : A → Line)
    (lines before : List Line) (here : ℕ) (m : List ℕ) (b : Best) : Type 0 where
  pub stands : Stands s library xs bucket here
  pub bests : Bests lines (map line (keep q (drop here xs)) ++ before) m b

-- the valid names noted at a position
abbrev pub noted_at_it : ℕ → Noting → Bool
noted_at_it at n = eqb n.target at && n.valid

pub record WalksNoted (noted goals : List ℕ) (at from : ℕ) (m m' : List ℕ) (r : Best) : Type 0 where
  pub few : r.count ≤ length noted / 6
  pub walked : (library : List ℕ) (ns : List Noting) (lines : List Line) → Tabled noted_sheet library ns (table noted goals (record { rows = length ns; over = false }))
      → at < key_buckets → length lines ≡ from → Fronts lines m → Bests lines (map noted_line (keep (noted_at_it at) ns)) m' r

-- what is known of the rows: which symbols and names they are of, and by which settings and segments they came
pub record Known (rules : Rules) (library segments references : List ℕ) (n : ℕ) (placed positions noted goals : List ℕ) : Type 0 where
  pub a : Asked
  pub ruled : a.rules ≡ rules
  pub symbols : List ℕ
  pub bytes : List ℕ
  pub masks : List ℕ
  pub ps : List Placing
  pub ns : List Noting
  pub sought : Sought library ps ns placed positions noted goals

module _ (cells : List ℕ) {rules : Rules} {library segments references : List ℕ} {n : ℕ} {placed positions noted goals : List ℕ} (k : Known rules library segments references n placed positions noted goals) where
  abbrev pub segments_of : List Collected
  segments_of = recalled segments references k.symbols k.bytes k.masks n

  -- a symbol stays at a position, and its line
  abbrev pub stays_at : ℕ → Placing → Bool
  stays_at at p = stays library cells k.a segments_of k.ps k.ns at p

  abbrev pub line_of : Placing → Line
  line_of p = placed_line library cells k.a segments_of k.ps k.ns p

-- the symbols placed there, with their grades
pub record WalksPlaced (cells : List ℕ) (rules : Rules) (library segments : List ℕ) (n : ℕ) (references placed positions noted goals : List ℕ) (at from : ℕ)
    (m : List ℕ) (b : Best) (m' : List ℕ) (r : Best) : Type 0 where
  pub few : r.count ≤ b.count + length placed / 8
  pub walked : (k : Known rules library segments references n placed positions noted goals) (lines before : List Line) → at < key_buckets → length lines ≡ from
      → Bests lines before m b → Bests lines (map (line_of cells k) (keep (stays_at cells k at) k.ps) ++ before) m' r
