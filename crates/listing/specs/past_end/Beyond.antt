-- Names noted at or past the image's end, target by target.
use Rattle.std.specs.Prelude.{ℕ, ◌+◌, ◌-◌, ◌*◌, ◌%◌, ◌≤◌, ◌<◌, ◌≡◌, Bool, true, false, ◌&&◌, ◌||◌, List, [], ◌++◌, map, eqb, length, take, drop, if◌then◌else◌}
use Rattle.lent.specs.Lists.{keep, joined, from}
use Rattle.lent.specs.Rows.{cell_of, put_row}
use Rattle.tables.specs.declared.fill.Fill.{Fill}
use Rattle.tables.specs.by_name.Sheet.{key_buckets}
use Rattle.tables.specs.by_name.Heads.{head_at}
use Rattle.tables.specs.by_name.Tables.{table, Tabled}
use Rattle.search_rules.specs.declared.Noted.{Noted}
use Rattle.search_rules.specs.Search.{Noting}
use Rattle.search_rules.specs.SearchRows.{noted_width, noted_sheet}
use Rattle.listing_rules.specs.Listing.{SkipAmount, noted_line, crowded, leftovers, line_width, line_cells, line_numbers}
use Rattle.listing_rules.specs.declared.Line.{Line}
use Rattle.listing_rules.specs.FrontLines.{Extends}

-- the name that a row notes, and the target of row k
abbrev pub noting_of : Noted → Noting
noting_of r = record { target = r.target; name = r.name; valid = r.valid }

abbrev pub target_at : List ℕ → ℕ → ℕ
target_at noted k = cell_of noted_width noted k 0

-- what is sought at a target: all names, or the valid ones
abbrev pub sought : ℕ → Bool → Noting → Bool
sought t all n = eqb n.target t && (all || n.valid)

-- the lines of one target, and of so many targets from one on
unfoldable pub lines_of : SkipAmount → List Noting → ℕ → List Line
lines_of skip ns t = if crowded skip (length (keep (sought t true) ns)) then [] else map noted_line (keep (sought t false) ns)

abbrev pub spanned : SkipAmount → List Noting → ℕ → ℕ → List Line
spanned skip ns first last = joined (lines_of skip ns) (from first (last - first + 1))

-- one that is not below either of two; one that takes the place of a higher one, but is not below a bound
pub record Higher (a b r : ℕ) : Type 0 where
  pub first : a ≤ r
  pub second : b ≤ r

pub record Lower (bound least t r : ℕ) : Type 0 where
  pub not-less : bound ≤ least → bound ≤ r
  pub first : r ≤ least
  pub second : bound ≤ t → r ≤ t

-- no target among n rows is past this one; none that is at or past a bound is before it
abbrev pub NonePast : List ℕ → ℕ → ℕ → Type 0
NonePast noted n top = (k : ℕ) → k < n → target_at noted k ≤ top

pub record NoneBefore (noted : List ℕ) (n bound top t : ℕ) : Type 0 where
  pub not-less : bound ≤ top → bound ≤ t
  pub least : (k : ℕ) → k < n → bound ≤ target_at noted k → t ≤ target_at noted k

-- where a link leads on to: to an earlier row, or nowhere
pub record Onward (here link next : ℕ) : Type 0 where
  pub less : (here ≡ 0 → ⊥) → next < here
  pub same : link < here → next ≡ link

-- these names are noted in memory, by those heads
pub record NotedBy (noted goals : List ℕ) (ns : List Noting) : Type 0 where
  pub library : List ℕ
  pub n : ℕ
  pub tabled : Tabled noted_sheet library ns (table noted goals (record { rows = n; over = false }))

-- and this is the head of a target's bucket
pub record HeadedBy (noted : List ℕ) (t head : ℕ) (ns : List Noting) : Type 0 where
  pub goals : List ℕ
  pub rows : NotedBy noted goals ns
  pub head-is : head ≡ head_at goals (t % key_buckets)

-- what is counted along a bucket
abbrev pub Counts : List ℕ → ℕ → ℕ → Bool → ℕ → Type 0
Counts noted head t all r = (ns : List Noting) → HeadedBy noted t head ns → r ≡ length (keep (sought t all) ns)

-- a row's name is written before row k, if it is sought
pub record WritesOne (row : Noted) (t : ℕ) (m : List ℕ) (k : ℕ) (m' : List ℕ) (r : ℕ) : Type 0 where
  pub one_less : sought t false (noting_of row) ≡ true → 0 < k → r + 1 ≡ k
  pub written : sought t false (noting_of row) ≡ true → 0 < k → m' ≡ put_row line_width m (k - 1) (line_cells (noted_line (noting_of row)))
  pub none-less : sought t false (noting_of row) ≡ false → r ≡ k
  pub unchanged : sought t false (noting_of row) ≡ false → m' ≡ m

-- lines stand in memory in front of row `end`, and all else is as it was
abbrev pub Wrote : List Line → ℕ → ℕ → List ℕ → List ℕ → Type 0
Wrote new k end m m' = m' ≡ take (k * line_width) m ++ (line_numbers new ++ drop (end * line_width) m)

-- the valid names of a target are written in front of row `end`
abbrev pub WritesAll : List ℕ → ℕ → ℕ → ℕ → List ℕ → List ℕ → Type 0
WritesAll noted head t end m m' =
    (ns : List Noting) → HeadedBy noted t head ns → length (keep (sought t false) ns) ≤ end → end * line_width ≤ length m
    → Wrote (map noted_line (keep (sought t false) ns)) (end - length (keep (sought t false) ns)) end m m'

-- the lines of a target are added, by its bucket's head; those of one target, and of all from one on to another
abbrev pub ListsBucket : List ℕ → ℕ → ℕ → SkipAmount → List ℕ → Fill → List ℕ → Fill → Type 0
ListsBucket noted head t skip m f m' r = (ns : List Noting) → HeadedBy noted t head ns → f.over ≡ false → Extends (lines_of skip ns t) m f m' r

abbrev pub ListsTarget : List ℕ → List ℕ → ℕ → SkipAmount → List ℕ → Fill → List ℕ → Fill → Type 0
ListsTarget noted goals t skip m f m' r = (ns : List Noting) → NotedBy noted goals ns → Extends (lines_of skip ns t) m f m' r

abbrev pub ListsSpan : List ℕ → List ℕ → ℕ → ℕ → SkipAmount → List ℕ → Fill → List ℕ → Fill → Type 0
ListsSpan noted goals first last skip m f m' r = (ns : List Noting) → NotedBy noted goals ns → Extends (spanned skip ns first last) m f m' r

-- all lines at or past the end are added
abbrev pub ListsBeyond : List ℕ → ℕ → List ℕ → ℕ → SkipAmount → List ℕ → Fill → List ℕ → Fill → Type 0
ListsBeyond noted n goals end skip m f m' r =
    (library : List ℕ) (ns : List Noting) → length ns ≡ n → Tabled noted_sheet library ns (table noted goals (record { rows = n; over = false }))
    → Extends (leftovers end skip ns) m f m' r
