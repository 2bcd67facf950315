-- Grades of names, and the list: names by address.
use Rattle.std.specs.Prelude.{ℕ, max, Bool, false, not, ◌&&◌, ◌||◌, List, [], ◌∷◌, ◌++◌, map, eqb, leb, ltb, length, get_or, Option, Some, None, if◌then◌else◌}
use Rattle.lent.specs.Lists.{keep, joined, fold, all, from, sorted}
use Rattle.lent.specs.Parts.{name_before}
use Rattle.image.specs.declared.Seat.TheVariants.{Anywhere}
use Rattle.segments.specs.Collect.{Collected}
use Rattle.search_rules.specs.declared.Asked.{Asked}
use Rattle.search_rules.specs.Search.{Placing, Noting, notes, is_noted, is_placed}
use Rattle.listing_rules.specs.declared.Line.{Line}

-- the line of a noted name, with grade 0
abbrev pub noted_line : Noting → Line
noted_line n = record { address = n.target; grade = 0; name = n.name }

-- the best grade of some lines
unfoldable pub best_grade : List Line → ℕ
best_grade lines = fold (λ g l. max g l.grade) 0 lines

-- the lines that have the best grade
unfoldable pub best : List Line → List Line
best lines = keep (λ l. eqb l.grade (best_grade lines)) lines

-- the skip amount, if there is one
abbrev pub SkipAmount : Type 0
SkipAmount = Option ℕ

-- n names are more than the skip amount
abbrev pub crowded : SkipAmount → ℕ → Bool
crowded None n = false
crowded (Some amount) n = ltb amount n

-- the empty segment, for a number that no segment has
abbrev pub no_segment : Collected
no_segment = record { seat = Anywhere; bytes = []; masks = []; references = []; symbols = [] }

-- for a library, the cells of a view, what is asked, the segments, and what the search placed and noted: a placed
-- symbol is borne out if each name that its match noted is placed at the target noted; its grade is 1 if it is not
-- borne out, else 3 if its name is noted at its position, and 2 if not
module _ (library cells : List ℕ) (a : Asked) (segments : List Collected) (placed : List Placing) (noted : List Noting) where
  -- every public reference that the symbol's match noted names a symbol placed at the target
  abbrev pub borne_out : Placing → Bool
  borne_out p =
      all (λ n. is_placed library placed n.target n.name) (notes cells a (get_or segments p.segment no_segment) p.base)

  -- 1 if some such reference fails this; otherwise 3 if the name is noted there, 2 if not
  unfoldable pub grade : Placing → ℕ
  grade p = if not (borne_out p) then 1 else if is_noted library noted p.position p.name then 3 else 2

  -- the names at a position: a symbol neither valid nor noted there is dropped
  abbrev pub stays : ℕ → Placing → Bool
  stays at p = eqb p.position at && (p.valid || is_noted library noted at p.name)

  abbrev pub placed_line : Placing → Line
  placed_line p = record { address = p.position; grade = grade p; name = p.name }

  unfoldable pub graded_at : ℕ → List Line
  graded_at at =
      map placed_line (keep (stays at) placed)
      ++ map noted_line (keep (λ n. eqb n.target at && n.valid) noted)

  -- only the best grade is listed, in byte order; with more such names than the skip amount the position is left out
  unfoldable pub lines_at : SkipAmount → ℕ → List Line
  lines_at skip at =
      let lines = best (graded_at at) in
      if crowded skip (length lines) then [] else sorted (λ x y. name_before library x.name y.name) lines

-- a noted name is listed past the image: its target is at or past the image's end, it is valid, and its target has no
-- more names than the skip amount, where all names noted at the target count, valid or not
abbrev pub is_leftover : ℕ → SkipAmount → List Noting → Noting → Bool
is_leftover end skip noted n =
    leb end n.target && n.valid && not (crowded skip (length (keep (λ q. eqb q.target n.target) noted)))

-- the lines past the image: by target, ascending, and at one target as the names were first noted
unfoldable pub leftovers : ℕ → SkipAmount → List Noting → List Line
leftovers end skip noted = map noted_line (sorted (λ x y. ltb x.target y.target) (keep (is_leftover end skip noted) noted))

-- the list: the lines of all positions of the image, and then those past its end
unfoldable pub listing : List ℕ → List ℕ → Asked → SkipAmount → List Collected → List Placing → List Noting → List Line
listing library cells a skip segments placed noted =
    joined (lines_at library cells a segments placed noted skip) (from 0 (length cells)) ++ leftovers (length cells) skip noted

-- how many numbers the row of a line has
abbrev pub line_width : ℕ
line_width = 4

-- the row of a line: address, grade, place and length of the name
abbrev pub line_cells : Line → List ℕ
line_cells l = l.address ∷ l.grade ∷ l.name.at ∷ l.name.len ∷ []

-- all numbers of the lent rows of lines
unfoldable pub line_numbers : List Line → List ℕ
line_numbers lines = joined line_cells lines
