-- Which lines are in the list, and which of two lines comes first: the words in which the laws of the list are put.
use Rattle.std.specs.Prelude.{ℕ, ◌≤◌, ◌<◌, ◌≡◌, true, false, ◌||◌, List, eqb, length}
use Rattle.lent.specs.Lists.{keep}
use Rattle.lent.specs.Members.{◌among◌}
use Rattle.lent.specs.Parts.{same_name, name_before}
use Rattle.segments.specs.Collect.{Collected}
use Rattle.search_rules.specs.declared.Asked.{Asked}
use Rattle.search_rules.specs.Search.{Placing, Noting, is_noted}
use Rattle.listing_rules.specs.Listing.{SkipAmount, noted_line, best, crowded, placed_line, graded_at}
use Rattle.listing_rules.specs.declared.Line.{Line}
use Rattle.listing_rules.specs.Earlier.{Earlier}

-- for a library, the cells of a view, what is asked, a skip amount, the segments, and what the search placed and noted
module _ (library cells : List ℕ) (a : Asked) (skip : SkipAmount) (segments : List Collected) (placed : List Placing) (noted : List Noting) where
  -- a line of a position is shown: no line there has a better grade, and the lines of the best grade are no more than the skip amount
  pub record Shown (at : ℕ) (l : Line) : Type 0 where
    pub top : (k : Line) → k among graded_at library cells a segments placed noted at → k.grade ≤ l.grade
    pub few : crowded skip (length (best (graded_at library cells a segments placed noted at))) ≡ false

  -- the line of a symbol that is placed inside the image, is valid or noted there, and is shown
  pub record OfSymbol (l : Line) : Type 0 where
    pub p : Placing
    pub there : p among placed
    pub inside : p.position < length cells
    pub counts : (p.valid || is_noted library noted p.position p.name) ≡ true
    pub line-is : l ≡ placed_line library cells a segments placed noted p
    pub shown : Shown p.position l

  -- the line of a valid name that is noted inside the image, and is shown
  pub record OfName (l : Line) : Type 0 where
    pub n : Noting
    pub there : n among noted
    pub inside : n.target < length cells
    pub valid : n.valid ≡ true
    pub line-is : l ≡ noted_line n
    pub shown : Shown n.target l

  -- the line of a valid name that is noted at the image's end or past it, where no more names are noted than the skip amount, valid or not
  pub record PastEnd (l : Line) : Type 0 where
    pub n : Noting
    pub there : n among noted
    pub past : length cells ≤ n.target
    pub valid : n.valid ≡ true
    pub few : crowded skip (length (keep (λ q. eqb q.target n.target) noted)) ≡ false
    pub line-is : l ≡ noted_line n

  pub data Listed (l : Line) : Type 0 where
    of_symbol : OfSymbol l → Listed l
    of_name : OfName l → Listed l
    past_end : PastEnd l → Listed l

-- no name is placed twice at one position, or noted twice at one target
abbrev pub PlacedOnce : List ℕ → List Placing → Type 0
PlacedOnce library placed = (p q : Placing) → Earlier p q placed → p.position ≡ q.position → same_name library p.name q.name ≡ false

abbrev pub NotedOnce : List ℕ → List Noting → Type 0
NotedOnce library noted = (n k : Noting) → Earlier n k noted → n.target ≡ k.target → same_name library n.name k.name ≡ false

-- two lines of noted names, of which the first was noted first
pub record NotedFirst (noted : List Noting) (x y : Line) : Type 0 where
  pub n : Noting
  pub k : Noting
  pub first : Earlier n k noted
  pub x-is : x ≡ noted_line n
  pub y-is : y ≡ noted_line k

-- of two lines the first comes first: addresses ascend; at one address inside the image the first name is before the
-- second in byte order; at one address past it the first name was noted first
pub record InOrder (library : List ℕ) (end : ℕ) (noted : List Noting) (x y : Line) : Type 0 where
  pub ascending : x.address ≤ y.address
  pub by_name : x.address ≡ y.address → y.address < end → name_before library x.name y.name ≡ true
  pub by-noting : x.address ≡ y.address → end ≤ y.address → NotedFirst noted x y
