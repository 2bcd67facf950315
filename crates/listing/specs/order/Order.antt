-- What is left of the lines of a position: the same lines, in byte order of their names.
use Rattle.std.specs.Prelude.{ℕ, ◌<◌, ◌≡◌, Bool, true, List, ◌++◌, length}
use Rattle.lent.specs.Lists.{sorted}
use Rattle.lent.specs.Members.{◌among◌}
use Rattle.lent.specs.Parts.{same_name, name_before}
use Rattle.listing_rules.specs.declared.Line.{Line}
use Rattle.listing_rules.specs.Listing.{line_numbers}

abbrev pub by_name : List ℕ → Line → Line → Bool
by_name library x y = name_before library x.name y.name

-- two lines of one name are one line
abbrev pub Apart : List ℕ → List Line → Type 0
Apart library lines = (x y : Line) → x among lines → y among lines → same_name library x.name y.name ≡ true → x ≡ y

-- n lines behind `from` others, and whatever follows: their grades are bytes, and no two of them share a name
pub record Region (library : List ℕ) (from n : ℕ) : Type 0 where
  pub done : List Line
  pub lines : List Line
  pub rest : List ℕ
  pub done-long : length done ≡ from
  pub long : length lines ≡ n
  pub small : (x : Line) → x among lines → x.grade < 256
  pub apart : Apart library lines

-- memory in which other lines stand in the region's place
abbrev pub memory : {library : List ℕ} {from n : ℕ} → Region library from n → List Line → List ℕ
memory r lines = line_numbers (r.done ++ lines) ++ r.rest

abbrev pub Orders : List ℕ → List ℕ → ℕ → ℕ → List ℕ → Type 0
Orders library m from n m' = (r : Region library from n) → m ≡ memory r r.lines → m' ≡ memory r (sorted (by_name library) r.lines)
