-- The pieces of the printed list as the code measures and writes them.
use Rattle.std.specs.Prelude.{ℕ, ◌+◌, ◌-◌, ◌≤◌, ◌≡◌, List, [], ◌++◌, map, eqb, length, take, Some, None, if◌then◌else◌}
use Rattle.std.specs.Prelude.{Option as Optional}
use Rattle.lent.specs.Lists.{from, joined}
use Rattle.describe.specs.Describe.{text, describe}
use Rattle.listing_rules.specs.LineLayout.{line_at}
use Rattle.listing_rules.specs.Print.{column, hex, bracketed, remark, printed_line}

-- the two columns that have a width
unfoldable pub address_column : ℕ → List ℕ
address_column address = column 7 (text "0x" ++ hex address)

unfoldable pub name_column : ℕ → List ℕ → List ℕ
name_column grade name = column 22 (bracketed grade name)

-- what stands before a name, and what behind it
abbrev pub opening : ℕ → ℕ
opening grade = if eqb grade 0 then 0x28 else if eqb grade 1 then 0x5B else 0x20

abbrev pub closing : ℕ → ℕ
closing grade = if eqb grade 0 then 0x29 else if eqb grade 1 then 0x5D else 0x20

-- what a description written into a buffer makes: its length, the remark, and the remark's length
abbrev pub held_in : Optional ℕ → ℕ
held_in None = 0
held_in (Some n) = n

abbrev pub remark_in : Optional ℕ → List ℕ → List ℕ
remark_in None words = []
remark_in (Some n) words = text " " ++ take n words

abbrev pub size_in : Optional ℕ → ℕ
size_in None = 0
size_in (Some n) = n + 1

-- a buffer holds the description of a name, which is no more than the buffer has
pub record Held (name : List ℕ) (r : Optional ℕ) (words : List ℕ) : Type 0 where
  pub same : remark (describe name) ≡ remark_in r words
  pub within : held_in r ≤ length words
  pub short : held_in r ≤ 88

-- the lines from row i on, printed
unfoldable pub lines_from : List ℕ → List ℕ → ℕ → ℕ → List ℕ
lines_from library m n i = joined (printed_line library) (map (line_at m) (from i (n - i)))
