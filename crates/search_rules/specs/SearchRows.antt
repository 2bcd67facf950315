-- The numbers that the lent lists of the search hold. Each row has two links, by which rows are
-- found without looking at all of them.
use Rattle.std.specs.Prelude.{ℕ, List, [], ◌∷◌, eqb}
use Rattle.lent.specs.Lists.{joined}
use Rattle.lent.specs.Rows.{Layout, flag}
use Rattle.tables.specs.by_name.Sheet.{Sheet, linked}
use Rattle.search_rules.specs.declared.Placed.{Placed}
use Rattle.search_rules.specs.declared.Noted.{Noted}
use Rattle.search_rules.specs.Search.{Placing, Noting}

-- how many numbers the row of a placed symbol has
abbrev pub placed_width : ℕ
placed_width = 8

-- how many numbers the row of a noted name has
abbrev pub noted_width : ℕ
noted_width = 6

-- the row of a placed symbol: position, place and length of its name, whether it is valid, its
-- match's segment and position, two links
abbrev pub placed_cells : Placed → List ℕ
placed_cells r =
    r.position ∷ r.name.at ∷ r.name.len ∷ flag r.valid ∷ r.segment.0 ∷ r.base ∷ r.link ∷ r.alike ∷ []

-- the row of a noted name: target, place and length of the name, whether it is valid, two links
abbrev pub noted_cells : Noted → List ℕ
noted_cells r = r.target ∷ r.name.at ∷ r.name.len ∷ flag r.valid ∷ r.link ∷ r.alike ∷ []

-- how rows of placed symbols are kept and read back: any numbers make a row, which is valid if its flag is 1
abbrev pub placed_layout : Layout Placed
placed_layout = record {
  width = placed_width;
  cells = placed_cells;
  read = λ n. record {
    position = n 0;
    name = record { at = n 1; len = n 2 };
    valid = eqb (n 3) 1;
    segment = record { 0 = n 4 };
    base = n 5;
    link = n 6;
    alike = n 7;
  };
}

-- how rows of noted names are kept and read back, likewise
abbrev pub noted_layout : Layout Noted
noted_layout = record {
  width = noted_width;
  cells = noted_cells;
  read = λ n. record { target = n 0; name = record { at = n 1; len = n 2 }; valid = eqb (n 3) 1; link = n 4; alike = n 5 };
}

-- placed symbols as a table of named things: the key is the position
abbrev pub placed_sheet : Sheet Placing Placed
placed_sheet = record {
  layout = placed_layout;
  key = λ p. p.position;
  name = λ p. p.name;
  row = λ p link alike. record {
    position = p.position;
    name = p.name;
    valid = p.valid;
    segment = record { 0 = p.segment };
    base = p.base;
    link = link;
    alike = alike;
  };
}

-- noted names as a table of named things: the key is the target
abbrev pub noted_sheet : Sheet Noting Noted
noted_sheet = record {
  layout = noted_layout;
  key = λ n. n.target;
  name = λ n. n.name;
  row = λ n link alike. record { target = n.target; name = n.name; valid = n.valid; link = link; alike = alike };
}

-- all numbers of the lent rows of placed symbols
unfoldable pub placed_numbers : List ℕ → List Placing → List ℕ
placed_numbers library rows = joined placed_cells (linked placed_sheet library rows)

-- all numbers of the lent rows of noted names
unfoldable pub noted_numbers : List ℕ → List Noting → List ℕ
noted_numbers library rows = joined noted_cells (linked noted_sheet library rows)
