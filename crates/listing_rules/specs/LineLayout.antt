-- How a line is read back. Any numbers make a line: of a grade's number the low 8 bits count.
use Rattle.std.specs.Prelude.{ℕ, ◌%◌, List}
use Rattle.lent.specs.Rows.{Layout, row_at}
use Rattle.listing_rules.specs.declared.Line.{Line}
use Rattle.listing_rules.specs.Listing.{line_width, line_cells}

abbrev pub line_layout : Layout Line
line_layout = record {
  width = line_width;
  cells = line_cells;
  read = λ n. record { address = n 0; grade = n 1 % 256; name = record { at = n 2; len = n 3 } };
}

-- row i
abbrev pub line_at : List ℕ → ℕ → Line
line_at m i = row_at line_layout m i
