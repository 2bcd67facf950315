-- The rows of the search, read from memory by their numbers.
use Rattle.std.specs.Prelude.{ℕ, List}
use Rattle.lent.specs.Rows.{row_at}
use Rattle.search_rules.specs.declared.Placed.{Placed}
use Rattle.search_rules.specs.declared.Noted.{Noted}
use Rattle.search_rules.specs.SearchRows.{placed_layout, noted_layout}

abbrev pub placed_at : List ℕ → ℕ → Placed
placed_at m i = row_at placed_layout m i

abbrev pub noted_at : List ℕ → ℕ → Noted
noted_at m i = row_at noted_layout m i
