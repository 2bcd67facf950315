-- What a layout of named rows needs so that rows are found: a row is read back as it was put, and its key, name and
-- link stand where a search looks for them.
use Rattle.std.specs.Prelude.{◌≡◌, ℕ, ◌-◌, ◌≤◌, slice_index}
use Rattle.lent.specs.RowLaws.{Wide, Back}
use Rattle.tables.specs.by_name.Sheet.{Sheet}

pub record Reads {A R : Type 0} (s : Sheet A R) : Type 0 where
  pub wide : Wide s.layout
  pub back : (r : R) → Back s.layout r
  pub some : 4 ≤ s.layout.width
  pub keyed : (x : A) (link alike : ℕ) → slice_index (s.layout.cells (s.row x link alike)) 0 ≡ s.key x
  pub placed : (x : A) (link alike : ℕ) → slice_index (s.layout.cells (s.row x link alike)) 1 ≡ (s.name x).at
  pub long : (x : A) (link alike : ℕ) → slice_index (s.layout.cells (s.row x link alike)) 2 ≡ (s.name x).len
  pub leads : (x : A) (link alike : ℕ) → slice_index (s.layout.cells (s.row x link alike)) (s.layout.width - 1) ≡ alike
