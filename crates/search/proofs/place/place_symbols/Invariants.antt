-- `place_symbols` goes from row to row. The invariant: whoever places those that are left has placed all. Assumes nothing.
use Rattle.std.proofs.Common.{◌≡◌, ℕ, ◌≤◌, Bool, List, map, length}
use Rattle.lent.specs.declared.part.Part.{Part}
use Rattle.tables.specs.declared.fill.Fill.{Fill}
use Rattle.segments.specs.declared.SegmentNumber.{SegmentNumber}
use Rattle.segments.specs.SegmentLayouts.{symbol_layout}
use Rattle.tables.specs.by_name.Tables.{table, LeadsOn}
use Rattle.segments.proofs.recalled.RowsLaws.{rows_from}
use Rattle.search_rules.specs.Search.{Placing, place}
use Rattle.search_rules.specs.SearchRows.{placed_sheet}
use Rattle.search.specs.place.PlacedSymbols.{placing_of}
use Rattle.search.proofs.place.place_symbols.Given as goal

abbrev pub left : SegmentNumber → ℕ → Bool → List ℕ → Part → ℕ → List Placing
left number base valid symbols part k = map (placing_of number base valid) (rows_from symbol_layout symbols part k)

pub record Inv (library : List ℕ) (end : ℕ) (number : SegmentNumber) (base : ℕ) (valid : Bool) (symbols : List ℕ) (part : Part) (placed₀ heads₀ : List ℕ)
    (f₀ : Fill) (placed heads : List ℕ) (f : Fill) (k : ℕ) : Type 0 where
  pub within : k ≤ part.len
  pub long : length placed ≡ length placed₀
  pub heads-long : length heads ≡ length heads₀
  pub leads : LeadsOn placed_sheet library (place library end) (left number base valid symbols part k) (table placed heads f) (left number base valid symbols part 0) (table placed₀ heads₀ f₀)

abbrev pub invariant-loop-k : goal.invariant-loop-k
invariant-loop-k l =
    Inv l.library l.end l.number l.base l.valid l.symbols
    l.part l.initial.placed l.initial.heads l.initial.f l.placed l.heads l.f l.k
