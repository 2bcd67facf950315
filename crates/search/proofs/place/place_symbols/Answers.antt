use Rattle.std.proofs.Common.{◌+◌, ◌/◌, ◌≤◌, map, length, not, sym, refl, ap, ◌∙◌, subst, arith}
use Rattle.lent.specs.Lists.{one}
use Rattle.segments.specs.SegmentLayouts.{symbol_layout, symbol_at}
use Rattle.tables.specs.by_name.Tables.{table, Takes}
use Rattle.tables.specs.by_name.TakeLaws.{takes_none, leads-all, lead-on, all-taken}
use Rattle.segments.proofs.recalled.RowsLaws.{rows-past, rows_few, rows-within, rows-turn, rows_end}
use Rattle.search_rules.specs.Search.{place}
use Rattle.search_rules.specs.SearchRows.{placed_sheet}
use Rattle.search.specs.place.PlacedSymbols.{placing_of}
use Rattle.search.proofs.place.place_symbols.Goals as goal
use Rattle.search.proofs.place.place_symbols.Goals.{In-loop-k}
use Rattle.search.proofs.place.place_symbols.Invariants.{left}

fits : (c : In-loop-k) → c.args.part.at + c.args.part.len ≤ length c.args.symbols.now / 3
fits c =
    rows_few symbol_layout c.args.symbols.now c.args.part c.lies_within.result c.lies_within.ensures (ap not c.if-not-lies_within.false)

pub returns-then-not-lies_within : goal.returns-then-not-lies_within
returns-then-not-lies_within c =
    let a = c.args in
    subst (λ ys. Takes placed_sheet a.library.now (place a.library.now a.end) (map (placing_of a.number a.base a.valid) ys)
    (table a.placed.now a.heads.now a.before) (table a.placed.now a.heads.now a.before))
    (sym (rows-past symbol_layout a.symbols.now a.part c.lies_within.result c.lies_within.ensures (ap not c.if-not-lies_within.true)))
    (takes_none placed_sheet a.library.now (place a.library.now a.end) (table a.placed.now a.heads.now a.before))

pub loop-k-init : goal.loop-k-init
loop-k-init c =
    let a = c.args in
    record {
      within = omega arith;
      long = refl;
      heads-long = refl;
      leads = leads-all placed_sheet a.library.now (place a.library.now a.end)
          (left a.number a.base a.valid a.symbols.now a.part 0) (table a.placed.now a.heads.now a.before);
    }

pub overflow_add-part : goal.overflow_add-part
overflow_add-part c =
    omega (arith, c.loop-k-test.true, fits (goal.at.overflow_add-part c).In-loop-k, c.well_formed)

pub loop-k-preserved : goal.loop-k-preserved
loop-k-preserved c =
    let a = c.args in
    let l = c.loop-k in
    record {
      within = omega (arith, c.loop-k-test.true);
      long = c.place_symbol-f.auto.placed ∙ l.invariant.long;
      heads-long = c.place_symbol-f.auto.heads ∙ l.invariant.heads-long;
      leads =
          lead-on placed_sheet a.library.now (place a.library.now a.end)
          (one (placing_of a.number a.base a.valid (symbol_at a.symbols.now (a.part.at + l.k))))
          (left a.number a.base a.valid a.symbols.now a.part (l.k + 1)) (left a.number a.base a.valid a.symbols.now a.part 0)
          {t₀ = table a.placed.now a.heads.now a.before} {t = table l.placed l.heads l.f}
          {u = table c.place_symbol-f.new.placed c.place_symbol-f.new.heads c.place_symbol-f.result}
          (ap (map (placing_of a.number a.base a.valid)) (rows-turn symbol_layout a.symbols.now a.part l.k (omega (arith, c.loop-k-test.true))))
          (subst (λ y. Takes placed_sheet a.library.now (place a.library.now a.end) (one (placing_of a.number a.base a.valid y))
          (table l.placed l.heads l.f)
          (table c.place_symbol-f.new.placed c.place_symbol-f.new.heads
          c.place_symbol-f.result)) c.symbol_at-y.ensures c.place_symbol-f.ensures)
          l.invariant.leads;
    }

pub returns : goal.returns
returns c =
    let a = c.args in
    let l = c.loop-k in
    subst (λ ys. Takes placed_sheet a.library.now (place a.library.now a.end) (map (placing_of a.number a.base a.valid) ys)
    (table a.placed.now a.heads.now a.before) (table l.placed l.heads l.f))
    (sym (rows-within symbol_layout a.symbols.now a.part c.lies_within.result c.lies_within.ensures (ap not c.if-not-lies_within.false)))
    (all-taken placed_sheet a.library.now (place a.library.now a.end) (left a.number a.base a.valid a.symbols.now a.part 0)
    {t₀ = table a.placed.now a.heads.now a.before} {t = table l.placed l.heads l.f}
    (ap (map (placing_of a.number a.base a.valid)) (rows_end symbol_layout a.symbols.now a.part l.k (omega (arith, c.loop-k-test.false)))) l.invariant.leads)
