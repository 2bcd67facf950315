-- `visit_match`: the references are gone over, and the symbols placed unless the match is kept out. Assumes nothing.
use Rattle.std.proofs.Common.{ℕ, List, map, length, sym, ◌∙◌, subst}
use Rattle.lent.specs.Lists.{one}
use Rattle.image.specs.View.{stretches_in}
use Rattle.search.specs.Store.{seen, stored_in}
use Rattle.search.specs.failed.FailureLaws.{failed_is}
use Rattle.image.proofs.ViewLaws.{view-length}
use Rattle.segments.specs.SegmentLayouts.{symbol_layout}
use Rattle.tables.specs.by_name.Tables.{table, Takes}
use Rattle.tables.specs.by_name.TakeLaws.{takes_none}
use Rattle.segments.specs.recalled.Recall.{rows_of}
use Rattle.search_rules.specs.Search.{place, note}
use Rattle.search_rules.specs.SearchRows.{placed_sheet, noted_sheet}
use Rattle.search.specs.place.PlacedSymbols.{placing_of}
use Rattle.search.specs.declared.visit.Fills.{Fills}
use Rattle.search.specs.visit.Visits.{Stored, segments_in, Visits, KnownDeep, match_of}
use Rattle.search.specs.depth.Depths.{KeepsOut}
use Rattle.search.specs.depth.DeepLaws.{kept-so}
use Rattle.search.specs.visit.VisitLaws.{match-notes, match-fails, match-passes}
use Rattle.search.proofs.visit.matched.visit_match.Goals as goal
use Rattle.search.proofs.visit.matched.visit_match.Goals.{After-is_err}

abbrev rows : (c : After-is_err) → Stored
rows c =
    stored_in c.args.store

abbrev cells : (c : After-is_err) → List ℕ
cells c =
    seen c.args.view

abbrev Left : (c : After-is_err) → List ℕ → List ℕ → List ℕ → List ℕ → Fills → Type 0
Left c =
    λ placed positions noted goals f. let a = c.args in Visits (cells c) a.asked a.library.now (segments_in (rows c) a.store.n)
    (one (match_of (cells c) a.asked a.library.now (rows c) a.store.n a.hit.number a.hit.row a.hit.at)) a.placed.now a.positions.now a.noted.now a.goals.now a.f placed positions noted goals f

pub returns-then-keeps_out : goal.returns-then-keeps_out
returns-then-keeps_out c =
    let kept : let a = c.args in KnownDeep (cells (goal.at.returns-then-keeps_out c).After-is_err) a.asked a.library.now
    (rows (goal.at.returns-then-keeps_out c).After-is_err) a.store.n a.hit.row a.hit.at a.deep → KeepsOut
    (cells (goal.at.returns-then-keeps_out c).After-is_err) a.asked.rules (stored_in a.store) a.store.n
    a.asked.depth a.hit.at a.hit.row.references c.keeps_out.result = λ deep. let a = c.args in
    let q = c.refer_all-referred in
    kept-so (cells (goal.at.returns-then-keeps_out c).After-is_err) a.asked.rules (stored_in a.store) a.store.n a.hit.at a.hit.row.references a.asked.depth a.deep deep.0 deep.1
    q.result.failed q.ensures.fails c.is_err.result (c.is_err.ensures.value ∙ failed_is q.result.failed) c.keeps_out.result c.keeps_out.ensures in
    let a = c.args in
    let q = c.refer_all-referred in
    λ known deep. subst ((Left (goal.at.returns-then-keeps_out c).After-is_err) a.placed.now a.positions.now q.new.noted
    q.new.heads) (sym c.fills.ensures) record {
      places =
          subst (λ xs. Takes placed_sheet a.library.now (place a.library.now (length (cells (goal.at.returns-then-keeps_out c).After-is_err))) xs
          (table a.placed.now a.positions.now a.f.placed) (table a.placed.now a.positions.now a.f.placed))
          (match-fails (cells (goal.at.returns-then-keeps_out c).After-is_err) a.asked a.library.now
          (rows (goal.at.returns-then-keeps_out c).After-is_err) a.store.n a.hit.number a.hit.row a.hit.valid a.hit.at known c.keeps_out.result (kept deep) c.if-keeps_out.true)
          (takes_none placed_sheet a.library.now (place a.library.now (length (cells (goal.at.returns-then-keeps_out c).After-is_err))) (table a.placed.now a.positions.now a.f.placed));
      notes =
          subst (λ xs. Takes noted_sheet a.library.now (note a.library.now) xs (table a.noted.now a.goals.now a.f.noted)
          (table q.new.noted q.new.heads q.result.fill))
          (match-notes (cells (goal.at.returns-then-keeps_out c).After-is_err) a.asked a.library.now (rows (goal.at.returns-then-keeps_out c).After-is_err) a.store.n a.hit.number a.hit.row a.hit.valid a.hit.at known)
          q.ensures.notes;
    }

pub returns : goal.returns
returns c =
    let kept : let a = c.args in KnownDeep (cells (goal.at.returns c).After-is_err) a.asked a.library.now
    (rows (goal.at.returns c).After-is_err) a.store.n a.hit.row a.hit.at a.deep → KeepsOut (cells (goal.at.returns c).After-is_err) a.asked.rules
    (stored_in a.store) a.store.n a.asked.depth a.hit.at a.hit.row.references c.keeps_out.result = λ deep. let a = c.args in
    let q = c.refer_all-referred in
    kept-so (cells (goal.at.returns c).After-is_err) a.asked.rules (stored_in a.store) a.store.n a.hit.at a.hit.row.references a.asked.depth a.deep deep.0 deep.1
    q.result.failed q.ensures.fails c.is_err.result (c.is_err.ensures.value ∙ failed_is q.result.failed) c.keeps_out.result c.keeps_out.ensures in
    let a = c.args in
    let q = c.refer_all-referred in
    let p = c.place_symbols-filled in
    λ known deep. subst ((Left (goal.at.returns c).After-is_err) p.new.placed p.new.heads
    q.new.noted q.new.heads) (sym c.fills-2.ensures) record {
      places =
          subst (λ xs. Takes placed_sheet a.library.now (place a.library.now (length (cells (goal.at.returns c).After-is_err))) xs
          (table a.placed.now a.positions.now a.f.placed) (table p.new.placed p.new.heads p.result))
          (match-passes (cells (goal.at.returns c).After-is_err) a.asked a.library.now (rows (goal.at.returns c).After-is_err) a.store.n a.hit.number
          a.hit.row a.hit.valid a.hit.at known c.keeps_out.result (kept deep) c.if-keeps_out.false)
          (subst (λ end. Takes placed_sheet a.library.now (place a.library.now end)
          (map (placing_of a.hit.number a.hit.at a.hit.valid) (rows_of symbol_layout a.store.symbols.now a.hit.row.symbols))
          (table a.placed.now a.positions.now a.f.placed)
          (table p.new.placed p.new.heads p.result)) (sym (view-length a.view.image.now (stretches_in a.view.s.now))) p.ensures);
      notes =
          subst (λ xs. Takes noted_sheet a.library.now (note a.library.now) xs (table a.noted.now a.goals.now a.f.noted)
          (table q.new.noted q.new.heads q.result.fill))
          (match-notes (cells (goal.at.returns c).After-is_err) a.asked a.library.now (rows (goal.at.returns c).After-is_err) a.store.n a.hit.number a.hit.row a.hit.valid a.hit.at known)
          q.ensures.notes;
    }
