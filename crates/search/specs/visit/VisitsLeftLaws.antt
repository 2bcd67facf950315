-- Matches are gone over one after another. Assumes nothing.
use Rattle.std.specs.Prelude.{◌≡◌, ℕ, List, [], ◌++◌, length}
use Rattle.std.proofs.Common.{ap, ◌∙◌}
use Rattle.lent.specs.ListLaws.{joined-append, joined_end}
use Rattle.segments.specs.Collect.{Collected}
use Rattle.tables.specs.by_name.Tables.{table}
use Rattle.tables.specs.by_name.TakeLaws.{leads-all, lead-on, all-taken}
use Rattle.search_rules.specs.declared.Asked.{Asked}
use Rattle.search_rules.specs.Search.{Match, notes, symbols_at, place, note}
use Rattle.search_rules.specs.SearchRows.{placed_sheet, noted_sheet}
use Rattle.search.specs.declared.visit.Fills.{Fills}
use Rattle.search.specs.visit.Visits.{placings, notings, Visits}
use Rattle.search.specs.visit.VisitsLeft.{Leading}

module _ (cells : List ℕ) (a : Asked) (library : List ℕ) (gs : List Collected) (all : List Match) (placed₀ positions₀ noted₀ goals₀ : List ℕ) (f₀ : Fills) where
  abbrev On : List Match → List ℕ → List ℕ → List ℕ → List ℕ → Fills → Type 0
  On = Leading cells a library gs all placed₀ positions₀ noted₀ goals₀ f₀

  pub leading-starts : On all placed₀ positions₀ noted₀ goals₀ f₀
  leading-starts = record {
    places = leads-all placed_sheet library (place library (length cells)) (placings cells a gs all) (table placed₀ positions₀ f₀.placed);
    notes = leads-all noted_sheet library (note library) (notings cells a gs all) (table noted₀ goals₀ f₀.noted);
  }

  module _ {left : List Match} (placed positions noted goals : List ℕ) (f : Fills) (l : On left placed positions noted goals f) where
    pub leading-on : (ms rest : List Match) (placed' positions' noted' goals' : List ℕ) (f' : Fills) → left ≡ ms ++ rest
        → Visits cells a library gs ms placed positions noted goals f placed' positions' noted' goals' f' → On rest placed' positions' noted' goals' f'
    leading-on ms rest placed' positions' noted' goals' f' e v = record {
      places =
          lead-on placed_sheet library (place library (length cells)) (placings cells a gs ms) (placings cells a gs rest) (placings cells a gs all) {t₀ = table placed₀ positions₀ f₀.placed} {t = table placed positions f.placed} {u = table placed' positions' f'.placed}
          (ap (placings cells a gs) e ∙ joined-append (symbols_at cells a gs) ms rest) v.places l.places;
      notes =
          lead-on noted_sheet library (note library) (notings cells a gs ms) (notings cells a gs rest) (notings cells a gs all) {t₀ = table noted₀ goals₀ f₀.noted} {t = table noted goals f.noted} {u = table noted' goals' f'.noted}
          (ap (notings cells a gs) e ∙ joined-append (λ m. notes cells a m.segment m.position) ms rest) v.notes l.notes;
    }

    pub leading-ends : left ≡ [] → Visits cells a library gs all placed₀ positions₀ noted₀ goals₀ f₀ placed positions noted goals f
    leading-ends e = record {
      places = all-taken placed_sheet library (place library (length cells)) (placings cells a gs all) {t₀ = table placed₀ positions₀ f₀.placed} {t = table placed positions f.placed} (joined_end (symbols_at cells a gs) e) l.places;
      notes = all-taken noted_sheet library (note library) (notings cells a gs all) {t₀ = table noted₀ goals₀ f₀.noted} {t = table noted goals f.noted} (joined_end (λ m. notes cells a m.segment m.position) e) l.notes;
    }
