-- The search has one outcome, by its contract alone: the answer, and each lent list; so has clearing them. Assumes nothing.
use Rattle.std.specs.Prelude.{◌≡◌, ℕ, ◌||◌, List, length}
use Rattle.std.proofs.Common.{sym, ◌∙◌}
use Rattle.lent.specs.OneOutcome.{Determines, by-equation}
use Rattle.tables.specs.by_name.Heads.{Blank}
use Rattle.search_rules.specs.declared.Asked.{Asked}
use Rattle.search.specs.declared.visit.Fills.{Fills}
use Rattle.search.specs.Outcome.{SearchLists, SearchOutcome, search_zeroed, Searches}

-- with blank heads, whichever heads are left
pub search-one : (cells : List ℕ) (a : Asked) (library : List ℕ) (n : ℕ) (l : SearchLists) (positions goals : List ℕ) → Blank (length l.placed) positions → Blank (length l.noted) goals
    → {o p : SearchOutcome} {positions₁ goals₁ positions₂ goals₂ : List ℕ} → Searches cells a library n l positions goals o positions₁ goals₁ → Searches cells a library n l positions goals p positions₂ goals₂ → o ≡ p
search-one cells a library n l positions goals b c x y = (x b c).same ∙ sym (y b c).same

pub lacks-room-one : (f : Fills) → Determines (λ r. r ≡ (f.placed.over || f.noted.over))
lacks-room-one f = by-equation (f.placed.over || f.noted.over)

pub clear-all-one : (l : SearchLists) → Determines (λ exit. exit ≡ search_zeroed l)
clear-all-one l = by-equation (search_zeroed l)
