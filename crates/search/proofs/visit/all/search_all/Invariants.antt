-- `search_all` goes from segment to segment. The invariant: whoever searches those that are left has searched all. Assumes nothing.
use Rattle.std.proofs.Common.{◌≡◌, ℕ, ◌-◌, ◌≤◌, List, length}
use Rattle.lent.specs.Lists.{joined, from}
use Rattle.search_rules.specs.declared.Asked.{Asked}
use Rattle.search.specs.declared.visit.Fills.{Fills}
use Rattle.search.specs.Store.{seen, stored_in}
use Rattle.search.specs.visit.Visits.{Stored, segments_in, ToldOf}
use Rattle.search.specs.visit.VisitLaws.{matches_by}
use Rattle.search.specs.Store.{seen, stored_in}
use Rattle.search.specs.visit.VisitsLeft.{Leading}
use Rattle.search.proofs.visit.all.search_all.Given as goal

pub record Inv (cells : List ℕ) (asked : Asked) (library : List ℕ) (t : Stored) (n : ℕ) (told₀ placed₀ positions₀ noted₀ goals₀ : List ℕ) (f₀ : Fills)
    (told placed positions noted goals : List ℕ) (f : Fills) (i : ℕ) : Type 0 where
  pub within : i ≤ n
  pub told-long : length told ≡ length told₀
  pub truth : ToldOf cells asked t n told
  pub placed-long : length placed ≡ length placed₀
  pub positions-long : length positions ≡ length positions₀
  pub noted-long : length noted ≡ length noted₀
  pub goals-long : length goals ≡ length goals₀
  pub leads : Leading cells asked library (segments_in t n) (joined (matches_by cells t) (from 0 (n - 0))) placed₀ positions₀ noted₀ goals₀ f₀
      (joined (matches_by cells t) (from i (n - i))) placed positions noted goals f

abbrev pub invariant-loop-i : goal.invariant-loop-i
invariant-loop-i l =
    Inv (seen l.view) l.asked l.library (stored_in l.store) l.store.n l.initial.told l.initial.placed l.initial.positions l.initial.noted l.initial.goals l.initial.f l.told l.placed l.positions l.noted l.goals l.f l.i
