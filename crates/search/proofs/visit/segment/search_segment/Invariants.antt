-- `search_segment` goes from match to match. The invariant: whoever visits those that are left has visited all. Assumes nothing.
use Rattle.std.proofs.Common.{◌≡◌, ℕ, List, map, length}
use Rattle.image.specs.declared.Stretch.{Stretch}
use Rattle.image.specs.View.{stretches_in, view}
use Rattle.segments.specs.declared.SegmentRow.{SegmentRow}
use Rattle.search.specs.declared.matches.MatchCursor.{MatchCursor}
use Rattle.search.specs.matches.Cursor.{places_left, Sound}
use Rattle.search_rules.specs.declared.Asked.{Asked}
use Rattle.search.specs.declared.visit.Fills.{Fills}
use Rattle.search.specs.Store.{seen, stored_in}
use Rattle.search.specs.visit.Visits.{Stored, segments_in, ToldOf}
use Rattle.search.specs.visit.SegmentLaws.{match_at}
use Rattle.search.specs.Store.{seen, stored_in}
use Rattle.search.specs.visit.VisitsLeft.{Leading}
use Rattle.search.proofs.visit.segment.search_segment.Given as goal

pub record Inv (image : List ℕ) (s : List Stretch) (asked : Asked) (library : List ℕ) (t : Stored) (n i : ℕ) (told₀ placed₀ positions₀ noted₀ goals₀ : List ℕ)
    (row : SegmentRow) (f₀ : Fills) (pattern masked : List ℕ) (c₀ : MatchCursor)
    (told placed positions noted goals : List ℕ) (f : Fills) (c : MatchCursor) : Type 0 where
  pub told-long : length told ≡ length told₀
  pub truth : ToldOf (view image s) asked t n told
  pub placed-long : length placed ≡ length placed₀
  pub positions-long : length positions ≡ length positions₀
  pub noted-long : length noted ≡ length noted₀
  pub goals-long : length goals ≡ length goals₀
  pub sound : Sound image pattern masked c
  pub leads : Leading (view image s) asked library (segments_in t n) (map (match_at (view image s) asked library t n i row) (places_left (view image s) pattern masked c₀)) placed₀ positions₀ noted₀ goals₀ f₀
      (map (match_at (view image s) asked library t n i row) (places_left (view image s) pattern masked c)) placed positions noted goals f

abbrev pub invariant-loop-at : goal.invariant-loop-at
invariant-loop-at l =
    Inv l.view.image.now (stretches_in l.view.s.now) l.asked l.library (stored_in l.store) l.store.n l.i l.initial.told l.initial.placed l.initial.positions l.initial.noted
    l.initial.goals l.row l.initial.f l.pattern l.masked l.initial.left l.told l.placed l.positions l.noted l.goals l.f l.left

abbrev pub decreases-loop-at : goal.decreases-loop-at
decreases-loop-at l =
    length (places_left (seen l.view) l.pattern l.masked l.left)
