-- Lent memory while the names of a position are gone over: behind the lines in front stand those of the best grade so far.
use Rattle.std.specs.Prelude.{ℕ, ◌+◌, ◌*◌, ◌≤◌, ◌≡◌, not, ◌&&◌, List, [], ◌++◌, reverse, eqb, length, if◌then◌else◌}
use Rattle.lent.specs.Lists.{one}
use Rattle.search_rules.specs.declared.Placed.{Placed}
use Rattle.search_rules.specs.declared.Noted.{Noted}
use Rattle.listing_rules.specs.declared.Line.{Line}
use Rattle.listing_rules.specs.Listing.{best_grade, best, line_width}
use Rattle.listing_rules.specs.FrontLines.{Fronts}
use Rattle.listing.specs.declared.position.Best.{Best}

-- some stand behind the lines in front, as far as there is room
pub record Region (lines ls : List Line) (m : List ℕ) : Type 0 where
  pub front : Fronts lines m
  pub whole : length (lines ++ ls) * line_width ≤ length m → Fronts (lines ++ ls) m

-- the best of all that were met are counted, and stand there from the last to the first, since links lead from the newest row to the oldest
pub record Bests (lines all : List Line) (m : List ℕ) (b : Best) : Type 0 where
  pub count : b.count ≡ length (best all)
  pub grade : b.grade ≡ best_grade all
  pub region : Region lines (reverse (best all)) m

-- new ones are met, one at most
pub record Meets (from : ℕ) (new : List Line) (m : List ℕ) (b : Best) (m' : List ℕ) (b' : Best) : Type 0 where
  pub few : b'.count ≤ b.count + 1
  pub met : (lines all : List Line) → length lines ≡ from → Bests lines all m b → Bests lines (new ++ all) m' b'

-- the line of a noted row, if it is valid and has the target; and of a placed one with its grade, if it stands there and is not dropped
abbrev pub noted_lines : ℕ → Noted → List Line
noted_lines at row = if eqb row.target at && row.valid then one (record { address = at; grade = 0; name = row.name }) else []

abbrev pub placed_lines : ℕ → ℕ → Placed → List Line
placed_lines at grade row = if eqb row.position at && not (eqb grade 0) then one (record { address = at; grade = grade; name = row.name }) else []
