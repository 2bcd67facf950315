-- Whatever byte is the anchor, a search starts with the same matches and steps through them alike, by the contracts alone. Assumes nothing.
use Rattle.std.specs.Prelude.{◌≡◌, ℕ, List, [], ◌∷◌, Option, Some, None}
use Rattle.std.proofs.Common.{sym, ◌∙◌}
use Rattle.image.specs.declared.Seat.{Seat}
use Rattle.image.specs.declared.Stretch.{Stretch}
use Rattle.image.specs.View.{view}
use Rattle.search.specs.declared.matches.MatchCursor.{MatchCursor}
use Rattle.search.specs.declared.matches.Next.{Next}
use Rattle.search.specs.matches.Cursor.{places_left, Started, Stepped}

-- `start`: the matches left
pub start-one : (image : List ℕ) (seat : Seat) (bytes masks : List ℕ) (a b : MatchCursor) → Started image seat bytes masks a → Started image seat bytes masks b
    → (s : List Stretch) → places_left (view image s) bytes masks a ≡ places_left (view image s) bytes masks b
start-one image seat bytes masks a b p q s = p.all s ∙ sym (q.all s)

-- `next_place`: the match and those left after it
abbrev leaves : List ℕ → List ℕ → List ℕ → Option Next → List ℕ
leaves cells bytes masks (Some m) = m.at ∷ places_left cells bytes masks m.rest
leaves cells bytes masks None = []

module _ (image : List ℕ) (s : List Stretch) (bytes masks : List ℕ) (c : MatchCursor) where
  stepped-leaves : (r : Option Next) → Stepped image s bytes masks c r → places_left (view image s) bytes masks c ≡ leaves (view image s) bytes masks r
  stepped-leaves (Some m) p = p.places
  stepped-leaves None p = p

  pub next-place-one : (a b : Option Next) → Stepped image s bytes masks c a → Stepped image s bytes masks c b
      → leaves (view image s) bytes masks a ≡ leaves (view image s) bytes masks b
  next-place-one a b p q = sym (stepped-leaves a p) ∙ stepped-leaves b q
