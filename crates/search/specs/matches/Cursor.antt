-- Where the search for a pattern stands: which matches are left, and which links lead to them.
use Rattle.std.specs.Prelude.{◌≡◌, ℕ, ◌-◌, ◌<◌, true, List, [], ◌∷◌, length, ◌==◌, ◌≢◌, slice_index, if◌then◌else◌, Option, Some, None}
use Rattle.lent.specs.Lists.{one, keep}
use Rattle.image.specs.declared.Seat.{Seat}
use Rattle.image.specs.declared.Stretch.{Stretch}
use Rattle.image.specs.View.{view}
use Rattle.image.specs.Match.{matches_at, matches}
use Rattle.image.specs.Next.{matches_from}
use Rattle.search.specs.declared.matches.MatchCursor.{MatchCursor}
use Rattle.search.specs.declared.matches.MatchCursor.TheVariants.{Along, Plain, Once, Over}
use Rattle.search.specs.declared.matches.Next.{Next}
use Rattle.search.specs.byte_index.Index.{Nexts}
use Rattle.search.specs.byte_index.Anchor.{Anchor}

-- the matches left at a link of the anchor's byte: those from the place on at which the pattern has that byte there
abbrev pub left_along : List ℕ → List ℕ → List ℕ → ℕ → ℕ → List ℕ
left_along cells bytes masks anchor link = if link == 0 then [] else matches_from cells bytes masks (link - 1 - anchor)

-- the matches that are left, ascending
abbrev pub places_left : List ℕ → List ℕ → List ℕ → MatchCursor → List ℕ
places_left cells bytes masks (Along anchor link) = left_along cells bytes masks anchor link
places_left cells bytes masks (Plain at) = matches_from cells bytes masks at
places_left cells bytes masks (Once at) = keep (matches_at cells bytes masks) (one at)
places_left cells bytes masks Over = []

-- a link, where it is not 0, leads to a place of a byte
pub record Leads (image : List ℕ) (byte link : ℕ) : Type 0 where
  pub within : (link ≢ 0) → link - 1 < length image
  pub there : (link ≢ 0) → slice_index image (link - 1) ≡ byte

pub record SoundAlong (image bytes masks : List ℕ) (anchor link : ℕ) : Type 0 where
  pub anchored : Anchor bytes masks anchor
  pub leads : Leads image (slice_index bytes anchor) link

abbrev pub Sound : List ℕ → List ℕ → List ℕ → MatchCursor → Type 0
Sound image bytes masks (Along anchor link) = SoundAlong image bytes masks anchor link
Sound image bytes masks (Plain at) = Unit
Sound image bytes masks (Once at) = Unit
Sound image bytes masks Over = Unit

-- at the start all matches are left, whatever is withheld
pub record Started (image : List ℕ) (seat : Seat) (bytes masks : List ℕ) (c : MatchCursor) : Type 0 where
  pub sound : Sound image bytes masks c
  pub all : (s : List Stretch) → places_left (view image s) bytes masks c ≡ matches (view image s) seat bytes masks

-- what a step needs
pub record Walk (image bytes masks next : List ℕ) (anchor link : ℕ) : Type 0 where
  pub nexts : Nexts image next
  pub sound : SoundAlong image bytes masks anchor link

pub record Search (image bytes masks next : List ℕ) (c : MatchCursor) : Type 0 where
  pub nexts : Nexts image next
  pub sound : Sound image bytes masks c

-- what a step leaves: the first of the matches left and a search of the others, or none was left
pub record Reached (image : List ℕ) (s : List Stretch) (bytes masks : List ℕ) (c : MatchCursor) (at : ℕ) (rest : MatchCursor) : Type 0 where
  pub places : places_left (view image s) bytes masks c ≡ at ∷ places_left (view image s) bytes masks rest
  pub matched : matches_at (view image s) bytes masks at ≡ true
  pub sound : Sound image bytes masks rest

abbrev pub Stepped : List ℕ → List Stretch → List ℕ → List ℕ → MatchCursor → Option Next → Type 0
Stepped image s bytes masks c (Some m) = Reached image s bytes masks c m.at m.rest
Stepped image s bytes masks c None = places_left (view image s) bytes masks c ≡ []
