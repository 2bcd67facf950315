-- The next match of a pattern at or after a place: a step through all matches.
use Rattle.std.specs.Prelude.{ℕ, ◌+◌, ◌-◌, List, [], ◌∷◌, length}
use Rattle.lent.specs.Lists.{keep, from}
use Rattle.std.specs.declared.option.Option.{Option}
use Rattle.std.specs.declared.option.Option.TheVariants.{Some, None}
use Rattle.image.specs.Match.{matches_at}

-- all matches of a pattern at or after the place `at`, ascending
unfoldable pub matches_from : List ℕ → List ℕ → List ℕ → ℕ → List ℕ
matches_from cells bytes masks at = keep (matches_at cells bytes masks) (from at (length cells + 1 - at))

-- the first place of a list, if there is one
abbrev pub first_found : List ℕ → Option ℕ
first_found [] = None
first_found (at ∷ rest) = Some at

-- the first match of a pattern at or after the place `at`
unfoldable pub next_match : List ℕ → List ℕ → List ℕ → ℕ → Option ℕ
next_match cells bytes masks at = first_found (matches_from cells bytes masks at)
