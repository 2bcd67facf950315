-- The anchor of a pattern: the byte by whose links in the image its matches are found.
use Rattle.std.specs.Prelude.{◌≡◌, ℕ, ◌<◌, List, length, slice_index_or}
use Rattle.std.specs.declared.option.Option.{Option}
use Rattle.std.specs.declared.option.Option.TheVariants.{Some, None}

-- a byte of the pattern that is compared whole
pub record Anchor (bytes masks : List ℕ) (anchor : ℕ) : Type 0 where
  pub within : anchor < length bytes
  pub byte : slice_index_or bytes anchor 0 < 256
  pub whole : slice_index_or masks anchor 0 ≡ 255

abbrev pub Anchored : List ℕ → List ℕ → Option ℕ → Type 0
Anchored bytes masks (Some place) = Anchor bytes masks place
Anchored bytes masks None = Unit
