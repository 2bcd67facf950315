-- A window, the bytes of the image under a pattern, beside what is withheld.
use Rattle.std.specs.Prelude.{ℕ, Bool, not, List}
use Rattle.lent.specs.Lists.{all, from}
use Rattle.image.specs.declared.Stretch.{Stretch}
use Rattle.image.specs.View.{in_one, within}

-- the n bytes from `at` on share no byte with one stretch
unfoldable pub is_beside : Stretch → ℕ → ℕ → Bool
is_beside s at n = all (λ i. not (in_one s i)) (from at n)

-- they share no byte with the cover
unfoldable pub is_apart : List Stretch → ℕ → ℕ → Bool
is_apart s at n = all (λ i. not (within s i)) (from at n)
