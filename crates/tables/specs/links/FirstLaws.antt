-- A search for the first number that passes a test, step by step. Assumes nothing.
use Rattle.std.specs.Prelude.{◌≡◌, ℕ, suc, ◌+◌, ◌-◌, ◌<◌, ◌≤◌, Bool, true, false, if◌then◌else◌}
use Rattle.std.proofs.Common.{◌∙◌}
use Rattle.std.proofs.Math.Option.{none, some}
use native.Mathlib.Omega.{arith}
use Rattle.tables.specs.links.First.{first_of, first_in}

module _ (p : ℕ → Bool) (low high : ℕ) where
  -- at the end none is left; one that passes is the first; one that doesn't is passed over
  pub first-none : high ≤ low → first_in p low high ≡ none
  unfolding first_of
  first-none h = let e : high - low ≡ 0 = omega arith in rw e

  first-turn : low < high → first_in p low high ≡ (if p low then some low else first_in p (low + 1) high)
  unfolding first_of
  first-turn h = let e : high - low ≡ suc (high - (low + 1)) = omega arith in rw e

  pub first-hit : low < high → p low ≡ true → first_in p low high ≡ some low
  first-hit h e = first-turn h ∙ rw e

  pub first-miss : low < high → p low ≡ false → first_in p low high ≡ first_in p (low + 1) high
  first-miss h e = first-turn h ∙ rw e
