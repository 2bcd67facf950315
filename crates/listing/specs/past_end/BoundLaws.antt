-- Bounds of the targets of some rows: one row more. Assumes nothing.
use Rattle.std.specs.Prelude.{ℕ, ◌+◌, ◌≤◌, ◌<◌, ◌≡◌, List}
use Rattle.std.proofs.Common.{ap, arith}
use Rattle.std.proofs.Math.Decide.{dec_lt}
use Rattle.listing.specs.past_end.Beyond.{target_at, Higher, Lower, NonePast, NoneBefore}

module _ (noted : List ℕ) (i t : ℕ) (is : t ≡ target_at noted i) where
  here-same : (k : ℕ) → k ≡ i → target_at noted k ≡ t
  here-same k e = omega (arith, is, ap (target_at noted) e)

  pub past_more : (top r : ℕ) → NonePast noted i top → Higher top t r → NonePast noted (i + 1) r
  past_more top r h e k l = go (dec_lt k i)
    where
      go : Dec (k < i) → target_at noted k ≤ r
      go (yes b) = omega (arith, h k b, e.first)
      go (no b) = omega (arith, here-same k (omega (arith, l, b)), e.second)

  pub before_more : (bound top least r : ℕ) → NoneBefore noted i bound top least → Lower bound least t r → NoneBefore noted (i + 1) bound top r
  before_more bound top least r h e = record { not-less = λ b. e.not-less (h.not-less b); least = more }
    where
      more : (k : ℕ) → k < i + 1 → bound ≤ target_at noted k → r ≤ target_at noted k
      more k l b = go (dec_lt k i)
        where
          go : Dec (k < i) → r ≤ target_at noted k
          go (yes y) = omega (arith, h.least k y b, e.first)
          go (no y) = let s = here-same k (omega (arith, l, y)) in omega (arith, s, e.second (omega (arith, b, s)))

pub before-all : (noted : List ℕ) (n i bound top least : ℕ) → n ≤ i → NoneBefore noted i bound top least → NoneBefore noted n bound top least
before-all noted n i bound top least l h = record { not-less = h.not-less; least = λ k b. h.least k (omega (arith, l, b)) }
