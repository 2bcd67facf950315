-- Steps through the matches. Assumes nothing.
use Rattle.std.specs.Prelude.{◌≡◌, ℕ, zero, suc, ◌+◌, ◌-◌, ◌<◌, ◌≤◌, true, false, List, [], ◌∷◌, length}
use Rattle.std.proofs.Math.Path.{refl}
use mathlib.Core.List.Memᴰ
use Rattle.std.proofs.Common.{arith}
use Rattle.std.proofs.Math.Nat.{sub-zero}
use Rattle.lent.specs.Lists.{one, keep, from}
use Rattle.lent.specs.ListLaws.{from-turn}
use Rattle.lent.specs.Members.{◌among◌, to-keep, to-from}
use Rattle.std.specs.declared.option.Option.TheVariants.{Some, None}
use Rattle.image.specs.declared.Seat.TheVariants.{Anywhere, Only}
use Rattle.image.specs.Match.{matches_at, matches}
use Rattle.image.proofs.MatchLaws.{match-past, matches-at}
use Rattle.image.specs.Next.{matches_from, next_match}

module _ (cells bytes masks : List ℕ) where
  -- from the start on they are all matches of a relocatable pattern
  pub matches-from-0 : matches_from cells bytes masks 0 ≡ matches cells Anywhere bytes masks
  unfolding matches_from matches
  matches-from-0 = rw sub-zero

  -- a place that matches, one that does not, and places past which nothing can
  pub from-match : (at : ℕ) → at ≤ length cells → matches_at cells bytes masks at ≡ true → matches_from cells bytes masks at ≡ at ∷ matches_from cells bytes masks (at + 1)
  unfolding matches_from keep
  from-match at l e = rw (from-turn at (length cells + 1) (omega arith), e)

  pub from-other : (at : ℕ) → at ≤ length cells → matches_at cells bytes masks at ≡ false → matches_from cells bytes masks at ≡ matches_from cells bytes masks (at + 1)
  unfolding matches_from keep
  from-other at l e = rw (from-turn at (length cells + 1) (omega arith), e)

  pub from_past : (at : ℕ) → length cells < at + length bytes → matches_from cells bytes masks at ≡ []
  unfolding matches_from keep from
  from_past at h = go (length cells + 1 - at) at h
    where
      go : (n k : ℕ) → length cells < k + length bytes → keep (matches_at cells bytes masks) (from k n) ≡ []
      go zero k l = refl
      go (suc n) k l = rw (match-past cells bytes masks k l) (go n (k + 1) (omega arith))

  -- the first of them, where it stands or does not
  pub next-match : (at : ℕ) → at ≤ length cells → matches_at cells bytes masks at ≡ true → next_match cells bytes masks at ≡ Some at
  unfolding next_match
  next-match at l e = rw (from-match at l e)

  pub next-other : (at : ℕ) → at ≤ length cells → matches_at cells bytes masks at ≡ false → next_match cells bytes masks at ≡ next_match cells bytes masks (at + 1)
  unfolding next_match
  next-other at l e = rw (from-other at l e)

  pub next_past : (at : ℕ) → length cells < at + length bytes → next_match cells bytes masks at ≡ None
  unfolding next_match
  next_past at h = rw (from_past at h)

  -- every place where the pattern matches is among them, and an absolute one's address
  pub all-places : (at : ℕ) → matches_at cells bytes masks at ≡ true → at among matches cells Anywhere bytes masks
  unfolding matches
  all-places at e =
      to-keep (matches_at cells bytes masks) (from 0 (length cells + 1)) (to-from at 0 (length cells + 1) (omega arith) (omega (arith, ((matches-at cells bytes masks at).0 e).fits))) e

  pub its-address : (at : ℕ) → matches_at cells bytes masks at ≡ true → at among matches cells (Only at) bytes masks
  unfolding matches
  its-address at e = to-keep (matches_at cells bytes masks) (one at) (Memᴰ.head refl) e
