-- The segment of a number, recalled from rows. Assumes nothing.
use Rattle.std.specs.Prelude.{◌≡◌, ℕ, zero, suc, ◌+◌, ◌<◌, ◌≤◌, List, map, length, slice_index_or}
use Rattle.std.proofs.Math.Path.{refl, ap}
use Rattle.std.proofs.Common.{sym, ◌∙◌, add-zero, arith}
use Rattle.std.proofs.Math.ListN.{get_or-eq_default}
use Rattle.lent.specs.Lists.{from}
use Rattle.segments.specs.declared.SegmentNumber.{SegmentNumber}
use Rattle.segments.specs.Collect.{Collected}
use Rattle.segments.specs.recalled.Recall.{recalled_at, recalled}
use Rattle.search_rules.specs.Search.{no_segment, segment_of}

module _ (f : ℕ → Collected) where
  mapped_at : (i at k : ℕ) → i < k → slice_index_or (map f (from at k)) i no_segment ≡ f (at + i)
  unfolding from
  mapped_at i at zero h = absurd (omega arith)
  mapped_at zero at (suc k) h = ap f (sym (add-zero at))
  mapped_at (suc i) at (suc k) h = mapped_at i (at + 1) k (omega arith) ∙ ap f (omega arith)

  mapped-long : (at k : ℕ) → length (map f (from at k)) ≡ k
  unfolding from
  mapped-long at zero = refl
  mapped-long at (suc k) = ap suc (mapped-long (at + 1) k)

module _ (segments references symbols bytes masks : List ℕ) (n : ℕ) (number : SegmentNumber) where
  pub segment-there : number.0 < n → segment_of (recalled segments references symbols bytes masks n) number ≡ recalled_at segments references symbols bytes masks number.0
  unfolding recalled
  segment-there h = mapped_at (recalled_at segments references symbols bytes masks) number.0 0 n h ∙ ap (recalled_at segments references symbols bytes masks) (omega arith)

  pub segment-lacks : n ≤ number.0 → segment_of (recalled segments references symbols bytes masks n) number ≡ no_segment
  unfolding recalled
  segment-lacks h =
      get_or-eq_default (map (recalled_at segments references symbols bytes masks) (from 0 n)) no_segment (omega (arith, h, mapped-long (recalled_at segments references symbols bytes masks) 0 n))
