-- Positions without rows, one more of them, and more behind them. Assumes nothing.
use Rattle.std.specs.Prelude.{ℕ, ◌+◌, ◌≤◌, ◌<◌, ◌≡◌, List, eqb, get_or}
use Rattle.std.proofs.Common.{sym, ◌∙◌, arith, eq-eqb, eqb-true}
use Rattle.std.proofs.Math.Decide.{dec_lt}
use Rattle.std.specs.Int.Bits.{bit_or}
use Rattle.lent.specs.ChoiceLaws.{both}
use Rattle.lent.specs.RunLaws.{or-none}
use Rattle.listing.specs.Bare.{BareTo, Skips}

neither : (a b : ℕ) → bit_or a b ≡ 0 → (a ≡ 0) × (b ≡ 0)
neither a b e =
    let t = both (eqb a 0) (eqb b 0) (sym (or-none a b) ∙ eq-eqb (bit_or a b) 0 e) in
    (eqb-true a 0 t.0, eqb-true b 0 t.1)

module _ (positions goals : List ℕ) where
  pub bare-none : (at to : ℕ) → to ≤ at → BareTo positions goals at to
  bare-none at to h k a b = absurd (omega arith)

  pub bare-on : (at mid to : ℕ) → BareTo positions goals at mid → BareTo positions goals mid to → BareTo positions goals at to
  bare-on at mid to p q k a b = go (dec_lt k mid)
    where
      go : Dec (k < mid) → (get_or positions k 0 ≡ 0) × (get_or goals k 0 ≡ 0)
      go (yes h) = p k a h
      go (no h) = q k (omega arith) b

  pub bare-one : (at : ℕ) → get_or positions at 0 ≡ 0 → get_or goals at 0 ≡ 0 → BareTo positions goals at (at + 1)
  bare-one at p g k a b = let e : at ≡ k = omega arith in rw (← e) (p, g)

  -- what stands in the heads so far, put together with what stands in the next
  pub bare-turn : (at j some : ℕ) → (some ≡ 0 → BareTo positions goals at (at + j))
      → bit_or some (bit_or (get_or positions (at + j) 0) (get_or goals (at + j) 0)) ≡ 0 → BareTo positions goals at (at + (j + 1))
  bare-turn at j some h e =
      let s = neither some (bit_or (get_or positions (at + j) 0) (get_or goals (at + j) 0)) e in
      let t = neither (get_or positions (at + j) 0) (get_or goals (at + j) 0) s.1 in
      let same : at + j + 1 ≡ at + (j + 1) = omega arith in
      rw (← same) (bare-on at (at + j) (at + j + 1) (h s.0) (bare-one (at + j) t.0 t.1))

  -- none was passed over yet; and then some more
  pub skips-none : (from end : ℕ) → Skips positions goals from end from
  skips-none from end = record { on = omega arith; within = λ h. h; bare = bare-none from from (omega arith) }

  pub skips-on : (from end at to : ℕ) → Skips positions goals from end at → at ≤ to → to ≤ end → BareTo positions goals at to → Skips positions goals from end to
  skips-on from end at to s low high b = record { on = omega (arith, s.on); within = λ h. high; bare = bare-on from at to s.bare b }
