-- What has to fit into lent memory grows from bank to bank. Assumes nothing.
use Prim.Native.Nat.{ℕ, zero, suc, ◌+◌, ◌*◌, ◌≤◌, ◌<◌, max}
use Rattle.std.specs.Prelude.{◌≡◌, ◌⊎◌, List}
use Rattle.std.proofs.Common.{lt_of_lt_of_le, mul-le-mul_right}
use Rattle.std.proofs.Math.Logic.{inl, inr}
use Rattle.std.proofs.Math.Decide.{dec_lt}
use native.Mathlib.Omega.{arith}
use Rattle.std.proofs.Math.ListN.{length, length-append}
use Rattle.search_rules.specs.SearchRows.{placed_width, noted_width}
use Rattle.listing_rules.specs.Listing.{line_width}
use Rattle.run.specs.declared.Settings.{Settings}
use Rattle.run.specs.Run.{Lent, Yield, counted}
use Rattle.run.specs.Given.{SearchOver, ListOver}
use Rattle.bank_rules.specs.Banks.{shown, lines_to, last_to, most_to, given_to, needed_to}

-- the greater of two counts does not fit exactly if one of them does not
over-one : (width n a b : ℕ) → n < max a b * width → (n < a * width) ⊎ (n < b * width)
over-one width n a b h = go (dec_lt a b)
  where
    go : Dec (a < b) → (n < a * width) ⊎ (n < b * width)
    go (yes l) = let e : max a b ≡ b = omega (arith, l) in inr (rw e at h)
    go (no l) = let e : max a b ≡ a = omega (arith, l) in inl (rw e at h)

more-over : (width n a b : ℕ) → a ≤ b → n < a * width → n < b * width
more-over width n a b l h = lt_of_lt_of_le h (mul-le-mul_right width l)

module _ (cells library : List ℕ) (s : Settings) where
  -- the most rows of more banks are not fewer, and nor are the lines
  most-grows : {A : Type 0} (rows : Yield → List A) (k n : ℕ) → k ≤ n → most_to cells library s rows k ≤ most_to cells library s rows n
  unfolding most_to
  most-grows rows k zero l = let e : k ≡ 0 = omega arith in rw e (omega arith)
  most-grows {A} rows k (suc n) l = go (dec_lt n k) (most-grows rows k n)
    where
      go : Dec (n < k) → (k ≤ n → most_to cells library s rows k ≤ most_to cells library s rows n) → most_to cells library s rows k ≤ most_to cells library s rows (suc n)
      go (yes h) f = let e : k ≡ suc n = omega arith in rw e (omega arith)
      go (no h) f = omega (arith, f (omega arith))

  pub lines-grow : (k n : ℕ) → k ≤ n → length (lines_to cells library s k) ≤ length (lines_to cells library s n)
  unfolding lines_to
  lines-grow k zero l = let e : k ≡ 0 = omega arith in rw e (omega arith)
  lines-grow k (suc n) l = go (dec_lt n k) (lines-grow k n)
    where
      go : Dec (n < k) → (k ≤ n → length (lines_to cells library s k) ≤ length (lines_to cells library s n)) → length (lines_to cells library s k) ≤ length (lines_to cells library s (suc n))
      go (yes h) f = let e : k ≡ suc n = omega arith in rw e (omega arith)
      go (no h) f = omega (arith, f (omega arith), length-append (lines_to cells library s n) (shown cells library s n).lines)

  pub over-grows : (lent : Lent) (k n : ℕ) → k ≤ n → SearchOver lent (needed_to cells library s k) ⊎ ListOver lent (needed_to cells library s k)
      → SearchOver lent (needed_to cells library s n) ⊎ ListOver lent (needed_to cells library s n)
  over-grows lent k n l (inl (inl h)) = inl (inl (more-over placed_width (length lent.placed) _ _ (most-grows (λ y. y.placed) k n l) h))
  over-grows lent k n l (inl (inr h)) = inl (inr (more-over noted_width (length lent.noted) _ _ (most-grows (λ y. y.noted) k n l) h))
  over-grows lent k n l (inr h) = inr (more-over line_width (length lent.lines) _ _ (lines-grow k n l) h)

  -- the rows of the last bank are not more than the most
  last-most : {A : Type 0} (rows : Yield → List A) (k : ℕ) → length (last_to cells library s rows k) ≤ most_to cells library s rows k
  unfolding last_to most_to
  last-most rows zero = omega arith
  last-most rows (suc k) = omega arith

  pub given-needed : (lent : Lent) (k : ℕ) → SearchOver lent (counted (given_to cells library s k)) → SearchOver lent (needed_to cells library s k)
  unfolding counted
  given-needed lent k (inl h) = inl (more-over placed_width (length lent.placed) _ _ (last-most (λ y. y.placed) k) h)
  given-needed lent k (inr h) = inr (more-over noted_width (length lent.noted) _ _ (last-most (λ y. y.noted) k) h)

  -- one bank more: what does not fit then did not fit before, or is the bank's; rows are lent for it alone, lines behind those before
  module _ (lent : Lent) (k : ℕ) where
    pub search-next : SearchOver lent (needed_to cells library s (suc k)) → SearchOver lent (needed_to cells library s k) ⊎ SearchOver lent (counted (shown cells library s k))
    unfolding most_to counted
    search-next (inl h) = one (over-one placed_width (length lent.placed) (most_to cells library s (λ y. y.placed) k) (length (shown cells library s k).placed) h)
      where
        one : (length lent.placed < most_to cells library s (λ y. y.placed) k * placed_width) ⊎ (length lent.placed < length (shown cells library s k).placed * placed_width)
            → SearchOver lent (needed_to cells library s k) ⊎ SearchOver lent (counted (shown cells library s k))
        one (inl o) = inl (inl o)
        one (inr o) = inr (inl o)
    search-next (inr h) = one (over-one noted_width (length lent.noted) (most_to cells library s (λ y. y.noted) k) (length (shown cells library s k).noted) h)
      where
        one : (length lent.noted < most_to cells library s (λ y. y.noted) k * noted_width) ⊎ (length lent.noted < length (shown cells library s k).noted * noted_width)
            → SearchOver lent (needed_to cells library s k) ⊎ SearchOver lent (counted (shown cells library s k))
        one (inl o) = inl (inr o)
        one (inr o) = inr (inr o)

    pub next-search : SearchOver lent (counted (shown cells library s k)) → SearchOver lent (needed_to cells library s (suc k))
    unfolding most_to counted
    next-search (inl h) = inl (more-over placed_width (length lent.placed) (length (shown cells library s k).placed) _ (omega arith) h)
    next-search (inr h) = inr (more-over noted_width (length lent.noted) (length (shown cells library s k).noted) _ (omega arith) h)

    pub lines_next : length (lines_to cells library s (suc k)) ≡ length (lines_to cells library s k) + length (shown cells library s k).lines
    unfolding lines_to
    lines_next = length-append (lines_to cells library s k) (shown cells library s k).lines
