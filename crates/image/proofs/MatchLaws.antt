-- Where a pattern matches, in words, and what the cover takes away. Assumes nothing.
use Rattle.std.specs.Prelude.{◌≡◌, ℕ, ◌+◌, ◌-◌, ◌<◌, ◌≤◌, min, Bool, true, false, ◌↔◌, List, length, ◌==◌, ◌≢◌, bit_and, bit_or, bit_xor, nat_le, slice_index, slice_index_or}
use Rattle.std.proofs.Math.Path.{refl}
use Rattle.std.proofs.Math.Bool.{and-eq-true_iff}
use Rattle.std.proofs.Common.{arith, zero-add}
use Rattle.std.proofs.Math.Decide.{dec_lt}
use borrow.Author.Tests.{leb-true, le-leb, lt-leb, ltb-true, lt-ltb, eq-eqb, ne_eqb}
use Rattle.std.specs.Int.Bits.{and_zero_r}
use Rattle.std.proofs.Math.ListN.{get_or-eq_default}
use Rattle.lent.specs.ChoiceLaws.{same_test}
use Rattle.lent.specs.Lists.{all, from}
use Rattle.lent.specs.ListLaws.{every, if-every}
use Rattle.lent.specs.RunLaws.{or-none, run-turn, run-fails, run-fewer, run-joins}
use Rattle.image.specs.declared.Stretch.{Stretch}
use Rattle.image.specs.View.{view, cell_at, is_byte}
use Rattle.image.proofs.ViewLaws.{Inside, view-length, view-inside, view-outside}
use Rattle.image.specs.Match.{agrees, matches_at, part_agrees, Agreeing}

-- all of it fits, and each byte agrees
pub record Matches (cells bytes masks : List ℕ) (at : ℕ) : Type 0 where
  pub fits : at + length bytes ≤ length cells
  pub agree : (i : ℕ) → i < length bytes → agrees (cell_at cells (at + i)) (slice_index bytes i) (slice_index masks i) ≡ true

pub matches-at : (cells bytes masks : List ℕ) (at : ℕ) → (matches_at cells bytes masks at ≡ true) ↔ Matches cells bytes masks at
unfolding matches_at
matches-at cells bytes masks at =
    let p : ℕ → Bool = λ i. agrees (cell_at cells (at + i)) (slice_index bytes i) (slice_index masks i) in
    let iff = and-eq-true_iff (nat_le (at + length bytes) (length cells)) (all p (from 0 (length bytes))) in (
      (λ e. record {
        fits = leb-true (at + length bytes) (length cells) (iff.0 e).0;
        agree = λ i h. every p 0 (length bytes) (iff.0 e).1 i (omega arith) (omega arith);
      }),
      (λ m. iff.1 (le-leb (at + length bytes) (length cells) m.fits, if-every p 0 (length bytes) (λ i l h. m.agree i (omega arith)))),
    )

-- one that does not fit matches nowhere; parts of a pattern, by which loops go
module _ (cells bytes masks : List ℕ) (at : ℕ) where
  abbrev byte_agrees : ℕ → Bool
  byte_agrees k = agrees (cell_at cells (at + k)) (slice_index bytes k) (slice_index masks k)

  pub match-past : length cells < at + length bytes → matches_at cells bytes masks at ≡ false
  unfolding matches_at
  match-past h = rw (lt-leb (at + length bytes) (length cells) h)

  -- what differs in a part and in the byte after it, put together
  pub part-turn : (i n d : ℕ) → cell_at cells (at + (i + n)) < 256 → (d == 0) ≡ part_agrees cells bytes masks at i n
      → (bit_or d (bit_and (bit_xor (cell_at cells (at + (i + n))) (slice_index bytes (i + n))) (slice_index masks (i + n))) == 0) ≡ part_agrees cells bytes masks at i (n + 1)
  part-turn i n d b e =
      let x = bit_and (bit_xor (cell_at cells (at + (i + n))) (slice_index bytes (i + n))) (slice_index masks (i + n)) in
      rw (or-none d x, e, run-turn byte_agrees i n, lt-ltb (cell_at cells (at + (i + n))) 256 b)

  -- no byte, and the first i bytes and one more, which agrees or does not
  pub part_none : (i : ℕ) → part_agrees cells bytes masks at i 0 ≡ true
  unfolding all from
  part_none i = refl

  pub none-agreeing : (n : ℕ) → Agreeing cells bytes masks at n 0
  none-agreeing n = record { inside = omega arith; agree = part_none 0 }

  pub part-next : (i : ℕ) → cell_at cells (at + i) < 256 → bit_and (bit_xor (cell_at cells (at + i)) (slice_index bytes i)) (slice_index masks i) ≡ 0
      → part_agrees cells bytes masks at 0 i ≡ true → part_agrees cells bytes masks at 0 (i + 1) ≡ true
  part-next i b e before = rw (run-turn byte_agrees 0 i, zero-add i, before, lt-ltb (cell_at cells (at + i)) 256 b, eq-eqb _ 0 e)

  pub part-fails : (i n : ℕ) → i < n → cell_at cells (at + i) < 256
      → (bit_and (bit_xor (cell_at cells (at + i)) (slice_index bytes i)) (slice_index masks i) ≢ 0) → part_agrees cells bytes masks at 0 n ≡ false
  unfolding all from
  part-fails i n h b ne = run-fails byte_agrees i 1 0 n (omega arith) (omega arith) (rw (lt-ltb (cell_at cells (at + i)) 256 b, ne_eqb _ 0 ne))

  -- a part that does not agree; fewer bytes that do; a part behind bytes that all agree
  pub part-within : (i m n : ℕ) → i + m ≤ n → part_agrees cells bytes masks at i m ≡ false → part_agrees cells bytes masks at 0 n ≡ false
  part-within i m n h e = run-fails byte_agrees i m 0 n (omega arith) (omega arith) e

  pub part-fewer : (r i : ℕ) → r ≤ i → part_agrees cells bytes masks at 0 i ≡ true → part_agrees cells bytes masks at 0 r ≡ true
  part-fewer r i h e = run-fewer byte_agrees r i h e

  pub part-joins : (i a m n : ℕ) → a ≤ i → i ≤ n → a + m ≡ n → part_agrees cells bytes masks at 0 i ≡ true
      → part_agrees cells bytes masks at a m ≡ part_agrees cells bytes masks at 0 n
  part-joins i a m n l h e before = run-joins byte_agrees i a m n l h e before

  -- up to where the pattern or its masks end is all of it: behind that nothing disagrees
  pub part-whole : (n : ℕ) → at + length bytes ≤ length cells → n ≡ min (length bytes) (length masks) → ((k : ℕ) → cell_at cells k < 256)
      → part_agrees cells bytes masks at 0 n ≡ matches_at cells bytes masks at
  part-whole n fits e b = same_test (part_agrees cells bytes masks at 0 n) (matches_at cells bytes masks at) there back
    where
      there : part_agrees cells bytes masks at 0 n ≡ true → matches_at cells bytes masks at ≡ true
      there t = (matches-at cells bytes masks at).1 (record { fits = fits; agree = λ k l. go k l (dec_lt k n) })
        where
          go : (k : ℕ) → k < length bytes → Dec (k < n) → byte_agrees k ≡ true
          go k l (yes h) = every byte_agrees 0 n t k (omega arith) (omega arith)
          go k l (no h) =
              let mask : slice_index_or masks k 0 ≡ 0 = get_or-eq_default masks 0 (omega arith) in
              rw (lt-ltb (cell_at cells (at + k)) 256 (b (at + k)), mask, and_zero_r)

      back : matches_at cells bytes masks at ≡ true → part_agrees cells bytes masks at 0 n ≡ true
      back t = if-every byte_agrees 0 n (λ k l h. ((matches-at cells bytes masks at).0 t).agree k (omega arith))

-- n bytes from a place on share none with the cover
abbrev pub Apart : ℕ → ℕ → List Stretch → Type 0
Apart at n s = (i : ℕ) → at ≤ i → i < at + n → Inside s i → ⊥

-- a pattern matches in the view exactly if it matches in the image and its window shares no byte with the cover
module _ (image : List ℕ) (s : List Stretch) (bytes masks : List ℕ) (at : ℕ) where
  apart : Matches (view image s) bytes masks at → (k : ℕ) → k < length bytes → Inside s (at + k) → ⊥
  apart m k l h =
      let cell = cell_at (view image s) (at + k) in
      let byte : is_byte cell ≡ true = ((and-eq-true_iff (is_byte cell) _).0 (m.agree k l)).0 in
      omega (arith, ltb-true cell 256 byte, view-inside image s (at + k) (omega (arith, m.fits, view-length image s)) h)

  pub matches-seen : (matches_at (view image s) bytes masks at ≡ true) ↔ ((matches_at image bytes masks at ≡ true) × Apart at (length bytes) s)
  matches-seen = (there, back)
    where
      there : matches_at (view image s) bytes masks at ≡ true → (matches_at image bytes masks at ≡ true) × Apart at (length bytes) s
      there e =
          let m : Matches (view image s) bytes masks at = (matches-at (view image s) bytes masks at).0 e in (
            (matches-at image bytes masks at).1 (record {
              fits = omega (arith, m.fits, view-length image s);
              agree = λ k l. rw (view-outside image s (at + k) (apart m k l)) at (m.agree k l);
            }),
            λ i a b h. let k : at + (i - at) ≡ i = omega arith in apart m (i - at) (omega arith) (rw k h),
          )

      back : (matches_at image bytes masks at ≡ true) × Apart at (length bytes) s → matches_at (view image s) bytes masks at ≡ true
      back (e, out) =
          let m : Matches image bytes masks at = (matches-at image bytes masks at).0 e in
          (matches-at (view image s) bytes masks at).1 (record {
            fits = omega (arith, m.fits, view-length image s);
            agree = λ k l. rw (view-outside image s (at + k) (out (at + k) (omega arith) (omega arith))) (m.agree k l);
          })
