-- Bytes compared many at a time: what `or` and `xor` leave, and runs of numbers that pass a test. Assumes nothing.
use Rattle.std.specs.Prelude.{ℕ, ◌+◌, ◌≤◌, ◌<◌, ◌≡◌, Bool, true, false, ◌&&◌, eqb}
use Rattle.std.proofs.Common.{sym, ◌∙◌, arith, eqb-true, eq-eqb}
use Rattle.std.proofs.Math.Bool.{and-eq-true_iff}
use Rattle.std.proofs.lemmas.Bool.{false≢true}
use Rattle.std.proofs.Math.Decide.{dec_lt}
use Rattle.std.specs.Int.Bits.{bit_or, bit_xor, or_add_and, xor_add_and, xor_self}
use Rattle.std.proofs.lemmas.Nat.{and_le_l, and_le_r}
use Rattle.lent.specs.ChoiceLaws.{same_test, both}
use Rattle.lent.specs.Lists.{all, from}
use Rattle.lent.specs.ListLaws.{every, if-every}

-- `or` leaves nothing of two nothings only, and `xor` nothing of two equals only
pub or-none : (a b : ℕ) → eqb (bit_or a b) 0 ≡ (eqb a 0 && eqb b 0)
or-none a b = same_test (eqb (bit_or a b) 0) (eqb a 0 && eqb b 0) there back
  where
    there : eqb (bit_or a b) 0 ≡ true → (eqb a 0 && eqb b 0) ≡ true
    there e =
        let none = eqb-true (bit_or a b) 0 e in
        (and-eq-true_iff (eqb a 0) (eqb b 0)).1 (
          eq-eqb a 0 (omega (arith, none, or_add_and a b, and_le_l a b, and_le_r a b)),
          eq-eqb b 0 (omega (arith, none, or_add_and a b, and_le_l a b, and_le_r a b)),
        )

    back : (eqb a 0 && eqb b 0) ≡ true → eqb (bit_or a b) 0 ≡ true
    back e =
        let nothing = both (eqb a 0) (eqb b 0) e in
        eq-eqb (bit_or a b) 0 (omega (arith, eqb-true a 0 nothing.0, eqb-true b 0 nothing.1, or_add_and a b))

pub xor-none : (a b : ℕ) → eqb (bit_xor a b) 0 ≡ eqb a b
xor-none a b = same_test (eqb (bit_xor a b) 0) (eqb a b) there back
  where
    there : eqb (bit_xor a b) 0 ≡ true → eqb a b ≡ true
    there e = eq-eqb a b (omega (arith, eqb-true (bit_xor a b) 0 e, xor_add_and a b, and_le_l a b, and_le_r a b))

    back : eqb a b ≡ true → eqb (bit_xor a b) 0 ≡ true
    back e = rw (eqb-true a b e, xor_self b)

-- a run with one more; a run that fails within another; fewer that pass; a run that takes up where the numbers before are known to pass
module _ (p : ℕ → Bool) where
  pub run-turn : (a n : ℕ) → all p (from a (n + 1)) ≡ (all p (from a n) && p (a + n))
  run-turn a n = same_test (all p (from a (n + 1))) (all p (from a n) && p (a + n)) there back
    where
      there : all p (from a (n + 1)) ≡ true → (all p (from a n) && p (a + n)) ≡ true
      there e =
          (and-eq-true_iff (all p (from a n)) (p (a + n))).1 (
            if-every p a n (λ k l m. every p a (n + 1) e k l (omega arith)),
            every p a (n + 1) e (a + n) (omega arith) (omega arith),
          )

      back : (all p (from a n) && p (a + n)) ≡ true → all p (from a (n + 1)) ≡ true
      back e = if-every p a (n + 1) (λ k l m. go k l m (dec_lt k (a + n)))
        where
          go : (k : ℕ) → a ≤ k → k < a + (n + 1) → Dec (k < a + n) → p k ≡ true
          go k l m (yes h) = every p a n (both (all p (from a n)) (p (a + n)) e).0 k l h
          go k l m (no h) = let last : k ≡ a + n = omega arith in rw last (both (all p (from a n)) (p (a + n)) e).1

  pub run-fails : (a m b n : ℕ) → b ≤ a → a + m ≤ b + n → all p (from a m) ≡ false → all p (from b n) ≡ false
  run-fails a m b n l h fails =
      same_test (all p (from b n)) false
      (λ e. absurd (false≢true (sym fails ∙ if-every p a m (λ k i j. every p b n e k (omega arith) (omega arith)))))
      (λ e. absurd (false≢true e))

  pub run-fewer : (r i : ℕ) → r ≤ i → all p (from 0 i) ≡ true → all p (from 0 r) ≡ true
  run-fewer r i h e = if-every p 0 r (λ k l m. every p 0 i e k l (omega arith))

  pub run-joins : (i a m n : ℕ) → a ≤ i → i ≤ n → a + m ≡ n → all p (from 0 i) ≡ true → all p (from a m) ≡ all p (from 0 n)
  run-joins i a m n l h e before = same_test (all p (from a m)) (all p (from 0 n)) there back
    where
      there : all p (from a m) ≡ true → all p (from 0 n) ≡ true
      there t = if-every p 0 n (λ k x y. go k y (dec_lt k i))
        where
          go : (k : ℕ) → k < 0 + n → Dec (k < i) → p k ≡ true
          go k y (yes q) = every p 0 i before k (omega arith) (omega arith)
          go k y (no q) = every p a m t k (omega arith) (omega arith)

      back : all p (from 0 n) ≡ true → all p (from a m) ≡ true
      back t = if-every p a m (λ k x y. every p 0 n t k (omega arith) (omega arith))
