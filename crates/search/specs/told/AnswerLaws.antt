-- An answer is read as it was written; what an answer says follows from its depth; a table after one more answer.
-- Assumes nothing.
use Rattle.std.specs.Prelude.{◌≡◌, ℕ, ◌/◌, ◌%◌, ◌<◌, ◌≤◌, Bool, true, false, List, length, ◌==◌, ◌≢◌, nat_eq, nat_le, slice_index, slice_set, refl, if◌then◌else◌, Option, Some, None}
use Rattle.std.proofs.Common.{sym, ap, ◌∙◌, arith, eqb-true, leb-true, leb-false, get_or-set_same, get_or-set_other}
use Rattle.std.proofs.Math.Decide.{dec_lt}
use Rattle.lent.specs.Rows.{flag}
use Rattle.lent.specs.RowLaws.{flag-back}
use Rattle.search.specs.told.Answers.{answer_of, settles, recall_of, remembered}

-- a flag is 0 or 1
pub flag_small : (b : Bool) → flag b < 2
flag_small true = omega arith
flag_small false = omega arith

module _ (number depth : ℕ) (holds : Bool) (shallow : depth < 4) where
  pub its-number : answer_of number depth holds / 8 ≡ number
  its-number = omega (arith, shallow, flag_small holds)

  pub its-depth : answer_of number depth holds / 2 % 4 ≡ depth
  its-depth = omega (arith, shallow, flag_small holds)

  pub its-answer : nat_eq (answer_of number depth holds % 2) 1 ≡ holds
  its-answer = let bit : answer_of number depth holds % 2 ≡ flag holds = omega (arith, flag_small holds) in ap (λ k. nat_eq k 1) bit ∙ flag-back holds

-- an answer that settles a question is of its segment, and its own depth is above 0 and does
pub record Of (answer number depth : ℕ) (holds : Bool) : Type 0 where
  pub number_is : answer / 8 ≡ number
  pub some : 0 < answer / 2 % 4
  pub says : nat_eq (answer % 2) 1 ≡ holds
  pub less : holds ≡ true → depth ≤ answer / 2 % 4
  pub more : holds ≡ false → answer / 2 % 4 ≤ depth

-- 0 to nothing, 1 to yes, 2 to no
abbrev code : Option Bool → ℕ
code None = 0
code (Some true) = 1
code (Some false) = 2

abbrev said : Bool → ℕ
said holds = code (Some holds)

pub recalled-answer : (answer number depth : ℕ) (holds : Bool) → recall_of answer number depth ≡ Some holds → Of answer number depth holds
recalled-answer answer number depth holds e = go (answer / 2 % 4 == 0) refl (answer / 8 == number) refl (answer % 2 == 1) refl (ap code e)
  where
    known : ℕ
    known = answer / 2 % 4

    Said : Bool → Bool → Bool → Type 0
    Said z n b = code (if z then None else (if n then settles b known depth else None)) ≡ said holds

    some-said : (h : Bool) → 0 < said h
    some-said true = omega arith
    some-said false = omega arith

    above : nat_eq known 0 ≡ false → 0 < known
    above q = go' (dec_lt 0 known)
      where
        go' : Dec (0 < known) → 0 < known
        go' (yes l) = l
        go' (no l) = let zero : known ≡ 0 = omega (arith, l) in absurd (differ (sym q ∙ ap (λ k. nat_eq k 0) zero))
          where
            differ : false ≡ true → ⊥
            differ d = let z : ◌≡◌ {A = ℕ} 0 1 = cc in omega (arith, z)

    by_bit : (b h : Bool) → code (settles b known depth) ≡ said h → (b ≡ h) × ((h ≡ true → depth ≤ known) × (h ≡ false → known ≤ depth))
    by_bit true true q = (refl, ((λ t. go' (nat_le depth known) refl q), λ f. absurd (let z : ◌≡◌ {A = ℕ} 0 1 = cc in omega (arith, z))))
      where
        go' : (t : Bool) → nat_le depth known ≡ t → code (if t then Some true else None) ≡ 1 → depth ≤ known
        go' true p r = leb-true depth known p
        go' false p r = absurd (omega (arith, r))
    by_bit false false q = (refl, ((λ t. absurd (let z : ◌≡◌ {A = ℕ} 0 1 = cc in omega (arith, z))), λ f. go' (nat_le known depth) refl q))
      where
        go' : (t : Bool) → nat_le known depth ≡ t → code (if t then Some false else None) ≡ 2 → known ≤ depth
        go' true p r = leb-true known depth p
        go' false p r = absurd (omega (arith, r))
    by_bit true false q = absurd (go' (nat_le depth known) q)
      where
        go' : (t : Bool) → code (if t then Some true else None) ≢ 2
        go' true r = omega (arith, r)
        go' false r = omega (arith, r)
    by_bit false true q = absurd (go' (nat_le known depth) q)
      where
        go' : (t : Bool) → code (if t then Some false else None) ≢ 1
        go' true r = omega (arith, r)
        go' false r = omega (arith, r)

    go : (z : Bool) → (known == 0) ≡ z → (n : Bool) → (answer / 8 == number) ≡ n → (b : Bool) → (answer % 2 == 1) ≡ b → Said z n b → Of answer number depth holds
    go true p n q b s y = absurd (omega (arith, y, some-said holds))
    go false p false q b s y = absurd (omega (arith, y, some-said holds))
    go false p true q b s y =
        let k = by_bit b holds y in
        record { number_is = eqb-true (answer / 8) number q; some = above p; says = s ∙ k.0; less = k.1.0; more = k.1.1 }

-- each place of a table after one more answer: that answer at its own place, or as it was
module _ (told : List ℕ) (number at depth : ℕ) (holds : Bool) where
  pub after_one : (P : ℕ → ℕ → Type 0) → (depth < 4 → P at (answer_of number depth holds)) → ((i : ℕ) → P i (slice_index told i)) → (i : ℕ) → P i (slice_index (remembered told number at depth holds) i)
  after_one P new old i = go (nat_le 8192 number) (nat_le 4 depth) refl (nat_le (length told) at) refl
    where
      there : depth < 4 → at < length told → P i (slice_index (slice_set told at (answer_of number depth holds)) i)
      there d l = case (dec_lt i at) (dec_lt at i)
        where
          own : i ≡ at → P i (slice_index (slice_set told at (answer_of number depth holds)) i)
          own e = rw (e, get_or-set_same told at (answer_of number depth holds) 0 l) (new d)

          other : (i ≢ at) → P i (slice_index (slice_set told at (answer_of number depth holds)) i)
          other ne = rw (get_or-set_other told at i (answer_of number depth holds) 0 ne) (old i)

          case : Dec (i < at) → Dec (at < i) → P i (slice_index (slice_set told at (answer_of number depth holds)) i)
          case (yes a) b = other (λ e. omega (arith, a, e))
          case (no a) (yes b) = other (λ e. omega (arith, b, e))
          case (no a) (no b) = own (omega (arith, a, b))

      go : (a b : Bool) → nat_le 4 depth ≡ b → (c : Bool) → nat_le (length told) at ≡ c
          → P i (slice_index (if a then told else (if b then told else (if c then told else slice_set told at (answer_of number depth holds)))) i)
      go true b p c q = old i
      go false true p c q = old i
      go false false p true q = old i
      go false false p false q = there (leb-false 4 depth p) (leb-false (length told) at q)
