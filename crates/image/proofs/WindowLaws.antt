-- When a window is apart from a cover, stretch by stretch and in numbers. Assumes nothing.
use Rattle.std.specs.Prelude.{◌≡◌, ℕ, ◌+◌, ◌-◌, ◌<◌, ◌≤◌, Bool, true, false, not, ◌&&◌, ◌⊎◌, ◌↔◌, List, [], ◌∷◌, length, take, drop, ◌≢◌, nat_le, refl}
use Rattle.std.proofs.Common.{sym, ap, ◌∙◌, inl, inr, leb-true, le-leb, length-drop, take_all, length-take-le}
use Rattle.std.proofs.Math.Bool.{or-true, and-eq-true_iff}
use Rattle.std.proofs.lemmas.Bool.{false≢true}
use native.Mathlib.Omega.{arith}
use Rattle.std.proofs.Math.Decide.{dec_le}
use Rattle.lent.specs.ChoiceLaws.{either, same_test}
use Rattle.lent.specs.Lists.{any, all, from}
use Rattle.lent.specs.ListLaws.{every, if-every}
use Rattle.lent.specs.PartLaws.{drop-turn}
use Rattle.image.specs.declared.Stretch.{Stretch}
use Rattle.image.specs.View.{in_one, within, stretches_in, pair_at}
use Rattle.image.proofs.ViewLaws.{InOne, in_one_lem}
use Rattle.image.proofs.MatchLaws.{Apart}
use Rattle.image.specs.Window.{is_beside, is_apart}

-- no place of a window passes a test
clear_of : (w : ℕ → Bool) (at n : ℕ) → (all (λ i. not (w i)) (from at n) ≡ true) ↔ ((i : ℕ) → at ≤ i → i < at + n → w i ≢ true)
clear_of w at n = (there, back)
  where
    p : ℕ → Bool
    p i = not (w i)

    there : all p (from at n) ≡ true → (i : ℕ) → at ≤ i → i < at + n → w i ≢ true
    there e i l m h = no_both (w i) (every p at n e i l m) h
      where
        no_both : (t : Bool) → not t ≡ true → t ≢ true
        no_both true a b = false≢true a
        no_both false a b = false≢true b

    back : ((i : ℕ) → at ≤ i → i < at + n → w i ≢ true) → all p (from at n) ≡ true
    back out = if-every p at n (λ i l m. pass (w i) (out i l m))
      where
        pass : (t : Bool) → (t ≢ true) → not t ≡ true
        pass true f = absurd (f refl)
        pass false f = refl

pub is-apart : (s : List Stretch) (at n : ℕ) → (is_apart s at n ≡ true) ↔ Apart at n s
unfolding is_apart
is-apart s at n = clear_of (within s) at n

-- the same of one stretch, in numbers
abbrev Beside : ℕ → ℕ → Stretch → Type 0
Beside at n s = (i : ℕ) → at ≤ i → i < at + n → InOne s i → ⊥

is-beside : (s : Stretch) (at n : ℕ) → (is_beside s at n ≡ true) ↔ Beside at n s
unfolding is_beside
is-beside s at n =
    let iff = clear_of (in_one s) at n in (
      (λ e i l m h. iff.0 e i l m ((in_one_lem s i).1 h)),
      λ out. iff.1 (λ i l m h. out i l m ((in_one_lem s i).0 h)),
    )

-- a cover, stretch by stretch
apart_none : (at n : ℕ) → is_apart [] at n ≡ true
unfolding any
apart_none at n = (is-apart [] at n).1 (λ i l m h. false≢true h)

apart-turn : (s : Stretch) (rest : List Stretch) (at n : ℕ) → is_apart (s ∷ rest) at n ≡ (is_beside s at n && is_apart rest at n)
unfolding any
apart-turn s rest at n =
    let iff = and-eq-true_iff (is_beside s at n) (is_apart rest at n) in
    same_test (is_apart (s ∷ rest) at n) (is_beside s at n && is_apart rest at n)
    (λ e.
    let out = (is-apart (s ∷ rest) at n).0 e in
    iff.1 (
      (is-beside s at n).1 (λ i l m h. out i l m (rw ((in_one_lem s i).1 h))),
      (is-apart rest at n).1 (λ i l m h. out i l m (rw h (or-true (in_one s i)))),
    ))
    (λ e. (is-apart (s ∷ rest) at n).1
    (λ i l m h. split i l m ((is-beside s at n).0 (iff.0 e).0) ((is-apart rest at n).0 (iff.0 e).1) (either (in_one s i) (within rest i) h)))
  where
    split : (i : ℕ) → at ≤ i → i < at + n → Beside at n s → Apart at n rest → (in_one s i ≡ true) ⊎ (within rest i ≡ true) → ⊥
    split i l m one others (inl h) = one i l m ((in_one_lem s i).0 h)
    split i l m one others (inr h) = others i l m h

-- the pairs of a lent list from number i on: one more, or none
few-pairs : (xs : List ℕ) → length xs ≤ 1 → stretches_in xs ≡ []
unfolding stretches_in
few-pairs [] l = refl
few-pairs (x ∷ []) l = refl
few-pairs (x ∷ y ∷ xs) l = absurd (omega arith)

module _ (s : List ℕ) (i : ℕ) where
  pub pairs-turn : i + 1 < length s → stretches_in (drop i s) ≡ pair_at s i ∷ stretches_in (drop (i + 2) s)
  unfolding stretches_in
  pairs-turn h =
      let next : i + 1 + 1 ≡ i + 2 = omega arith in
      rw (drop-turn s i 0 (omega arith), drop-turn s (i + 1) 0 h, next)

  pub pairs_end : length s ≤ i + 1 → stretches_in (drop i s) ≡ []
  pairs_end h = few-pairs (drop i s) (omega (arith, length-drop i s))

-- what is behind the first pair is shorter
pub behind-shorter : (s : List ℕ) → 1 < length s → length (take (length s - 2) (drop 2 s)) < length s
behind-shorter s h = omega (arith, h, length-take-le (length s - 2) (drop 2 s) (omega (arith, length-drop 2 s)))

-- a window by the pairs of a lent list: the first of them decides, or those behind it do; without any the window is apart
module _ (s : List ℕ) (at n : ℕ) where
  pub first-turn : (t : Bool) → 1 < length s → is_beside (pair_at s 0) at n ≡ t
      → is_apart (stretches_in s) at n ≡ (t && is_apart (stretches_in (take (length s - 2) (drop 2 s))) at n)
  first-turn t h e =
      ap (λ c. is_apart c at n) (pairs-turn s 0 h) ∙ apart-turn (pair_at s 0) (stretches_in (drop 2 s)) at n
      ∙ ap (λ b. b && is_apart (stretches_in (drop 2 s)) at n) e
      ∙ ap (λ xs. t && is_apart (stretches_in xs) at n) (sym (take_all (length s - 2) (drop 2 s) (omega (arith, length-drop 2 s))))

  pub no-pair : length s < 2 → is_apart (stretches_in s) at n ≡ true
  no-pair h = ap (λ c. is_apart c at n) (few-pairs s (omega (arith, h))) ∙ apart_none at n

-- one stretch, by the four answers of the code: an empty window or stretch, a window that begins before the stretch, and one
-- that does not
pub no-window : (s : Stretch) (at n : ℕ) → n ≡ 0 → is_beside s at n ≡ true
no-window s at n e = (is-beside s at n).1 (λ i l m h. omega (arith, e, l, m))

pub no-stretch : (s : Stretch) (at n : ℕ) → s.len ≡ 0 → is_beside s at n ≡ true
no-stretch s at n e = (is-beside s at n).1 (λ i l m h. omega (arith, e, h.0, h.1))

pub window-before : (s : Stretch) (at n : ℕ) → at < s.start → (s.len ≢ 0) → is_beside s at n ≡ nat_le n (s.start - at)
window-before s at n l z =
    same_test (is_beside s at n) (nat_le n (s.start - at))
    (λ e. go (dec_le n (s.start - at)) ((is-beside s at n).0 e))
    (λ e. (is-beside s at n).1 (λ i a b h. omega (arith, leb-true n (s.start - at) e, h.0, h.1)))
  where
    go : Dec (n ≤ s.start - at) → Beside at n s → nat_le n (s.start - at) ≡ true
    go (yes h) out = le-leb n (s.start - at) h
    go (no h) out = absurd (out s.start (omega arith) (omega arith) (omega arith, omega (arith, z)))

pub window-after : (s : Stretch) (at n : ℕ) → s.start ≤ at → (n ≢ 0) → is_beside s at n ≡ nat_le s.len (at - s.start)
window-after s at n l z =
    same_test (is_beside s at n) (nat_le s.len (at - s.start))
    (λ e. go (dec_le s.len (at - s.start)) ((is-beside s at n).0 e))
    (λ e. (is-beside s at n).1 (λ i a b h. omega (arith, leb-true s.len (at - s.start) e, h.0, h.1)))
  where
    go : Dec (s.len ≤ at - s.start) → Beside at n s → nat_le s.len (at - s.start) ≡ true
    go (yes h) out = le-leb s.len (at - s.start) h
    go (no h) out = absurd (out at (omega arith) (omega (arith, z)) (omega arith, omega arith))
