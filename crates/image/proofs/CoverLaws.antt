-- The stretches of settings: none, and whether one of them passes the image's end, in words. Assumes nothing.
use Rattle.std.specs.Prelude.{◌≡◌, ℕ, ◌+◌, ◌-◌, ◌<◌, ◌≤◌, Bool, true, false, ◌||◌, ◌⊎◌, ◌↔◌, List, [], ◌∷◌, length, drop, nat_lt, slice_index, refl}
use Rattle.std.proofs.Common.{sym, ◌∙◌, inl, inr, ltb-true, ltb-false, lt-ltb, le-ltb}
use Rattle.std.proofs.Math.Path.{ap}
use Rattle.std.proofs.Math.Bool.{or-true}
use Rattle.std.proofs.lemmas.Bool.{false≢true}
use mathlib.Core.List.Memᴰ
use Rattle.std.proofs.Math.Decide.{dec_le}
use native.Mathlib.Omega.{arith}
use Rattle.std.proofs.Math.ListN.{drop_of_length-le}
use Rattle.lent.specs.ChoiceLaws.{either}
use Rattle.lent.specs.Lists.{any}
use Rattle.lent.specs.Members.{◌among◌}
use Rattle.lent.specs.PartLaws.{drop-turn}
use Rattle.image.specs.declared.Stretch.{Stretch}
use Rattle.image.specs.declared.cover.Stretches.{Stretches}
use Rattle.image.specs.View.{stretches_in, pair_at}
use Rattle.image.specs.Cover.{cover_of, one_more, gathered, ends_past, passes_end}
use Rattle.image.proofs.WindowLaws.{pairs-turn, pairs_end}

-- a count of 0 withholds nothing
pub no-stretches : (w : Stretches) → w.count ≡ 0 → cover_of w ≡ []
unfolding stretches_in
no-stretches w e = rw e

-- stretches gathered from number i of a list on: one more, a start without a length, none
module _ (w : Stretches) (xs : List ℕ) (i : ℕ) where
  pub gathered-turn : i + 1 < length xs → gathered w (drop i xs) ≡ gathered (one_more w (slice_index xs i) (slice_index xs (i + 1))) (drop (i + 2) xs)
  unfolding gathered
  gathered-turn h =
      let next : i + 1 + 1 ≡ i + 2 = omega arith in
      rw (drop-turn xs i 0 (omega arith), drop-turn xs (i + 1) 0 h, next)

  pub gathered-last : i + 1 ≡ length xs → gathered w (drop i xs) ≡ one_more w (slice_index xs i) 0xFFFFFFFFFFFFFFFF
  unfolding gathered
  gathered-last h =
      let end : length xs ≤ i + 1 = omega (arith, h) in
      rw (drop-turn xs i 0 (omega (arith, h)), drop_of_length-le xs end)

  pub gathered-end : length xs ≤ i → gathered w (drop i xs) ≡ w
  unfolding gathered
  gathered-end h = rw (drop_of_length-le xs h)

-- a sum and a difference, compared
pub past_end : (len start more : ℕ) → start ≤ len → nat_lt (len - start) more ≡ nat_lt len (start + more)
past_end len start more h = go (nat_lt (len - start) more) refl
  where
    go : (t : Bool) → nat_lt (len - start) more ≡ t → t ≡ nat_lt len (start + more)
    go true e = sym (lt-ltb len (start + more) (omega (arith, ltb-true (len - start) more e)))
    go false e = sym (le-ltb len (start + more) (omega (arith, ltb-false (len - start) more e)))

-- the pairs from number i on: the first passes the end, or the others decide; with none left none does
module _ (len : ℕ) (s : List ℕ) (i : ℕ) where
  pub ends-turn : (t : Bool) → i + 1 < length s → ends_past len (pair_at s i) ≡ t → passes_end len (stretches_in (drop i s)) ≡ (t || passes_end len (stretches_in (drop (i + 2) s)))
  unfolding any
  ends-turn t h e = ap (passes_end len) (pairs-turn s i h) ∙ ap (λ b. b || passes_end len (stretches_in (drop (i + 2) s))) e

  pub ends-none : length s ≤ i + 1 → passes_end len (stretches_in (drop i s)) ≡ false
  unfolding any
  ends-none h = ap (passes_end len) (pairs_end s i h)

-- some element passes a test
of-any : {A : Type 0} (p : A → Bool) (xs : List A) → any p xs ≡ true → (x : A) × (x among xs) × (p x ≡ true)
unfolding any
of-any p [] e = absurd (false≢true e)
of-any {A} p (y ∷ ys) e = go (either (p y) (any p ys) e) (of-any p ys)
  where
    go : (p y ≡ true) ⊎ (any p ys ≡ true) → (any p ys ≡ true → (x : A) × (x among ys) × (p x ≡ true)) → (x : A) × (x among (y ∷ ys)) × (p x ≡ true)
    go (inl h) rest = (y, Memᴰ.head refl, h)
    go (inr h) rest = let r = rest h in (r.0, Memᴰ.tail r.1, r.2)

to-any : {A : Type 0} (p : A → Bool) {x : A} (xs : List A) → x among xs → p x ≡ true → any p xs ≡ true
unfolding any
to-any p [] m h = absurd (Memᴰ.not-nil m)
to-any p {x} (y ∷ ys) m h = go (Memᴰ.cases_cons m) (λ n. to-any p ys n h)
  where
    go : (x ≡ y) ⊎ x among ys → (x among ys → any p ys ≡ true) → (p y || any p ys) ≡ true
    go (inl q) rest = rw (sym (ap p q) ∙ h)
    go (inr n) rest = rw (rest n) (or-true (p y))

-- SOME STRETCH PASSES THE END; NONE DOES
abbrev pub SomePasses : ℕ → List Stretch → Type 0
SomePasses len s = (one : Stretch) × (one among s) × (len < one.start + one.len)

abbrev pub AllFit : ℕ → List Stretch → Type 0
AllFit len s = (one : Stretch) → one among s → one.start + one.len ≤ len

pub some-passes : (len : ℕ) (s : List Stretch) → (passes_end len s ≡ true) ↔ SomePasses len s
some-passes len s = (
  (λ e. let r = of-any (ends_past len) s e in (r.0, r.1, ltb-true len (r.0.start + r.0.len) r.2)),
  λ h. to-any (ends_past len) s h.1 (lt-ltb len (h.0.start + h.0.len) h.2),
)

pub all_fit : (len : ℕ) (s : List Stretch) → (passes_end len s ≡ false) ↔ AllFit len s
all_fit len s = (there, back (passes_end len s) refl)
  where
    there : passes_end len s ≡ false → AllFit len s
    there e one m = go (dec_le (one.start + one.len) len)
      where
        go : Dec (one.start + one.len ≤ len) → one.start + one.len ≤ len
        go (yes h) = h
        go (no h) = absurd (false≢true (sym e ∙ (some-passes len s).1 (one, m, omega (arith, h))))

    back : (t : Bool) → passes_end len s ≡ t → AllFit len s → t ≡ false
    back true e fit = let h = (some-passes len s).0 e in absurd (omega (arith, h.2, fit h.0 h.1))
    back false e fit = refl
