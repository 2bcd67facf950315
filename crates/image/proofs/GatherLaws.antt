-- Stretches gathered from a list of numbers: up to 32 numbers in pairs are the cover of these pairs, more are too many, and a
-- start without a length passes the end of every image. Assumes nothing.
use Rattle.std.specs.Prelude.{◌≡◌, ℕ, suc, ◌+◌, ◌*◌, ◌/◌, ◌%◌, ◌<◌, ◌≤◌, min, true, List, [], ◌∷◌, ◌++◌, length, take, nat_lt, slice_set, refl}
use Rattle.std.proofs.Common.{sym, ap, ◌∙◌, append_assoc, append-nil, arith, ltb-true, lt-ltb, le-leb, length-set, length-append, take-suc-set, length-take-le}
use Rattle.std.proofs.Math.Bool.{or-true}
use Rattle.std.proofs.Math.Decide.{dec_le}
use Rattle.std.proofs.lemmas.Bool.{lt-leb}
use Rattle.lent.specs.ChoiceLaws.{same_test}
use Rattle.lent.specs.Lists.{one, any}
use Rattle.image.specs.declared.cover.Stretches.{Stretches}
use Rattle.image.specs.View.{stretches_in}
use Rattle.image.specs.Cover.{too_many_stretches, cover_of, no_stretches, one_more, gathered, passes_end}

-- a pair behind others
pair-behind : (xs : List ℕ) (start len : ℕ) → length xs % 2 ≡ 0 → stretches_in (xs ++ start ∷ len ∷ []) ≡ stretches_in xs ++ one (record { start = start; len = len })
unfolding stretches_in
pair-behind [] start len e = refl
pair-behind (x ∷ []) start len e = absurd (omega (arith, e))
pair-behind (x ∷ y ∷ xs) start len e = ap (λ rest. record { start = x; len = y } ∷ rest) (pair-behind xs start len (omega (arith, e)))

-- ONE STRETCH MORE is the cover with that stretch behind the others
module _ (w : Stretches) (start len : ℕ) (room : w.count < 16) (long : length w.pairs ≡ 32) where
  abbrev added : List ℕ
  added = slice_set (slice_set w.pairs (2 * w.count) start) (2 * w.count + 1) len

  more-is : one_more w start len ≡ record { count = w.count + 1; pairs = added }
  more-is = rw (lt-leb 16 w.count room)

  taken : take (2 * min (w.count + 1) 16) added ≡ take (2 * min w.count 16) w.pairs ++ start ∷ len ∷ []
  taken =
      let c = w.count in
      let first = slice_set w.pairs (2 * c) start in
      let all_of : 2 * min (c + 1) 16 ≡ suc (2 * c + 1) = omega (arith, room) in
      let half : 2 * c + 1 ≡ suc (2 * c) = omega arith in
      let none : 2 * c ≡ 2 * min c 16 = omega (arith, room) in
      ap (λ n. take n added) all_of
      ∙ take-suc-set first (2 * c + 1) len (omega (arith, room, long, length-set w.pairs (2 * c) start))
      ∙ ap (λ n. take n first ++ len ∷ []) half
      ∙ ap (λ xs. xs ++ len ∷ []) (take-suc-set w.pairs (2 * c) start (omega (arith, room, long)))
      ∙ append_assoc (take (2 * c) w.pairs) (start ∷ []) (len ∷ [])
      ∙ ap (λ n. take n w.pairs ++ start ∷ len ∷ []) none

  pub adds_one : cover_of (one_more w start len) ≡ cover_of w ++ one (record { start = start; len = len })
  adds_one =
      let even : length (take (2 * min w.count 16) w.pairs) % 2 ≡ 0 = rw (length-take-le (2 * min w.count 16) w.pairs (omega (arith, long))) (omega arith) in
      ap cover_of more-is ∙ ap (λ xs. stretches_in xs) taken ∙ pair-behind (take (2 * min w.count 16) w.pairs) start len even

-- pairs of numbers behind stretches: all of them, as long as there is room
gathers : (w : Stretches) (xs : List ℕ) → length w.pairs ≡ 32 → 2 * w.count + length xs ≤ 32 → length xs % 2 ≡ 0 → cover_of (gathered w xs) ≡ cover_of w ++ stretches_in xs
unfolding gathered stretches_in
gathers w [] long room e = sym (append-nil (cover_of w))
gathers w (x ∷ []) long room e = absurd (omega (arith, e))
gathers w (x ∷ y ∷ xs) long room e =
    let few : w.count < 16 = omega (arith, room) in
    let next = more-is w x y few long in
    let whole : length (one_more w x y).pairs ≡ 32 =
    ap (λ v. length v.pairs) next ∙ length-set (slice_set w.pairs (2 * w.count) x) (2 * w.count + 1) y ∙ length-set w.pairs (2 * w.count) x ∙ long in
    let counted : (one_more w x y).count ≡ w.count + 1 = ap (λ v. v.count) next in
    gathers (one_more w x y) xs whole (omega (arith, room, counted)) (omega (arith, e))
    ∙ ap (λ s. s ++ stretches_in xs) (adds_one w x y few long)
    ∙ append_assoc (cover_of w) (one (record { start = x; len = y })) (stretches_in xs)

-- PAIRS OF NUMBERS, up to 32 numbers, are the cover of these pairs
pub gathered-cover : (xs : List ℕ) → length xs ≤ 32 → length xs % 2 ≡ 0 → cover_of (gathered no_stretches xs) ≡ stretches_in xs
unfolding stretches_in
gathered-cover xs room e = gathers no_stretches xs refl (omega (arith, room)) e

-- A START WITHOUT A LENGTH has the largest length, so that the cover passes the end of every image
abbrev largest : ℕ
largest = 0xFFFFFFFFFFFFFFFF

odd-as-pairs : (w : Stretches) (xs : List ℕ) → length xs % 2 ≡ 1 → gathered w xs ≡ gathered w (xs ++ one largest)
unfolding gathered
odd-as-pairs w [] e = absurd (omega (arith, e))
odd-as-pairs w (x ∷ []) e = refl
odd-as-pairs w (x ∷ y ∷ xs) e = odd-as-pairs (one_more w x y) xs (omega (arith, e))

largest-passes : (len : ℕ) (xs : List ℕ) → len < largest → length xs % 2 ≡ 1 → passes_end len (stretches_in (xs ++ one largest)) ≡ true
unfolding stretches_in any
largest-passes len [] h e = absurd (omega (arith, e))
largest-passes len (x ∷ []) h e = rw (lt-ltb len (x + largest) (omega (arith, h)))
largest-passes len (x ∷ y ∷ xs) h e = rw (largest-passes len xs h (omega (arith, e))) (or-true (nat_lt len (x + y)))

pub gathered-odd : (len : ℕ) (xs : List ℕ) → length xs ≤ 32 → length xs % 2 ≡ 1 → len < largest → passes_end len (cover_of (gathered no_stretches xs)) ≡ true
gathered-odd len xs room e h =
    let more : length (xs ++ one largest) ≡ length xs + 1 = length-append xs (one largest) in
    let cover : cover_of (gathered no_stretches xs) ≡ stretches_in (xs ++ one largest) =
    ap cover_of (odd-as-pairs no_stretches xs e) ∙ gathered-cover (xs ++ one largest) (omega (arith, room, e, more)) (omega (arith, e, more)) in
    ap (passes_end len) cover ∙ largest-passes len xs h e

-- MORE THAN 32 NUMBERS are too many stretches
count-more : (w : Stretches) (start len : ℕ) → w.count ≤ 17 → (one_more w start len).count ≡ min 17 (w.count + 1)
count-more w start len h = go (dec_le 16 w.count)
  where
    go : Dec (16 ≤ w.count) → (one_more w start len).count ≡ min 17 (w.count + 1)
    go (yes l) = rw (le-leb 16 w.count l) (omega (arith, l))
    go (no l) = rw (lt-leb 16 w.count (omega (arith, l))) (omega (arith, l))

gathered-count : (w : Stretches) (xs : List ℕ) → w.count ≤ 17 → (gathered w xs).count ≡ min 17 (w.count + (length xs + 1) / 2)
unfolding gathered
gathered-count w [] h = omega (arith, h)
gathered-count w (x ∷ []) h = count-more w x largest h
gathered-count w (x ∷ y ∷ xs) h =
    let one_more_lem = count-more w x y h in
    gathered-count (one_more w x y) xs (omega (arith, one_more_lem)) ∙ omega (arith, one_more_lem)

pub gathered-many : (xs : List ℕ) → too_many_stretches (gathered no_stretches xs) ≡ nat_lt 32 (length xs)
gathered-many xs =
    let counted = gathered-count no_stretches xs (omega arith) in
    same_test (too_many_stretches (gathered no_stretches xs)) (nat_lt 32 (length xs))
    (λ e. lt-ltb 32 (length xs) (omega (arith, counted, ltb-true 16 (gathered no_stretches xs).count e)))
    (λ e. lt-ltb 16 (gathered no_stretches xs).count (omega (arith, counted, ltb-true 32 (length xs) e)))
