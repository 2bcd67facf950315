-- When a record is read, stops the repetition, or is refused. Assumes nothing.
use Rattle.std.specs.Prelude.{ℕ, ◌+◌, ◌≤◌, ◌<◌, Bool, List, eqb, ltb, if◌then◌else◌}
use Rattle.std.proofs.Math.Path.{◌≡◌, refl}
use Rattle.std.proofs.Common.{subst, ◌∙◌}
use Rattle.std.proofs.Math.Bool.{true, false}
use native.Mathlib.Omega.{arith}
use borrow.Author.Tests.{ltb-true, ltb-false, eqb-true, eqb-false, lt-ltb, le-ltb, eq-eqb, ne_eqb}
use Rattle.std.proofs.Math.ListN.{length}
use Rattle.lent.specs.declared.refusal.Refusal.{Refusal}
use Rattle.lent.specs.declared.refusal.Refusal.TheVariants.{BodyPastEnd, LengthZero, WrongSum, LeftOver}
use Rattle.lent.specs.ChoiceLaws.{chosen}
use Rattle.lent.specs.Parts.{byte_at, word_at}
use Rattle.omf51.specs.declared.Edition.{Edition}
use Rattle.omf51.specs.declared.Edition.TheVariants.{One, Two}
use Rattle.omf51.specs.declared.Frame.{Frame}
use Rattle.omf51.specs.Reader.{ReadOutcome, read, stop, refused, Reader, and_then}
use Rattle.omf51.specs.Record.{frame_at, expected, record_sum, summed, expected_by, used_up, record_by}

-- a record whose type is not allowed here never gives 6, 7, 14 or 15: the type byte alone decides
pub not-allowed : {A : Type 0} (e : Edition) (library : List ℕ) (allowed : ℕ → Bool) (inner : Frame → Reader A) (at : ℕ)
    → allowed (byte_at library at) ≡ false → record_by e library allowed inner at ≡ stop
unfolding record_by expected_by expected
not-allowed One library allowed inner at n = rw n
not-allowed Two library allowed inner at n = rw n

-- the record that is expected at a place, by the test of its type
pub expected-there : (library : List ℕ) (allowed : ℕ → Bool) (at : ℕ) → allowed (byte_at library at) ≡ true → expected library allowed at ≡ frame_at library at
unfolding expected
expected-there library allowed at e = rw e

pub not-expected : (library : List ℕ) (allowed : ℕ → Bool) (at : ℕ) → allowed (byte_at library at) ≡ false → expected library allowed at ≡ stop
unfolding expected
not-expected library allowed at e = rw e

-- a record whose frame is known
pub record-framed : {A : Type 0} (e : Edition) (library : List ℕ) (allowed : ℕ → Bool) (inner : Frame → Reader A) (at : ℕ) {o : ReadOutcome Frame}
    → expected_by e library allowed at ≡ o → record_by e library allowed inner at ≡ and_then o λ f next. and_then (inner f f.body) λ a left. used_up e f.end a left next
unfolding record_by
record-framed e library allowed inner at q = rw q

-- what goes up to its end is used up in both editions; in edition 2 nothing shorter is
pub used_all : {A : Type 0} (e : Edition) (end : ℕ) (a : A) (left next : ℕ) → end ≤ left → used_up e end a left next ≡ read a next
used_all One end a left next h = refl
used_all Two end a left next h = rw (le-ltb left end h)

pub used-short : {A : Type 0} (end : ℕ) (a : A) (left next : ℕ) → left < end → used_up Two end a left next ≡ refused LeftOver
used-short end a left next h = rw (lt-ltb left end h)

-- 7 exactly if both length bytes are there and the length is 0; 6 exactly if it is not and the body passes the file's end
module _ (library : List ℕ) (at : ℕ) where
  abbrev len : ℕ
  len = word_at library (at + 1)

  pub record HasBody : Type 0 where
    pub there : at + 3 ≤ length library
    pub long : len ≡ 0 → ⊥

  -- what the record at a place comes to, case by case
  pub data Framed : ReadOutcome Frame → Type 0 where
    cut : length library < at + 3 → Framed stop
    empty : at + 3 ≤ length library → len ≡ 0 → Framed (refused LengthZero)
    past : HasBody → length library < at + 2 + len → Framed (refused BodyPastEnd)
    unclosed : HasBody → length library ≡ at + 2 + len → Framed stop
    whole : HasBody → at + 3 + len ≤ length library
        → Framed (read (record { kind = byte_at library at; body = at + 3; end = at + 2 + len }) (at + 3 + len))

  pub framed : Framed (frame_at library at)
  unfolding frame_at
  framed =
      chosen Framed (ltb (length library) (at + 3)) (λ e. cut (ltb-true (length library) (at + 3) e)) λ e.
      let there : at + 3 ≤ length library = ltb-false (length library) (at + 3) e in
      chosen Framed (eqb len 0) (λ z. empty there (eqb-true len 0 z)) λ z.
      let body : HasBody = record { there = there; long = eqb-false len 0 z } in
      chosen Framed (ltb (length library) (at + 2 + len)) (λ p. past body (ltb-true (length library) (at + 2 + len) p)) λ p.
      let fits : at + 2 + len ≤ length library = ltb-false (length library) (at + 2 + len) p in
      chosen Framed (ltb (length library) (at + 3 + len))
      (λ c. unclosed body (omega (arith, fits, ltb-true (length library) (at + 3 + len) c)))
      (λ c. whole body (ltb-false (length library) (at + 3 + len) c))

  -- the same for a reader that tests in this order
  pub frame-cut : length library < at + 3 → frame_at library at ≡ stop
  unfolding frame_at
  frame-cut h = rw (lt-ltb (length library) (at + 3) h)

  pub frame-empty : at + 3 ≤ length library → len ≡ 0 → frame_at library at ≡ refused LengthZero
  unfolding frame_at
  frame-empty h z = rw (le-ltb (length library) (at + 3) h, eq-eqb len 0 z)

  module _ (h : at + 3 ≤ length library) {n : ℕ} (e : n ≡ len) (z : n ≡ 0 → ⊥) where
    pub frame_past : length library < at + 2 + n → frame_at library at ≡ refused BodyPastEnd
    unfolding frame_at
    frame_past l = rw (le-ltb (length library) (at + 3) h, ← e, ne_eqb n 0 z, lt-ltb (length library) (at + 2 + n) l)

    pub frame-unclosed : length library ≡ at + 2 + n → frame_at library at ≡ stop
    unfolding frame_at
    frame-unclosed l =
        rw
        (le-ltb (length library) (at + 3) h, ← e, ne_eqb n 0 z, le-ltb (length library) (at + 2 + n) (omega arith), lt-ltb (length library) (at + 3 + n) (omega arith))

    pub frame-whole : at + 2 + n < length library
        → frame_at library at ≡ read (record { kind = byte_at library at; body = at + 3; end = at + 2 + n }) (at + 2 + n + 1)
    unfolding frame_at
    frame-whole l =
        let next : at + 3 + n ≡ at + 2 + n + 1 = omega arith in
        rw
        (le-ltb (length library) (at + 3) h, ← e, ne_eqb n 0 z, le-ltb (length library) (at + 2 + n) (omega arith), le-ltb (length library) (at + 3 + n) (omega arith), next)

-- a record that is read stands within the library, its checksum byte too
pub record Fits (library : List ℕ) (at : ℕ) (f : Frame) (next : ℕ) : Type 0 where
  pub kind-is : f.kind ≡ byte_at library at
  pub body_is : f.body ≡ at + 3
  pub forward : f.body ≤ f.end
  pub next-is : next ≡ f.end + 1
  pub inside : next ≤ length library

abbrev pub FrameFits : List ℕ → ℕ → ReadOutcome Frame → Type 0
FrameFits library at (read f next) = Fits library at f next
FrameFits library at stop = Unit
FrameFits library at (refused r) = Unit

pub expected-fits : (library : List ℕ) (allowed : ℕ → Bool) (at : ℕ) → FrameFits library at (expected library allowed at)
unfolding expected
expected-fits library allowed at = chosen (FrameFits library at) (allowed (byte_at library at)) (λ e. fits (framed library at)) (λ e. tt)
  where
    positive : (n : ℕ) → (n ≡ 0 → ⊥) → 0 < n
    positive n h = omega arith

    fits : {o : ReadOutcome Frame} → Framed library at o → FrameFits library at o
    fits (cut l) = tt
    fits (empty l z) = tt
    fits (past b l) = tt
    fits (unclosed b l) = tt
    fits (whole b l) =
        let p = positive (word_at library (at + 1)) b.long in
        record { kind-is = refl; body_is = refl; forward = omega arith; next-is = omega arith; inside = l }

pub read_fits : (library : List ℕ) (allowed : ℕ → Bool) (at : ℕ) {f : Frame} {next : ℕ} → expected library allowed at ≡ read f next → Fits library at f next
read_fits library allowed at e = subst (FrameFits library at) e (expected-fits library allowed at)

-- edition 1 asks for nothing more
pub first-expected : (library : List ℕ) (allowed : ℕ → Bool) (at : ℕ) → expected_by One library allowed at ≡ expected library allowed at
unfolding expected_by
first-expected library allowed at = refl

-- where there is no record, or it is refused, both editions say what edition 1 says
module _ (e : Edition) (library : List ℕ) (allowed : ℕ → Bool) (at : ℕ) where
  pub stops_by : expected library allowed at ≡ stop → expected_by e library allowed at ≡ stop
  unfolding expected_by
  stops_by q = go e
    where
      go : (e : Edition) → expected_by e library allowed at ≡ stop
      go One = q
      go Two = rw q

  pub refuses_by : {r : Refusal} → expected library allowed at ≡ refused r → expected_by e library allowed at ≡ refused r
  unfolding expected_by
  refuses_by {r} q = go e
    where
      go : (e : Edition) → expected_by e library allowed at ≡ refused r
      go One = q
      go Two = rw q

-- in an edition: edition 2 reads a record if its sum is 0, and refuses it otherwise
module _ (library : List ℕ) (allowed : ℕ → Bool) (at : ℕ) where
  pub sum-right : {f : Frame} {next : ℕ} → expected library allowed at ≡ read f next → record_sum library at next ≡ 0
      → expected_by Two library allowed at ≡ read f next
  unfolding expected_by
  sum-right {f} {next} e z = rw (e, eq-eqb (record_sum library at next) 0 z)

  pub sum-wrong : {f : Frame} {next : ℕ} → expected library allowed at ≡ read f next → (record_sum library at next ≡ 0 → ⊥)
      → expected_by Two library allowed at ≡ refused WrongSum
  unfolding expected_by
  sum-wrong {f} {next} e z = rw (e, ne_eqb (record_sum library at next) 0 z)

  -- where there is none, edition 2 says what edition 1 says
  pub sum-unasked : {o : ReadOutcome Frame} → expected library allowed at ≡ o → ((f : Frame) (next : ℕ) → o ≡ read f next → ⊥) → expected_by Two library allowed at ≡ o
  unfolding expected_by
  sum-unasked {o} e n = rw e (go o n)
    where
      go : (o : ReadOutcome Frame) → ((f : Frame) (next : ℕ) → o ≡ read f next → ⊥) → and_then o (summed library at) ≡ o
      go (read f next) n = absurd (n f next refl)
      go stop n = refl
      go (refused r) n = refl

  pub fits_by : (e : Edition) → FrameFits library at (expected_by e library allowed at)
  unfolding expected_by
  fits_by One = expected-fits library allowed at
  fits_by Two = go (expected library allowed at) (expected-fits library allowed at)
    where
      go : (o : ReadOutcome Frame) → FrameFits library at o → FrameFits library at (and_then o (summed library at))
      go (read f next) h = chosen (FrameFits library at) (eqb (record_sum library at next) 0) (λ _. h) (λ _. tt)
      go stop h = tt
      go (refused r) h = tt

  -- what edition 2 reads, edition 1 reads
  pub read_first : (e : Edition) {f : Frame} {next : ℕ} → expected_by e library allowed at ≡ read f next → expected library allowed at ≡ read f next
  unfolding expected_by
  read_first One q = q
  read_first Two {f} {next} q = go (expected library allowed at) refl q
    where
      either : (t : Bool) (o : ReadOutcome Frame) → (if t then o else refused WrongSum) ≡ read f next → o ≡ read f next
      either true o h = h
      either false o h = let z : ◌≡◌ {A = ℕ} 0 1 = cc in absurd (omega arith)

      go : (o : ReadOutcome Frame) → expected library allowed at ≡ o → and_then o (summed library at) ≡ read f next → expected library allowed at ≡ read f next
      go (read g k) p h = p ∙ either (eqb (record_sum library at k) 0) (read g k) h
      go stop p h = let z : ◌≡◌ {A = ℕ} 0 1 = cc in absurd (omega arith)
      go (refused r) p h = let z : ◌≡◌ {A = ℕ} 0 1 = cc in absurd (omega arith)

  pub read_by : (e : Edition) {f : Frame} {next : ℕ} → expected_by e library allowed at ≡ read f next → Fits library at f next
  read_by e q = subst (FrameFits library at) q (fits_by e)
