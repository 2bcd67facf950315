-- One segment's part of pattern memory: zeros behind the patterns stored before, into which the segment's contents are
-- merged. Assumes nothing.
use Prim.Native.Nat.{ℕ, zero, suc, ◌+◌, ◌-◌, ◌≤◌}
use Rattle.std.specs.Prelude.{◌≡◌, length}
use Rattle.std.proofs.Math.Path.{refl, ap}
use Rattle.std.proofs.Common.{sym, ◌∙◌, arith, length-append}
use mathlib.Core.List.{List, [], ◌∷◌, ◌++◌, append_assoc}
use Rattle.std.specs.Int.Bits.{or_zero_l}
use Rattle.std.proofs.lemmas.List.{length-replicate}
use Rattle.lent.specs.Lists.{fold}
use Rattle.lent.specs.Rows.{zeros}
use Rattle.omf51.specs.Module.{Section}
use Rattle.segments.specs.Masks.{ored, merged, filled}
use Rattle.segments.proofs.MaskLaws.{merged-length, filled-length}
use Rattle.segment_parts.specs.merge.MergedAt.{merged_at}
use Rattle.segment_parts.specs.merge.MergeLaws.{merged-region}
use Rattle.segment_parts.specs.Patterns.{merged_one, merged_all}
use Rattle.collect.specs.stored.Stores.{Padded}

zeros-split : (a b : ℕ) → zeros (a + b) ≡ zeros a ++ zeros b
zeros-split zero b = let e : 0 + b ≡ b = omega arith in rw e refl
zeros-split (suc a) b = let e : suc a + b ≡ suc (a + b) = omega arith in rw e (ap (λ xs. 0 ∷ xs) (zeros-split a b))

-- memory with a region of zeros behind what it holds
module _ (xs m : List ℕ) (start size : ℕ) (p : Padded xs m) (long : length xs ≡ start) (fits : start + size ≤ length m) where
  abbrev rest : ℕ
  rest = length m - start - size

  opened : m ≡ xs ++ (zeros size ++ zeros rest)
  opened =
      let e : length m - length xs ≡ size + rest = omega arith in
      p.memory ∙ ap (λ n. xs ++ zeros n) e ∙ ap (λ ys. xs ++ ys) (zeros-split size rest)

  closed : (region n : List ℕ) → length region ≡ size → n ≡ xs ++ (region ++ zeros rest) → Padded (xs ++ region) n
  closed region n e h =
      let k : length (xs ++ region) ≡ start + size = length-append xs region ∙ omega arith in
      let l : length n ≡ length m = ap length h ∙ length-append xs (region ++ zeros rest) ∙ ap (λ j. length xs + j) (length-append region (zeros rest) ∙ ap (λ j. length region + j) (length-replicate rest 0)) ∙ omega arith in
      let z : length n - length (xs ++ region) ≡ rest = omega arith in
      record { room = omega arith; memory = h ∙ sym (append_assoc xs region (zeros rest)) ∙ ap (λ j. (xs ++ region) ++ zeros j) (sym z) }

  -- contents merged one after another stay in their region
  merged-all : (of : Section → List ℕ) (sections : List Section) (region after : List ℕ) → length region ≡ size
      → merged_all start size of (xs ++ (region ++ after)) sections ≡ xs ++ (fold (λ q s. merged q s.content.offset (of s)) region sections ++ after)
  unfolding fold
  merged-all of [] region after e = refl
  merged-all of (s ∷ sections) region after e =
      ap (λ y. fold (merged_one start size of) y sections) (merged-region xs region after start size s.content.offset (of s) long e)
      ∙ merged-all of sections (merged region s.content.offset (of s)) after (merged-length region s.content.offset (of s) ∙ e)

  pub filled-region : (of : Section → List ℕ) (sections : List Section) {n : List ℕ} → n ≡ merged_all start size of m sections → Padded (xs ++ filled size of sections) n
  unfolding filled
  filled-region of sections {n} e =
      closed (filled size of sections) n (filled-length size of sections)
      (e ∙ ap (λ y. merged_all start size of y sections) opened ∙ merged-all of sections (zeros size) (zeros rest) (length-replicate size 0))

  -- one content that fills its region is copied
  or-zeros : (n : ℕ) (new : List ℕ) → length new ≡ n → ored (zeros n) new ≡ new
  unfolding ored
  or-zeros zero [] e = refl
  or-zeros zero (x ∷ new) e = absurd (omega arith)
  or-zeros (suc n) [] e = absurd (omega arith)
  or-zeros (suc n) (x ∷ new) e = rw (or-zeros n new (omega arith)) (ap (λ y. y ∷ new) (or_zero_l x))

  pub copied-region : (new : List ℕ) {n : List ℕ} → length new ≡ size → n ≡ merged_at m start size 0 new → Padded (xs ++ new) n
  unfolding merged
  copied-region new {n} e h =
      closed new n e (h ∙ ap (λ y. merged_at y start size 0 new) opened ∙ merged-region xs (zeros size) (zeros rest) start size 0 new long (length-replicate size 0) ∙ ap (λ y. xs ++ (y ++ zeros rest)) (or-zeros size new e))
