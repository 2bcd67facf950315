-- Importing what was exported gives the image back, for every image. Assumes nothing.
use Prim.Native.Nat.{ℕ, zero, suc, ◌+◌, ◌-◌, ◌*◌, ◌≤◌, ◌<◌, min}
use Rattle.std.specs.Prelude.{◌≡◌, get_or}
use Rattle.std.proofs.Math.Path.{refl, sym, ap}
use Rattle.std.proofs.Common.{◌∙◌, ne_eqb, length-take, get_or-take, get_or-drop}
use mathlib.Core.List.{List, [], ◌++◌, append_assoc, append-nil}
use Rattle.std.proofs.Math.Decide.{dec_lt}
use native.Mathlib.Omega.{arith}
use Rattle.std.proofs.Math.ListN.{length, take, drop, get_or-eq_default}
use Rattle.lent.specs.Lists.{joined, from}
use Rattle.intel_hex.specs.Outcome.{made}
use Rattle.intel_hex.specs.Digits.{bytes_at}
use Rattle.intel_hex.proofs.DigitLaws.{Bytes}
use Rattle.intel_hex.specs.Import.{given, end_after, image_of, walk, imported}
use Rattle.intel_hex.proofs.ImportLaws.{walk_at, walk-on}
use Rattle.intel_hex.specs.Export.{record_line, line_of, records, text_of, exported}
use Rattle.intel_hex.proofs.ExportLaws.{lines_from, end_line, part_length, text-length, exports, exports-not}
use Rattle.intel_hex.proofs.MemoryLaws.{up_to, up_none, none-behind, up_more, image-back}
use Rattle.intel_hex.proofs.RoundTripLaws.{bytes_back, next-back, data-back, end_back}

part_bytes : (image : List ℕ) (a : ℕ) → Bytes image → Bytes (take 16 (drop a image))
part_bytes image a are k = go (dec_lt k 16)
  where
    go : Dec (k < 16) → get_or (take 16 (drop a image)) k 0 < 256
    go (yes h) = omega (arith, get_or-take 16 (drop a image) k 0 h, get_or-drop a image k 0, are (a + k))
    go (no h) =
        let past : get_or (take 16 (drop a image)) k 0 ≡ 0 = get_or-eq_default (take 16 (drop a image)) 0 {n = k} (omega (arith, length-take 16 (drop a image))) in
        omega (arith, past)

module _ (image : List ℕ) (fits : length image ≤ 65536) (are : Bytes image) (text : List ℕ) where
  -- record i and the m records behind it, after those before it
  lines-back : (m i at fuel : ℕ) → drop at text ≡ lines_from image i m ++ end_line → i + m ≡ records (length image) → m < fuel
      → walk text fuel at (up_to image (min (16 * i) (length image))) (min (16 * i) (length image)) ≡ made image
  unfolding lines_from from joined
  lines-back zero i at fuel e n h =
      let all : min (16 * i) (length image) ≡ length image = omega arith in
      let there : drop at text ≡ record_line 1 0 [] ++ [] = e ∙ sym (append-nil end_line) in
      let none : Bytes [] = λ k. omega arith in
      let ends = end_back text at 1 0 [] [] there (omega arith) (omega arith) (omega arith) none refl refl in
      walk_at text fuel at (up_to image (min (16 * i) (length image))) (min (16 * i) (length image)) (omega arith) ends
      ∙ ap made (ap (λ j. image_of (up_to image j) j) all ∙ image-back image)
  lines-back (suc m) i at fuel e n h =
      let a = 16 * i in
      let part = take 16 (drop a image) in
      let rest = lines_from image (i + 1) m ++ end_line in
      let size = part_length image i in
      let low : a < length image = omega (arith, n) in
      let here : min a (length image) ≡ a = omega (arith, low) in
      let some : length part ≡ 0 → ⊥ = λ z. omega (arith, size, low, z) in
      let sum : a + length part ≡ min (16 * (i + 1)) (length image) = omega (arith, size, low) in
      let there : drop at text ≡ record_line 0 a part ++ rest = e ∙ append_assoc (line_of image i) (lines_from image (i + 1) m) end_line in
      let short : length part ≤ 255 = omega (arith, size) in
      let in_memory : a < 65536 = omega (arith, low) in
      let bytes = part_bytes image a are in
      let next = at + 12 + 2 * length part in
      let found = data-back text at 0 a part rest there short in_memory (omega arith) bytes refl (omega (arith, size, low)) in
      let back = bytes_back text at 0 a part rest there short in_memory (omega arith) bytes in
      let memory : given a (bytes_at text (at + 9) (length part)) (up_to image a) ≡ up_to image (min (16 * (i + 1)) (length image)) =
      ap (λ p. given a p (up_to image a)) back ∙ up_more image a ∙ ap (up_to image) sum in
      let end : end_after a a (length part) ≡ min (16 * (i + 1)) (length image) = rw (ne_eqb (length part) 0 some) (omega (arith, sum)) in
      ap (λ j. walk text fuel at (up_to image j) j) here
      ∙ walk-on text fuel at (up_to image a) a a (length part) next (omega arith) found (none-behind image a (length part))
      ∙ ap (λ k. walk text (fuel - 1) next k (end_after a a (length part))) memory
      ∙ ap (walk text (fuel - 1) next (up_to image (min (16 * (i + 1)) (length image)))) end
      ∙ lines-back m (i + 1) next (fuel - 1) (next-back text at 0 a part rest there short in_memory (omega arith) bytes) (omega arith) (omega arith)

-- what an image exports as, imported
pub text-back : (image : List ℕ) → length image ≤ 65536 → Bytes image → imported (text_of image) ≡ made image
unfolding text_of lines_from
text-back image fits are =
    let text = text_of image in
    let none : min (16 * 0) (length image) ≡ 0 = omega arith in
    ap (λ k. walk text (length text + 1) 0 k 0) (sym (up_none image))
    ∙ ap (λ j. walk text (length text + 1) 0 (up_to image j) j) (sym none)
    ∙ lines-back image fits are text (records (length image)) 0 0 (length text + 1) refl (omega arith) (omega (arith, text-length image))

pub import-export : (image : List ℕ) → Bytes image → {text : List ℕ} → exported image ≡ made text → imported text ≡ made image
import-export image are {text} e = go (dec_lt 65536 (length image))
  where
    go : Dec (65536 < length image) → imported text ≡ made image
    go (yes h) = let q = sym (exports-not image h) ∙ e in let z : ◌≡◌ {A = ℕ} 0 1 = cc in absurd (omega arith)
    go (no h) =
        let q : made (text_of image) ≡ made text = sym (exports image (omega arith)) ∙ e in
        let same : text ≡ text_of image = cc in
        ap imported same ∙ text-back image (omega arith) are
