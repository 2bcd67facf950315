-- Text stored piece by piece. Assumes nothing.
use Prim.Native.Nat.{ℕ, zero, suc, ◌+◌, ◌-◌, ◌*◌, ◌/◌, ◌%◌, ◌≤◌, ◌<◌, min}
use Rattle.std.specs.Prelude.{◌≡◌, refl, List, [], ◌∷◌, ◌++◌, length, get_or, set, take, drop}
use Rattle.std.proofs.Math.Path.{sym, ap}
use Rattle.std.proofs.Common.{◌∙◌, drop-drop, append_assoc, add-zero, add-suc, suc-add, le-leb, drop_of_length-le, length-take, length-drop, take_all}
use Rattle.std.proofs.Math.Decide.{dec_lt}
use native.Mathlib.Omega.{arith}
use Rattle.std.proofs.lemmas.Bool.{lt-leb}
use Rattle.std.proofs.Math.ListN.{length-append}
use Rattle.std.proofs.Math.Seq.{take-append_seam, drop-append_seam}
use Rattle.std.proofs.lemmas.List.Edits.{sets}
use Rattle.lent.specs.Lists.{one, joined, from, total}
use Rattle.lent.specs.ListLaws.{from-turn, joined-turn, joined-append}
use Rattle.lent.specs.PartLaws.{drop-turn}
use Rattle.intel_hex.specs.Digits.{sum, two_digits, all_digits}
use Rattle.intel_hex.specs.Export.{body, checksum, record_line, line_of, records, text_of, text_length, exported}
use Rattle.intel_hex.specs.Outcome.{made, refused}
use Rattle.intel_hex.specs.declared.HexRefusal.TheVariants.{ImageTooLong}

-- one piece behind another
pub sets_more : (out : List ℕ) (at : ℕ) (s t : List ℕ) → sets (sets out at s) (at + length s) t ≡ sets out at (s ++ t)
sets_more out at [] t = rw add-zero
sets_more out at (x ∷ s) t = rw (add-suc, ← suc-add) (sets_more (set out at x) (suc at) s t)

pub digits-length : (bytes : List ℕ) → length (all_digits bytes) ≡ 2 * length bytes
unfolding joined
digits-length [] = refl
digits-length (b ∷ bytes) = omega (arith, digits-length bytes)

-- bytes, one by one: their digits, and their sum
module _ (bytes : List ℕ) where
  pub digits_more : (out : List ℕ) (to i : ℕ) → i < length bytes
      → sets (sets out to (two_digits (get_or bytes i 0))) (to + 2) (all_digits (drop (i + 1) bytes)) ≡ sets out to (all_digits (drop i bytes))
  unfolding joined
  digits_more out to i h = rw (drop-turn bytes i 0 h) (sets_more out to (two_digits (get_or bytes i 0)) (all_digits (drop (i + 1) bytes)))

  pub digits-all : (out : List ℕ) (to i : ℕ) → length bytes ≤ i → out ≡ sets out to (all_digits (drop i bytes))
  unfolding joined
  digits-all out to i h = rw (drop_of_length-le bytes h)

-- a text that begins where the one before it ends
then-sets : (out : List ℕ) (at : ℕ) (s t : List ℕ) {b : ℕ} → b ≡ at + length s → sets (sets out at s) b t ≡ sets out at (s ++ t)
then-sets out at s t e = rw e (sets_more out at s t)

-- a record, piece by piece: its head, its data, its check byte, LF
abbrev pub head : ℕ → ℕ → ℕ → List ℕ
head kind address size = size ∷ address / 256 ∷ address % 256 ∷ kind ∷ []

module _ (kind address : ℕ) (bytes : List ℕ) where
  abbrev pub first : List ℕ
  first = head kind address (length bytes)

  -- what its bytes sum to before the check byte, as its two parts
  abbrev pub whole : ℕ
  whole = sum first + sum bytes

  whole_is : whole ≡ sum (body kind address bytes)
  unfolding total
  whole_is = omega arith

  pub pieces : one 0x3A ++ (all_digits first ++ (all_digits bytes ++ (two_digits (checksum whole) ++ one 0x0A))) ≡ record_line kind address bytes
  unfolding record_line joined
  pieces =
      let check = checksum (sum (body kind address bytes)) in
      let digits : all_digits first ++ (all_digits bytes ++ two_digits check) ≡ all_digits (body kind address bytes ++ one check) =
      sym (joined-append two_digits first (bytes ++ one check) ∙ ap (λ t. all_digits first ++ t) (joined-append two_digits bytes (one check))) in
      ap (λ n. one 0x3A ++ (all_digits first ++ (all_digits bytes ++ (two_digits (checksum n) ++ one 0x0A)))) whole_is
      ∙ ap (λ t. one 0x3A ++ t) (ap (λ t. all_digits first ++ t) (sym (append_assoc (all_digits bytes) (two_digits check) (one 0x0A)))
      ∙ sym (append_assoc (all_digits first) (all_digits bytes ++ two_digits check) (one 0x0A))
      ∙ ap (λ t. t ++ one 0x0A) digits)

  pub line-length : length (record_line kind address bytes) ≡ 12 + 2 * length bytes
  line-length = sym (ap length pieces) ∙ simp length-append (omega (arith, digits-length bytes, digits-length first))

  pub line-stored : (out : List ℕ) (at : ℕ)
      → set (sets (sets (sets (set out at 0x3A) (at + 1) (all_digits first)) (at + 9) (all_digits bytes)) (at + 9 + 2 * length bytes) (two_digits (checksum whole)))
      (at + 11 + 2 * length bytes) 0x0A
      ≡ sets out at (record_line kind address bytes)
  line-stored out at =
      let eight : length (all_digits first) ≡ 8 = digits-length first in
      let o₁ = set out at 0x3A in
      let o₂ = sets o₁ (at + 1) (all_digits first) in
      let o₃ = sets o₂ (at + 9) (all_digits bytes) in
      let last = two_digits (checksum whole) in
      then-sets o₃ (at + 9 + 2 * length bytes) last (one 0x0A) (omega arith)
      ∙ then-sets o₂ (at + 9) (all_digits bytes) (last ++ one 0x0A) (omega (arith, digits-length bytes))
      ∙ then-sets o₁ (at + 1) (all_digits first) (all_digits bytes ++ (last ++ one 0x0A)) (omega arith)
      ∙ then-sets out at (one 0x3A) (all_digits first ++ (all_digits bytes ++ (last ++ one 0x0A))) refl
      ∙ ap (sets out at) pieces

-- the lines of an image from record i on, m of them
unfoldable pub lines_from : List ℕ → ℕ → ℕ → List ℕ
lines_from image i m = joined (line_of image) (from i m)

abbrev pub end_line : List ℕ
end_line = record_line 1 0 []

module _ (image : List ℕ) where
  pub lines-turn : (i n : ℕ) → i < n → lines_from image i (n - i) ≡ line_of image i ++ lines_from image (i + 1) (n - (i + 1))
  unfolding lines_from
  lines-turn i n h = joined-turn (line_of image) (from-turn i n h)

  pub lines_end : (i n : ℕ) → n ≤ i → lines_from image i (n - i) ≡ []
  unfolding lines_from from joined
  lines_end i n h = let none : n - i ≡ 0 = omega arith in rw none

  pub part_length : (i : ℕ) → length (take 16 (drop (16 * i) image)) ≡ min 16 (length image - 16 * i)
  part_length i = rw (length-take, length-drop)

  lines-length : (m i : ℕ) → i + m ≡ records (length image) → length (lines_from image i m) ≡ 12 * m + 2 * (length image - 16 * i)
  unfolding lines_from from joined
  lines-length zero i e = omega arith
  lines-length (suc m) i e =
      rw (length-append (line_of image i) (joined (line_of image) (from (i + 1) m)))
      (omega (arith, e, line-length 0 (16 * i) (take 16 (drop (16 * i) image)), part_length i, lines-length m (i + 1) (omega arith)))

  pub text-length : length (text_of image) ≡ text_length (length image)
  unfolding text_of lines_from
  text-length =
      length-append (lines_from image 0 (records (length image))) end_line
      ∙ omega (arith, lines-length (records (length image)) 0 (omega arith), line-length 1 0 [])

  -- the bytes of record i, as the first of the pieces that are left of the image; and the pieces behind them
  module _ (i : ℕ) (part rest : List ℕ) (e : drop (16 * i) image ≡ part ++ rest) (size : length part ≡ min 16 (length (drop (16 * i) image))) where
    pub part-is : part ≡ take 16 (drop (16 * i) image)
    part-is = rw (← e) at (sym (take-append_seam part rest)) ∙ go (dec_lt (length (drop (16 * i) image)) 16)
      where
        go : Dec (length (drop (16 * i) image) < 16) → take (length part) (drop (16 * i) image) ≡ take 16 (drop (16 * i) image)
        go (yes h) = take_all (length part) (drop (16 * i) image) (omega (arith, size)) ∙ sym (take_all 16 (drop (16 * i) image) (omega arith))
        go (no h) = let all : length part ≡ 16 = omega (arith, size) in rw all

    pub part-behind : rest ≡ drop (16 * (i + 1)) image
    part-behind = rw (← e) at (sym (drop-append_seam part rest)) ∙ drop-drop (length part) (16 * i) image ∙ go (dec_lt (length (drop (16 * i) image)) 16)
      where
        go : Dec (length (drop (16 * i) image) < 16) → drop (16 * i + length part) image ≡ drop (16 * (i + 1)) image
        go (yes h) =
            drop_of_length-le image (omega (arith, size, length-drop (16 * i) image))
            ∙ sym (drop_of_length-le image (omega (arith, size, length-drop (16 * i) image)))
        go (no h) = let all : 16 * i + length part ≡ 16 * (i + 1) = omega (arith, size) in rw all

  -- the lines that are left, stored: one more, all
  pub lines_more : (i n at : ℕ) (out : List ℕ) {b : ℕ} → i < n → b ≡ at + length (line_of image i)
      → sets (sets out at (line_of image i)) b (lines_from image (i + 1) (n - (i + 1)) ++ end_line) ≡ sets out at (lines_from image i (n - i) ++ end_line)
  lines_more i n at out h e =
      then-sets out at (line_of image i) (lines_from image (i + 1) (n - (i + 1)) ++ end_line) e
      ∙ ap (sets out at) (sym (append_assoc (line_of image i) (lines_from image (i + 1) (n - (i + 1))) end_line) ∙ ap (λ t. t ++ end_line) (sym (lines-turn i n h)))

  pub lines-all : (i n at : ℕ) (out : List ℕ) → n ≤ i → sets out at end_line ≡ sets out at (lines_from image i (n - i) ++ end_line)
  lines-all i n at out h = ap (λ t. sets out at (t ++ end_line)) (sym (lines_end i n h))

  pub lines_none : (out : List ℕ) → sets out 0 (lines_from image 0 (records (length image) - 0) ++ end_line) ≡ sets out 0 (text_of image)
  unfolding text_of lines_from
  lines_none out = let all : records (length image) - 0 ≡ records (length image) = omega arith in rw all

  -- what an image exports as
  pub exports : length image ≤ 65536 → exported image ≡ made (text_of image)
  exports h = rw (le-leb (length image) 0x10000 h)

  pub exports-not : 65536 < length image → exported image ≡ refused ImageTooLong
  exports-not h = rw (lt-leb (length image) 0x10000 h)

-- room for the lines that are left, after one more
pub room-more : (n i at room : ℕ) {size left : ℕ} → i < records n → size ≡ min 16 (n - 16 * i) → left ≡ room
    → at + 12 * (records n - i) + 2 * (n - 16 * i) + 12 ≤ room
    → at + (12 + 2 * size) + 12 * (records n - (i + 1)) + 2 * (n - 16 * (i + 1)) + 12 ≤ left
room-more n i at room {size} {left} l e f h = bytes (omega arith) (omega arith)
  where
    bytes : size + (n - 16 * (i + 1)) ≡ n - 16 * i → records n - i ≡ records n - (i + 1) + 1
        → at + (12 + 2 * size) + 12 * (records n - (i + 1)) + 2 * (n - 16 * (i + 1)) + 12 ≤ left
    bytes a b = go size (n - 16 * (i + 1)) (n - 16 * i) (records n - i) (records n - (i + 1)) a b h
      where
        go : (x y z c d : ℕ) → x + y ≡ z → c ≡ d + 1 → at + 12 * c + 2 * z + 12 ≤ room → at + (12 + 2 * x) + 12 * d + 2 * y + 12 ≤ left
        go x y z c d p q g = omega (arith, f, g)
