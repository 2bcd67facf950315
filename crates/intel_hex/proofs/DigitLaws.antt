-- Digits there and back, and a text that begins with them. Assumes nothing.
use Rattle.std.specs.Prelude.{ℕ, zero, suc, ◌+◌, ◌*◌, ◌/◌, ◌%◌, ◌<◌, ◌≡◌, refl, true, List, [], ◌∷◌, ◌++◌, eqb, ltb, length, get_or, drop, if◌then◌else◌}
use Rattle.std.proofs.Common.{sym, ap, ◌∙◌, add-zero, mod-lt, arith, eqb-true, lt-ltb, get_or-drop, drop-drop}
use Rattle.std.specs.Int.Bits.{bit_or}
use Rattle.lent.specs.Lists.{all, from, joined}
use Rattle.lent.specs.ListLaws.{every}
use Rattle.intel_hex.specs.Digits.{digit_value, digit_at, is_digit_at, byte_at, bytes_at, are_digits, digit, two_digits, all_digits}

-- all elements of a list are bytes
abbrev pub Bytes : List ℕ → Type 0
Bytes xs = (k : ℕ) → get_or xs k 0 < 256

-- a digit that was written is read as its number
digit-back : (n : ℕ) → n < 16 → digit_value (digit n) ≡ n
unfolding all from digit_value digit
digit-back n h = eqb-true (digit_value (digit n)) n (every (λ k. eqb (digit_value (digit k)) k) 0 16 test n (omega arith) (omega arith))
  where
    test : all (λ k. eqb (digit_value (digit k)) k) (from 0 16) ≡ true
    test = refl

-- what the digits at a place stand for is a byte
pub byte-below : (text : List ℕ) (at : ℕ) → byte_at text at < 256
unfolding byte_at
byte-below text at = omega (arith, mod-lt (digit_at text at) {m = 16} (omega arith), mod-lt (digit_at text (at + 1)) {m = 16} (omega arith))

pub bytes-length : (text : List ℕ) (at n : ℕ) → length (bytes_at text at n) ≡ n
unfolding bytes_at
bytes-length text at zero = refl
bytes-length text at (suc n) = ap suc (bytes-length text (at + 2) n)

pub bytes_below : (text : List ℕ) (at n : ℕ) → Bytes (bytes_at text at n)
unfolding bytes_at
bytes_below text at zero k = omega arith
bytes_below text at (suc n) zero = byte-below text at
bytes_below text at (suc n) (suc k) = bytes_below text (at + 2) n k

-- a text that goes on with a character at a place
pub record Fronted (text : List ℕ) (at x : ℕ) (rest : List ℕ) : Type 0 where
  pub here : get_or text at 0 ≡ x
  pub next : drop (at + 1) text ≡ rest

pub fronted : (text : List ℕ) (at x : ℕ) (rest : List ℕ) → drop at text ≡ x ∷ rest → Fronted text at x rest
fronted text at x rest e = record {
  here = ap (λ k. get_or text k 0) (sym (add-zero at)) ∙ sym (get_or-drop at text 0 0) ∙ ap (λ l. get_or l 0 0) e;
  next = sym (drop-drop 1 at text) ∙ ap (drop 1) e;
}

-- a text that goes on with the digits of bytes: they are read back, and the text goes on behind them
pub record Read (text : List ℕ) (at : ℕ) (bytes rest : List ℕ) : Type 0 where
  pub back : bytes_at text at (length bytes) ≡ bytes
  pub digits : are_digits text at (length bytes) ≡ true
  pub next : drop (at + 2 * length bytes) text ≡ rest

record Two (text : List ℕ) (at b : ℕ) (rest : List ℕ) : Type 0 where
  byte : byte_at text at ≡ b
  high : is_digit_at text at ≡ true
  low : is_digit_at text (at + 1) ≡ true
  behind : drop (at + 2) text ≡ rest

two-read : (text : List ℕ) (at b : ℕ) (rest : List ℕ) → b < 256 → drop at text ≡ two_digits b ++ rest → Two text at b rest
unfolding byte_at digit_at
two-read text at b rest h e =
    let f = fronted text at (digit (b / 16)) (digit (b % 16) ∷ rest) e in
    let g = fronted text (at + 1) (digit (b % 16)) rest f.next in
    let x : digit_at text at ≡ b / 16 = ap digit_value f.here ∙ digit-back (b / 16) (omega arith) in
    let y : digit_at text (at + 1) ≡ b % 16 = ap digit_value g.here ∙ digit-back (b % 16) (omega arith) in
    let two : at + 2 ≡ at + 1 + 1 = omega arith in
    record {
      byte = omega (arith, x, y);
      high = lt-ltb (digit_at text at) 16 (omega (arith, x));
      low = lt-ltb (digit_at text (at + 1)) 16 (omega (arith, y));
      behind = ap (λ k. drop k text) two ∙ g.next;
    }

pub digits-read : (bytes text : List ℕ) (at : ℕ) (rest : List ℕ) → Bytes bytes → drop at text ≡ all_digits bytes ++ rest → Read text at bytes rest
unfolding joined bytes_at are_digits
digits-read [] text at rest h e = record { back = refl; digits = refl; next = ap (λ k. drop k text) (add-zero at) ∙ e }
digits-read (b ∷ bytes) text at rest h e =
    let t = two-read text at b (all_digits bytes ++ rest) (h 0) e in
    let r = digits-read bytes text (at + 2) rest (λ k. h (suc k)) t.behind in
    let more : at + 2 * suc (length bytes) ≡ at + 2 + 2 * length bytes = omega arith in
    record { back = rw (t.byte, r.back); digits = rw (t.high, t.low, r.digits); next = ap (λ k. drop k text) more ∙ r.next }

-- the value of a character as the code finds it: two ranges, each told by one test
abbrev pub figure : ℕ → ℕ
figure c = (c + 208) % 256

abbrev pub letter : ℕ → ℕ
letter c = (bit_or c 32 + 159) % 256

pub value-by : (c : ℕ) → c < 256 → (if ltb (figure c) 10 then figure c else if ltb (letter c) 6 then letter c + 10 else 16) ≡ digit_value c
unfolding all from digit_value
value-by c h = eqb-true (by c) (digit_value c) (every (λ k. eqb (by k) (digit_value k)) 0 256 test c (omega arith) (omega arith))
  where
    by : ℕ → ℕ
    by k = if ltb (figure k) 10 then figure k else if ltb (letter k) 6 then letter k + 10 else 16

    test : all (λ k. eqb (by k) (digit_value k)) (from 0 256) ≡ true
    test = refl
