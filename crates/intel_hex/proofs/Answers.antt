-- What an answer tells: 2 and 9 exactly in their cases, a refusal by its number, and the buffer untouched by every refusal.
-- Assumes nothing.
use Rattle.std.specs.Prelude.{ℕ, ◌<◌, ◌≡◌, refl, ◌↔◌, Bool, true, false, Result, Ok, Err, List, ◌++◌, leb, eqb, length, drop, if◌then◌else◌}
use Rattle.std.proofs.Common.{sym, ap, ◌∙◌, arith, le-leb}
use Rattle.std.proofs.Math.Decide.{dec_lt}
use Rattle.intel_hex.specs.declared.HexRefusal.{HexRefusal}
use Rattle.intel_hex.specs.declared.HexRefusal.TheVariants.{ImageTooLong, NoRoom, BadText, WrongSum, OtherType, PastEnd, GivenTwice, NoEndRecord}
use Rattle.intel_hex.specs.Outcome.{hex_number, Made, made, refused, stored}
use Rattle.intel_hex.specs.Export.{exported}
use Rattle.intel_hex.proofs.ExportLaws.{exports, exports-not}
use Rattle.intel_hex.proofs.ImportLaws.{no_room}

-- a refusal is known by its number
abbrev of_number : ℕ → HexRefusal
of_number n =
    if eqb n 2 then ImageTooLong
    else if eqb n 9 then NoRoom
    else if eqb n 20 then BadText
    else if eqb n 21 then WrongSum
    else if eqb n 22 then OtherType
    else if eqb n 23 then PastEnd
    else if eqb n 24 then GivenTwice
    else NoEndRecord

number-back : (r : HexRefusal) → of_number (hex_number r) ≡ r
number-back ImageTooLong = refl
number-back NoRoom = refl
number-back BadText = refl
number-back WrongSum = refl
number-back OtherType = refl
number-back PastEnd = refl
number-back GivenTwice = refl
number-back NoEndRecord = refl

pub number-tells : (a b : HexRefusal) → hex_number a ≡ hex_number b → a ≡ b
number-tells a b e = sym (number-back a) ∙ ap of_number e ∙ number-back b

-- every refusal leaves the buffer as it was
pub untouched : (m : Made) (out : List ℕ) {r : HexRefusal} {left : List ℕ} → ◌≡◌ {A = Result ℕ HexRefusal × List ℕ} (stored m out) (Err r, left) → left ≡ out
untouched (refused s) out e = sym (ap (λ (p : Result ℕ HexRefusal × List ℕ). p.1) e)
untouched (made bytes) out {r} {left} e = go (leb (length bytes) (length out)) e
  where
    go : (t : Bool) → ◌≡◌ {A = Result ℕ HexRefusal × List ℕ} (if t then (Ok (length bytes), bytes ++ drop (length bytes) out) else (Err NoRoom, out)) (Err r, left) → left ≡ out
    go true q = let d = ap (λ (p : Result ℕ HexRefusal × List ℕ). p.0) q in let z : ◌≡◌ {A = ℕ} 0 1 = cc in absurd (omega arith)
    go false q = sym (ap (λ (p : Result ℕ HexRefusal × List ℕ). p.1) q)

-- 9 exactly if there is something to write and the buffer is shorter
pub nine : (bytes out : List ℕ) → (◌≡◌ {A = Result ℕ HexRefusal × List ℕ} (stored (made bytes) out) (Err NoRoom, out)) ↔ (length out < length bytes)
nine bytes out = (
  (λ e. go e (dec_lt (length out) (length bytes))),
  (λ h. sym (no_room bytes out h)),
)
  where
    go : ◌≡◌ {A = Result ℕ HexRefusal × List ℕ} (stored (made bytes) out) (Err NoRoom, out) → Dec (length out < length bytes) → length out < length bytes
    go e (yes h) = h
    go e (no h) =
        let w : ◌≡◌ {A = Result ℕ HexRefusal × List ℕ} (stored (made bytes) out) (Ok (length bytes), bytes ++ drop (length bytes) out) =
        rw (le-leb (length bytes) (length out) (omega arith)) in
        let q = ap (λ (p : Result ℕ HexRefusal × List ℕ). p.0) (sym w ∙ e) in
        let z : ◌≡◌ {A = ℕ} 0 1 = cc in
        absurd (omega arith)

-- export refuses an image by itself with 2 alone, exactly if it is longer than 65,536 bytes
pub two : (image : List ℕ) (r : HexRefusal) → (exported image ≡ refused r) ↔ ((r ≡ ImageTooLong) × (65536 < length image))
two image r = (
  (λ e. go e (dec_lt 65536 (length image))),
  (λ h. exports-not image h.1 ∙ ap refused (sym h.0)),
)
  where
    go : exported image ≡ refused r → Dec (65536 < length image) → (r ≡ ImageTooLong) × (65536 < length image)
    go e (yes h) = let q = sym e ∙ exports-not image h in (cc, h)
    go e (no h) = let q = sym (exports image (omega arith)) ∙ e in let z : ◌≡◌ {A = ℕ} 0 1 = cc in absurd (omega arith)
