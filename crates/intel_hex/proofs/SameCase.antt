-- Small and capital letters import alike. Assumes nothing.
use Prim.Native.Nat.{ℕ, zero, suc, ◌+◌, ◌<◌}
use Rattle.std.specs.Prelude.{◌≡◌, true, ◌&&◌, Option, Some, None, Ok, Err, List, map, eqb, length, get_or, if◌then◌else◌}
use Rattle.std.proofs.Math.Path.{refl, ap}
use Rattle.std.proofs.Common.{sym, ◌∙◌, arith, eqb-true, leb-true}
use Rattle.std.proofs.Math.Option.{none}
use Rattle.std.proofs.Math.Dec.{leb}
use Rattle.std.proofs.lemmas.List.{length-map}
use Rattle.std.proofs.Math.ListN.{get_or-map}
use Rattle.lent.specs.ChoiceLaws.{chosen, both, same_test}
use Rattle.lent.specs.Lists.{all, from}
use Rattle.lent.specs.ListLaws.{every}
use Rattle.intel_hex.specs.declared.HexRefusal.TheVariants.{GivenTwice, NoEndRecord}
use Rattle.intel_hex.specs.declared.line.Line.{Line}
use Rattle.intel_hex.specs.Outcome.{refused}
use Rattle.intel_hex.specs.Digits.{digit_value, digit_at, byte_at, bytes_at, are_digits}
use Rattle.intel_hex.specs.Record.{ending_at, is_record, line_at, Step, step_of, record_at}
use Rattle.intel_hex.specs.Import.{Memory, given, any_given, end_after, after, walk, imported}

-- a character in small letters
unfoldable pub small : ℕ → ℕ
small c = if leb 0x41 c && leb c 0x5A then c + 0x20 else c

-- it is the same digit, and the same colon, LF or CR
small-digit : (c : ℕ) → digit_value (small c) ≡ digit_value c
unfolding small digit_value all from
small-digit c = chosen (λ x. digit_value x ≡ digit_value c) (leb 0x41 c && leb c 0x5A) capital (λ e. refl)
  where
    test : all (λ k. eqb (digit_value (k + 0x20)) (digit_value k)) (from 0x41 26) ≡ true
    test = refl

    capital : (leb 0x41 c && leb c 0x5A) ≡ true → digit_value (c + 0x20) ≡ digit_value c
    capital e =
        let b = both (leb 0x41 c) (leb c 0x5A) e in
        eqb-true (digit_value (c + 0x20)) (digit_value c)
        (every (λ k. eqb (digit_value (k + 0x20)) (digit_value k)) 0x41 26 test c (leb-true 0x41 c b.0) (omega (arith, leb-true c 0x5A b.1)))

small-sign : (c x : ℕ) → x < 0x41 → eqb (small c) x ≡ eqb c x
unfolding small
small-sign c x h = chosen (λ y. eqb y x ≡ eqb c x) (leb 0x41 c && leb c 0x5A) capital (λ e. refl)
  where
    capital : (leb 0x41 c && leb c 0x5A) ≡ true → eqb (c + 0x20) x ≡ eqb c x
    capital e =
        let l = leb-true 0x41 c (both (leb 0x41 c) (leb c 0x5A) e).0 in
        same_test (eqb (c + 0x20) x) (eqb c x)
        (λ q. absurd (omega (arith, l, eqb-true (c + 0x20) x q)))
        (λ q. absurd (omega (arith, l, eqb-true c x q)))

-- texts that differ in the case of letters only
pub record Alike (a b : List ℕ) : Type 0 where
  pub long : length a ≡ length b
  pub digit : (k : ℕ) → digit_at a k ≡ digit_at b k
  pub sign : (k x : ℕ) → x < 0x41 → eqb (get_or a k 0) x ≡ eqb (get_or b k 0) x

small-alike : (text : List ℕ) → Alike (map small text) text
unfolding digit_at small
small-alike text = record {
  long = length-map text small;
  digit = λ k. ap digit_value (get_or-map small text k 0) ∙ small-digit (get_or text k 0);
  sign = λ k x h. ap (λ c. eqb c x) (get_or-map small text k 0) ∙ small-sign (get_or text k 0) x h;
}

module _ (a b : List ℕ) (s : Alike a b) where
  byte-alike : (at : ℕ) → byte_at a at ≡ byte_at b at
  unfolding byte_at
  byte-alike at = rw (s.digit at, s.digit (at + 1))

  bytes-alike : (n at : ℕ) → bytes_at a at n ≡ bytes_at b at n
  unfolding bytes_at
  bytes-alike zero at = refl
  bytes-alike (suc n) at = rw (byte-alike at, bytes-alike n (at + 2))

  digits-alike : (n at : ℕ) → are_digits a at n ≡ are_digits b at n
  unfolding are_digits
  digits-alike zero at = refl
  digits-alike (suc n) at = rw (s.digit at, s.digit (at + 1), digits-alike n (at + 2))

  ending-alike : (at : ℕ) → ending_at a at ≡ ending_at b at
  unfolding ending_at
  ending-alike at = rw (s.long, s.sign at 0x0A (omega arith), s.sign at 0x0D (omega arith), s.sign (at + 1) 0x0A (omega arith))

  line-alike : (at : ℕ) → line_at a at ≡ line_at b at
  unfolding line_at is_record
  line-alike at =
      rw (s.sign at 0x3A (omega arith), byte-alike (at + 1), byte-alike (at + 7), s.long)
      (simp (digits-alike, ending-alike, bytes-alike))

  record-alike : (at : ℕ) → record_at a at ≡ record_at b at
  unfolding record_at
  record-alike at = rw (s.long, line-alike at) (ap (λ t. if leb (length b) at then Err NoEndRecord else t) (go (line_at b at)))
    where
      go : (l : Option Line) → step_of a at l ≡ step_of b at l
      go None = refl
      go (Some l) = rw (byte-alike (at + 3), byte-alike (at + 5), byte-alike (at + 7))

  walk-alike : (fuel at : ℕ) (memory : Memory) (end : ℕ) → walk a fuel at memory end ≡ walk b fuel at memory end
  unfolding walk
  walk-alike zero at memory end = refl
  walk-alike (suc fuel) at memory end = rw (record-alike at) (go (walk-alike fuel) (record_at b at))
    where
      go : ((k : ℕ) (m : Memory) (e : ℕ) → walk a fuel k m e ≡ walk b fuel k m e) → (t : Step)
          → after a at (walk a fuel) memory end t ≡ after b at (walk b fuel) memory end t
      go rest (Ok (Some d)) =
          ap (λ m. if any_given memory d.address d.size then refused GivenTwice else m)
          (ap (λ bytes. walk a fuel d.next (given d.address bytes memory) (end_after end d.address d.size)) (bytes-alike d.size (at + 9))
          ∙ rest d.next (given d.address (bytes_at b (at + 9) d.size) memory) (end_after end d.address d.size))
      go rest (Ok None) = refl
      go rest (Err r) = refl

  pub imports-alike : imported a ≡ imported b
  imports-alike = walk-alike (length a + 1) 0 (λ k. none) 0 ∙ ap (λ n. walk b (n + 1) 0 (λ k. none) 0) s.long

-- a text in small letters imports as the text does; and so do any two texts that are the same in small letters
pub same_case : (text : List ℕ) → imported (map small text) ≡ imported text
same_case text = imports-alike (map small text) text (small-alike text)

pub any-case : (a b : List ℕ) → map small a ≡ map small b → imported a ≡ imported b
any-case a b e = sym (same_case a) ∙ ap imported e ∙ same_case b
