-- Laws of lines and records. Assumes nothing.
use Prim.Native.Nat.{ℕ, zero, suc, ◌+◌, ◌-◌, ◌*◌, ◌/◌, ◌%◌, ◌≤◌, ◌<◌}
use Rattle.std.specs.Prelude.{◌≡◌, Bool, ◌&&◌, Option, Some, None, is_some, Err, List, length, get_or, take, drop, if◌then◌else◌}
use Rattle.std.proofs.Math.Path.{refl}
use Rattle.std.proofs.Common.{sym, ap, ◌∙◌, add-zero, sub-one, length-take, length-drop, get_or-take, get_or-drop}
use Rattle.std.proofs.Math.ListN.{get_or-eq_default}
use Rattle.std.proofs.Math.Decide.{dec_lt}
use Rattle.std.proofs.Math.Bool.{true, false, not}
use Rattle.std.proofs.Math.Nat.{add-mod, add-mod-mod}
use native.Mathlib.Omega.{arith}
use borrow.Author.Tests.{ltb-true, leb-true, eqb-true, lt-ltb, le-ltb, le-leb, lt-leb, eq-eqb, ne_eqb, ltb-false, not-true}
use Rattle.std.specs.Int.Bits.{bit_or}
use Rattle.std.proofs.Math.Dec.{ltb, leb, eqb}
use Rattle.lent.specs.ChoiceLaws.{both, same_test}
use Rattle.lent.specs.Lists.{total}
use Rattle.lent.specs.RunLaws.{or-none}
use Rattle.intel_hex.specs.Digits.{digit_at, is_digit_at, byte_at, bytes_at, are_digits, sum}
use Rattle.intel_hex.specs.Record.{size_at, kind_at, sum_at, digits_end, ending_at, next_at, is_record, read_line, line_at, step_of, record_at, sum_of}
use Rattle.intel_hex.specs.declared.HexRefusal.TheVariants.{NoEndRecord}
use Rattle.intel_hex.specs.declared.line.Line.{Line}

-- with bytes that were summed before, and what is left of characters among theirs that are no digits
abbrev pub summed : ℕ → Option ℕ → Option ℕ
summed s (Some t) = Some ((s + t) % 256)
summed s None = None

abbrev pub added : ℕ → ℕ → Option ℕ → Option ℕ
added others s t = if eqb others 0 then summed s t else None

pub added_none : (text : List ℕ) (at n : ℕ) → added 0 0 (sum_of text at n) ≡ sum_of text at n
added_none text at n = go (are_digits text at n)
  where
    go : (t : Bool) → summed 0 (if t then Some (sum (bytes_at text at n) % 256) else None) ≡ (if t then Some (sum (bytes_at text at n) % 256) else None)
    go true = ap Some (omega arith)
    go false = refl

-- a digit leaves nothing of its value's upper half
none_left : (d : ℕ) → eqb (d / 16) 0 ≡ ltb d 16
none_left d =
    same_test (eqb (d / 16) 0) (ltb d 16)
    (λ e. lt-ltb d 16 (omega (arith, eqb-true (d / 16) 0 e)))
    (λ e. eq-eqb (d / 16) 0 (omega (arith, ltb-true d 16 e)))

-- one byte more is summed; no byte is left
module _ (text : List ℕ) (at : ℕ) where
  abbrev pub left_of : ℕ → ℕ
  left_of others = bit_or others (bit_or (digit_at text at / 16) (digit_at text (at + 1) / 16))

  left-of : (others : ℕ) → eqb (left_of others) 0 ≡ (eqb others 0 && (is_digit_at text at && is_digit_at text (at + 1)))
  left-of others =
      or-none others (bit_or (digit_at text at / 16) (digit_at text (at + 1) / 16))
      ∙ ap (λ t. eqb others 0 && t) (or-none (digit_at text at / 16) (digit_at text (at + 1) / 16)
      ∙ rw (none_left (digit_at text at), none_left (digit_at text (at + 1))))

  pub sum_more : (others s n : ℕ) → 0 < n
      → added (left_of others) ((s + byte_at text at) % 256) (sum_of text (at + 2) (n - 1)) ≡ added others s (sum_of text at n)
  unfolding are_digits bytes_at total
  sum_more others s zero h = absurd (omega arith)
  sum_more others s (suc n) h =
      rw (sub-one, left-of others) (go (eqb others 0) (is_digit_at text at) (is_digit_at text (at + 1)) (are_digits text (at + 2) n))
    where
      rest : ℕ
      rest = sum (bytes_at text (at + 2) n)

      go : (o t u v : Bool) → (if o && (t && u) then summed ((s + byte_at text at) % 256) (if v then Some (rest % 256) else None) else None)
          ≡ (if o then summed s (if t && u && v then Some ((byte_at text at + rest) % 256) else None) else None)
      go true true true true =
          let grouped : s + byte_at text at + rest ≡ s + (byte_at text at + rest) = omega arith in
          ap Some (sym (add-mod (s + byte_at text at) rest 256) ∙ ap (λ n. n % 256) grouped ∙ sym (add-mod-mod s (byte_at text at + rest) 256))
      go true true true false = refl
      go true true false v = refl
      go true false u v = refl
      go false t u v = refl

  pub sum-all : (others s n : ℕ) → s < 256 → n ≤ 0 → added others s (sum_of text at n) ≡ (if eqb others 0 then Some s else None)
  unfolding are_digits bytes_at total
  sum-all others s zero l h = let same : (s + 0 % 256) % 256 ≡ s = omega arith in rw same
  sum-all others s (suc n) l h = absurd (omega arith)

-- what a sum says of its digits
pub no-digits : (text : List ℕ) (at n : ℕ) {s : Option ℕ} → s ≡ sum_of text at n → None ≡ s → are_digits text at n ≡ true → ⊥
no-digits text at n e f d = let some = f ∙ e ∙ ap (λ (t : Bool). if t then Some (sum (bytes_at text at n) % 256) else None) d in cc

pub all_digits_lem : (text : List ℕ) (at n : ℕ) {s : ℕ} → sum_of text at n ≡ Some s → (are_digits text at n ≡ true) × (s ≡ sum (bytes_at text at n) % 256)
all_digits_lem text at n {s} e = go (are_digits text at n) e
  where
    go : (t : Bool) → (if t then Some (sum (bytes_at text at n) % 256) else None) ≡ Some s → (t ≡ true) × (s ≡ sum (bytes_at text at n) % 256)
    go true q = (refl, cc)
    go false q = let z : ◌≡◌ {A = ℕ} 0 1 = cc in absurd (omega arith)

pub ending-most : (text : List ℕ) (at : ℕ) {n : ℕ} → Some n ≡ ending_at text at → n ≤ 2
unfolding ending_at
ending-most text at {n} e = go (leb (length text) at) (eqb (get_or text at 0) 0x0A) (eqb (get_or text at 0) 0x0D && eqb (get_or text (at + 1) 0) 0x0A) e
  where
    go : (a b c : Bool) → Some n ≡ (if a then Some 0 else if b then Some 1 else if c then Some 2 else None) → n ≤ 2
    go true b c q = let here : n ≡ 0 = cc in omega arith
    go false true c q = let here : n ≡ 1 = cc in omega arith
    go false false true q = let here : n ≡ 2 = cc in omega arith
    go false false false q = let z : ◌≡◌ {A = ℕ} 0 1 = cc in absurd (omega arith)

-- how a line ends, by what is left of the text behind its digits
abbrev pub left_at : List ℕ → ℕ → List ℕ
left_at text at = take (length text - at) (drop at text)

module _ (text : List ℕ) (at : ℕ) where
  pub left-first : 0 < length (left_at text at) → get_or (left_at text at) 0 0 ≡ get_or text at 0
  left-first h = get_or-take (length text - at) (drop at text) 0 0 (omega (arith, length-take (length text - at) (drop at text))) ∙ get_or-drop at text 0 0 ∙ rw add-zero

  pub left-second : 1 < length (left_at text at) → get_or (left_at text at) 1 0 ≡ get_or text (at + 1) 0
  left-second h = get_or-take (length text - at) (drop at text) 1 0 (omega (arith, length-take (length text - at) (drop at text))) ∙ get_or-drop at text 1 0

  pub left-length : length (left_at text at) ≡ length text - at
  left-length = omega (arith, length-take (length text - at) (drop at text), length-drop at text)

  pub ends-here : length (left_at text at) < 1 → Some 0 ≡ ending_at text at
  unfolding ending_at
  ends-here h = rw (le-leb (length text) at (omega (arith, left-length)))

  pub ends-lf : 0 < length (left_at text at) → get_or (left_at text at) 0 0 ≡ 10 → Some 1 ≡ ending_at text at
  unfolding ending_at
  ends-lf h e = rw (lt-leb (length text) at (omega (arith, left-length)), eq-eqb (get_or text at 0) 10 (sym (left-first h) ∙ e))

  pub ends-crlf : 1 < length (left_at text at) → get_or (left_at text at) 0 0 ≡ 13 → get_or (left_at text at) 1 0 ≡ 10 → Some 2 ≡ ending_at text at
  unfolding ending_at
  ends-crlf h e f =
      let c : get_or text at 0 ≡ 13 = sym (left-first (omega arith)) ∙ e in
      let d : get_or text (at + 1) 0 ≡ 10 = sym (left-second h) ∙ f in
      rw (lt-leb (length text) at (omega (arith, left-length)), ne_eqb (get_or text at 0) 10 (λ q. omega arith), eq-eqb (get_or text at 0) 13 c, eq-eqb (get_or text (at + 1) 0) 10 d)

  pub ends-not : 0 < length (left_at text at) → (get_or (left_at text at) 0 0 ≡ 10 → ⊥)
      → (1 < length (left_at text at) → get_or (left_at text at) 0 0 ≡ 13 → get_or (left_at text at) 1 0 ≡ 10 → ⊥) → None ≡ ending_at text at
  unfolding ending_at
  ends-not h n m =
      rw (lt-leb (length text) at (omega (arith, left-length)), ne_eqb (get_or text at 0) 10 (λ q. n (left-first h ∙ q)))
      (go (eqb (get_or text at 0) 13) refl (eqb (get_or text (at + 1) 0) 10) refl)
    where
      go : (t : Bool) → eqb (get_or text at 0) 13 ≡ t → (u : Bool) → eqb (get_or text (at + 1) 0) 10 ≡ u → ◌≡◌ {A = Option ℕ} None (if t && u then Some 2 else None)
      go false e u f = refl
      go true e false f = refl
      go true e true f =
          let second = eqb-true (get_or text (at + 1) 0) 10 f in
          let long : 1 < length (left_at text at) = not-past (dec_lt 1 (length (left_at text at))) second in
          absurd (m long (left-first h ∙ eqb-true (get_or text at 0) 13 e) (left-second long ∙ second))
        where
          not-past : Dec (1 < length (left_at text at)) → get_or text (at + 1) 0 ≡ 10 → 1 < length (left_at text at)
          not-past (yes l) q = l
          not-past (no l) q = absurd (omega (arith, q, left-length, get_or-eq_default text 0 {n = at + 1} (omega (arith, left-length))))

-- what a record line is made of
pub record Parts (text : List ℕ) (at : ℕ) : Type 0 where
  pub colon : get_or text at 0 ≡ 0x3A
  pub room : digits_end text at ≤ length text
  pub digits : are_digits text (at + 1) (5 + size_at text at) ≡ true
  pub ends : is_some (ending_at text (digits_end text at)) ≡ true
  pub sound : kind_at text at ≡ 1 → size_at text at ≡ 0

module _ (text : List ℕ) (at : ℕ) where
  pub parts-of : is_record text at ≡ true → Parts text at
  unfolding is_record
  parts-of e =
      let colon = eqb (get_or text at 0) 0x3A in
      let room = leb (digits_end text at) (length text) in
      let digits = are_digits text (at + 1) (5 + size_at text at) in
      let ends = is_some (ending_at text (digits_end text at)) in
      let sound = not (eqb (kind_at text at) 1 && ltb 0 (size_at text at)) in
      let f = both (colon && room && digits && ends) sound e in
      let d = both (colon && room && digits) ends f.0 in
      let b = both (colon && room) digits d.0 in
      let a = both colon room b.0 in
      let none = not-true (eqb (kind_at text at) 1 && ltb 0 (size_at text at)) f.1 in
      record {
        colon = eqb-true (get_or text at 0) 0x3A a.0;
        room = leb-true (digits_end text at) (length text) a.1;
        digits = b.1;
        ends = d.1;
        sound = λ k. omega (arith, ltb-false 0 (size_at text at) (rw (eq-eqb (kind_at text at) 1 k) at none));
      }

  pub is-record : Parts text at → is_record text at ≡ true
  unfolding is_record
  is-record p = rw (eq-eqb _ _ p.colon, le-leb _ _ p.room, p.digits, p.ends) (go (eqb (kind_at text at) 1) refl)
    where
      go : (t : Bool) → eqb (kind_at text at) 1 ≡ t → not (t && ltb 0 (size_at text at)) ≡ true
      go true e = rw (le-ltb 0 (size_at text at) (omega (arith, p.sound (eqb-true (kind_at text at) 1 e))))
      go false e = refl

  pub line-bad : (Parts text at → ⊥) → line_at text at ≡ None
  unfolding line_at
  line-bad h = go (is_record text at) refl
    where
      go : (t : Bool) → is_record text at ≡ t → (if t then Some (read_line text at) else None) ≡ None
      go true e = absurd (h (parts-of e))
      go false e = refl

  pub line-whole : Parts text at → line_at text at ≡ Some (read_line text at)
  unfolding line_at
  line-whole p = rw (is-record p)

  -- the line as the code finds it, part by part
  pub line-is : {size s ending : ℕ} → size ≡ size_at text at → sum_of text (at + 1) (5 + size) ≡ Some s → Some ending ≡ ending_at text (at + 11 + 2 * size)
      → get_or text at 0 ≡ 0x3A → at + 11 + 2 * size ≤ length text → (kind_at text at ≡ 1 → size ≡ 0)
      → ◌≡◌ {A = Option Line} (Some (record { size = size; sum = s; next = at + 11 + 2 * size + ending })) (line_at text at)
  line-is {size} {s} {ending} e d n colon room sound =
      let same = all_digits_lem text (at + 1) (5 + size) d in
      let n' : ending_at text (digits_end text at) ≡ Some ending = sym (rw e at n) in
      let s' : s ≡ sum_at text at = rw e at same.1 in
      let p : Parts text at = record {
        colon = colon;
        room = omega arith;
        digits = rw e at same.0;
        ends = ap is_some n';
        sound = λ k. omega (arith, sound k);
      } in
      rw (line-whole p, e, s', n')

-- what a whole line says
pub record Whole (text : List ℕ) (at size s next : ℕ) : Type 0 where
  pub parts : Parts text at
  pub sizes : size ≡ size_at text at
  pub sums : s ≡ sum_at text at
  pub nexts : next ≡ next_at text at

pub whole-line : (text : List ℕ) (at : ℕ) {l : Line} → line_at text at ≡ Some l → Whole text at l.size l.sum l.next
unfolding line_at
whole-line text at {l} e = go (is_record text at) refl e
  where
    go : (t : Bool) → is_record text at ≡ t → (if t then Some (read_line text at) else None) ≡ Some l → Whole text at l.size l.sum l.next
    go true q f =
        let same : l ≡ read_line text at = cc in
        record { parts = parts-of text at q; sizes = ap (λ (x : Line). x.size) same; sums = ap (λ (x : Line). x.sum) same; nexts = ap (λ (x : Line). x.next) same }
    go false q f = let z : ◌≡◌ {A = ℕ} 0 1 = cc in absurd (omega arith)

-- what stands at a place, by its line
module _ (text : List ℕ) (at : ℕ) where
  pub past-text : length text ≤ at → record_at text at ≡ Err NoEndRecord
  unfolding record_at
  past-text h = rw (le-leb (length text) at h)

  pub of-line : {l : Option Line} → at < length text → line_at text at ≡ l → record_at text at ≡ step_of text at l
  unfolding record_at
  of-line h e = rw (lt-leb (length text) at h, e)

pub bad-line : (text : List ℕ) (at : ℕ) → line_at text at ≡ None → Parts text at → ⊥
bad-line text at e p = let q = sym (line-whole text at p) ∙ e in let z : ◌≡◌ {A = ℕ} 0 1 = cc in omega arith
