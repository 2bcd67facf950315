-- A line that was exported is read as the record that it was made of. Assumes nothing.
use Prim.Native.Nat.{ℕ, zero, suc, ◌+◌, ◌*◌, ◌/◌, ◌%◌, ◌≤◌, ◌<◌}
use Rattle.std.specs.Prelude.{◌≡◌, Some, None, Ok, is_some, unwrap_or, List, [], ◌∷◌, ◌++◌, drop}
use Rattle.std.proofs.Common.{sym, ◌∙◌, append_assoc, length-drop}
use Rattle.std.proofs.Math.Path.{ap}
use native.Mathlib.Omega.{arith}
use borrow.Author.Tests.{eq-eqb, ne_eqb, le-ltb, lt-leb}
use Rattle.std.proofs.Math.ListN.{length, get_or, length-append}
use Rattle.lent.specs.Lists.{one, joined, total}
use Rattle.intel_hex.specs.Digits.{byte_at, bytes_at, are_digits, sum, two_digits, all_digits}
use Rattle.intel_hex.proofs.DigitLaws.{Bytes, Fronted, fronted, Read, digits-read}
use Rattle.intel_hex.specs.Record.{size_at, address_at, kind_at, sum_at, digits_end, ending_at, next_at, read_line, Step, data_record, step_of, record_at}
use Rattle.intel_hex.proofs.RecordLaws.{Parts, line-whole, of-line}
use Rattle.intel_hex.specs.Export.{body, checksum, record_line}
use Rattle.intel_hex.proofs.ExportLaws.{first, whole, pieces}
use Rattle.intel_hex.specs.declared.line.Line.{Line}

-- a text that goes on has not ended
goes_on : (text : List ℕ) (at x : ℕ) (rest : List ℕ) → drop at text ≡ x ∷ rest → at < length text
goes_on text at x rest e = omega (arith, length-drop at text, ap length e)

sum-last : (xs : List ℕ) (x : ℕ) → sum (xs ++ one x) ≡ sum xs + x
unfolding total
sum-last [] x = omega arith
sum-last (y ∷ xs) x = omega (arith, sum-last xs x)

bytes-behind : (xs : List ℕ) (x : ℕ) → Bytes xs → x < 256 → Bytes (xs ++ one x)
bytes-behind [] x h l zero = l
bytes-behind [] x h l (suc k) = omega arith
bytes-behind (y ∷ xs) x h l zero = h 0
bytes-behind (y ∷ xs) x h l (suc k) = bytes-behind xs x (λ j. h (suc j)) l k

module _ (text : List ℕ) (at kind address : ℕ) (bytes rest : List ℕ) (e : drop at text ≡ record_line kind address bytes ++ rest)
    (short : length bytes ≤ 255) (low : address < 65536) (small : kind < 256) (are : Bytes bytes) where
  check : ℕ
  check = checksum (whole kind address bytes)

  head_bytes : Bytes (first kind address bytes)
  head_bytes zero = omega arith
  head_bytes (suc zero) = omega arith
  head_bytes (suc (suc zero)) = omega arith
  head_bytes (suc (suc (suc zero))) = omega arith
  head_bytes (suc (suc (suc (suc k)))) = omega arith

  last : List ℕ
  last = two_digits check ++ 0x0A ∷ rest

  -- the line, piece by piece
  starts : Fronted text at 0x3A (all_digits (first kind address bytes) ++ (all_digits bytes ++ last))
  unfolding last check
  starts =
      fronted text at 0x3A (all_digits (first kind address bytes) ++ (all_digits bytes ++ last))
      (e ∙ ap (λ t. t ++ rest) (sym (pieces kind address bytes)) ∙ simp append_assoc)

  moved : (a b : ℕ) {xs : List ℕ} → a ≡ b → drop b text ≡ xs → drop a text ≡ xs
  moved a b p d = ap (λ k. drop k text) p ∙ d

  heads : Read text (at + 1) (first kind address bytes) (all_digits bytes ++ last)
  heads = digits-read (first kind address bytes) text (at + 1) (all_digits bytes ++ last) head_bytes starts.next

  datas : Read text (at + 9) bytes last
  datas = digits-read bytes text (at + 9) last are (moved (at + 9) (at + 1 + 2 * length (first kind address bytes)) (omega arith) heads.next)

  checks : Read text (at + 9 + 2 * length bytes) (one check) (0x0A ∷ rest)
  unfolding check last joined
  checks = digits-read (one check) text (at + 9 + 2 * length bytes) (0x0A ∷ rest) (λ k. below k) datas.next
    where
      below : Bytes (one check)
      below zero = omega arith
      below (suc k) = omega arith

  line-end : drop (at + 11 + 2 * length bytes) text ≡ 0x0A ∷ rest
  line-end = moved (at + 11 + 2 * length bytes) (at + 9 + 2 * length bytes + 2 * length (one check)) (omega arith) checks.next

  feeds : Fronted text (at + 11 + 2 * length bytes) 0x0A rest
  feeds = fronted text (at + 11 + 2 * length bytes) 0x0A rest line-end

  -- all its bytes
  sums : List ℕ
  sums = body kind address bytes ++ one (checksum (sum (body kind address bytes)))

  all : Read text (at + 1) sums (0x0A ∷ rest)
  unfolding record_line sums
  all =
      let f = fronted text at 0x3A (all_digits sums ++ 0x0A ∷ rest) (e ∙ simp append_assoc) in
      digits-read sums text (at + 1) (0x0A ∷ rest) (bytes-behind (body kind address bytes) (checksum (sum (body kind address bytes))) below (omega arith)) f.next
    where
      below : Bytes (body kind address bytes)
      below zero = omega arith
      below (suc zero) = omega arith
      below (suc (suc zero)) = omega arith
      below (suc (suc (suc zero))) = omega arith
      below (suc (suc (suc (suc k)))) = are k

  -- what the record says
  pub size_back : size_at text at ≡ length bytes
  unfolding bytes_at
  size_back = ap (λ l. get_or l 0 0) heads.back

  pub address-back : address_at text at ≡ address
  unfolding bytes_at
  address-back =
      let high : byte_at text (at + 1 + 2) ≡ address / 256 = ap (λ l. get_or l 1 0) heads.back in
      let lows : byte_at text (at + 1 + 2 + 2) ≡ address % 256 = ap (λ l. get_or l 2 0) heads.back in
      let three : at + 3 ≡ at + 1 + 2 = omega arith in
      let five : at + 5 ≡ at + 1 + 2 + 2 = omega arith in
      omega (arith, ap (byte_at text) three ∙ high, ap (byte_at text) five ∙ lows)

  pub kind-back : kind_at text at ≡ kind
  unfolding bytes_at
  kind-back =
      let seven : at + 7 ≡ at + 1 + 2 + 2 + 2 = omega arith in
      ap (byte_at text) seven ∙ ap (λ l. get_or l 3 0) heads.back

  pub bytes_back : bytes_at text (at + 9) (length bytes) ≡ bytes
  bytes_back = datas.back

  count : 5 + size_at text at ≡ length sums
  unfolding sums
  count = omega (arith, size_back, length-append bytes (one (checksum (sum (body kind address bytes)))))

  pub sum_back : sum_at text at ≡ 0
  unfolding sums
  sum_back =
      let s : sum (bytes_at text (at + 1) (5 + size_at text at)) ≡ sum (body kind address bytes) + checksum (sum (body kind address bytes)) =
      ap (λ n. sum (bytes_at text (at + 1) n)) count ∙ ap sum all.back ∙ sum-last (body kind address bytes) (checksum (sum (body kind address bytes))) in
      rw s (omega arith)

  end_is : digits_end text at ≡ at + 11 + 2 * length bytes
  end_is = omega (arith, size_back)

  ending-back : ending_at text (digits_end text at) ≡ Some 1
  unfolding ending_at
  ending-back = ap (ending_at text) end_is
      ∙ rw (lt-leb (length text) (at + 11 + 2 * length bytes) (goes_on text (at + 11 + 2 * length bytes) 0x0A rest line-end), eq-eqb (get_or text (at + 11 + 2 * length bytes) 0) 0x0A feeds.here)

  pub parts-back : (kind ≡ 1 → length bytes ≡ 0) → Parts text at
  parts-back sound = record {
    colon = starts.here;
    room = omega (arith, end_is, goes_on text (at + 11 + 2 * length bytes) 0x0A rest line-end);
    digits = ap (are_digits text (at + 1)) count ∙ all.digits;
    ends = ap is_some ending-back;
    sound = λ k. omega (arith, size_back, sound (sym kind-back ∙ k));
  }

  pub next-back : drop (at + 12 + 2 * length bytes) text ≡ rest
  next-back = moved (at + 12 + 2 * length bytes) (at + 11 + 2 * length bytes + 1) (omega arith) feeds.next

  -- what stands there: data, or the end record
  line-back : (kind ≡ 1 → length bytes ≡ 0) → {t : Step} → step_of text at (Some (record { size = length bytes; sum = sum_at text at; next = at + 12 + 2 * length bytes })) ≡ t → record_at text at ≡ t
  line-back sound q =
      let next : next_at text at ≡ at + 12 + 2 * length bytes = omega (arith, end_is, ap (λ n. unwrap_or n 0) ending-back) in
      let same : ◌≡◌ {A = Line} (read_line text at) (record { size = length bytes; sum = sum_at text at; next = at + 12 + 2 * length bytes }) =
      rw (next, size_back) in
      of-line text at (omega (arith, goes_on text (at + 11 + 2 * length bytes) 0x0A rest line-end))
      (line-whole text at (parts-back sound) ∙ ap Some same)
      ∙ q

  pub data-back : kind ≡ 0 → address + length bytes ≤ 65536 → record_at text at ≡ data_record address (length bytes) (at + 12 + 2 * length bytes)
  data-back k h =
      line-back (λ q. omega arith)
      (rw (eq-eqb (sum_at text at) 0 sum_back, kind-back, address-back, ne_eqb kind 1 (λ q. omega arith), eq-eqb kind 0 k, le-ltb 0x10000 (address + length bytes) h))

  pub end_back : kind ≡ 1 → length bytes ≡ 0 → record_at text at ≡ Ok None
  end_back k h = line-back (λ q. h) (rw (eq-eqb (sum_at text at) 0 sum_back, kind-back, eq-eqb kind 1 k))
