-- Cells and the memory that they stand for. Assumes nothing.
use Prim.Native.Nat.{ℕ, zero, suc, ◌+◌, ◌-◌, ◌*◌, ◌%◌, ◌≤◌, ◌<◌}
use Rattle.std.specs.Prelude.{◌≡◌, Bool, ◌&&◌, ◌||◌, not, List, [], ◌∷◌, map, leb, eqb, get_or, set, replicate, if◌then◌else◌}
use Rattle.std.proofs.Math.Path.{refl, fun_ext}
use Rattle.std.proofs.Common.{sym, ap, subst, ◌∙◌, add-one, length-set, get_or-set_same, get_or-set_other}
use Rattle.std.proofs.Math.Bool.{true, false}
use Rattle.std.proofs.Math.Option.{none, some}
use Rattle.std.proofs.Math.Decide.{dec_lt}
use native.Mathlib.Omega.{arith}
use borrow.Author.Tests.{not-true, not-false, ne_eqb, lt-ltb, le-ltb, le-leb, lt-leb}
use Rattle.std.specs.Int.Bits.{bit_or}
use Rattle.std.proofs.Math.ListN.{length}
use Rattle.std.proofs.lemmas.List.{length-replicate}
use Rattle.std.proofs.lemmas.List.Edits.{sets}
use Rattle.lent.specs.Lists.{one, any, from}
use Rattle.lent.specs.ListLaws.{from-turn}
use Rattle.lent.specs.RunLaws.{or-none}
use Rattle.intel_hex.specs.Digits.{byte_at, bytes_at}
use Rattle.intel_hex.proofs.DigitLaws.{Bytes, bytes-length, bytes_below}
use Rattle.intel_hex.specs.Import.{Memory, nothing, given, is_given, any_given}
use Rattle.intel_hex.specs.Cells.{no_cells, byte_in, memory_in, image_in, taken}

-- one byte more is noted; no byte is left
module _ (text cells : List ℕ) (seen at address size i : ℕ) where
  pub taken_more : i < size
      → taken (bit_or seen (get_or cells (address + i) 0)) (set cells (address + i) (256 + byte_at text (at + 2 * i))) (address + (i + 1)) (bytes_at text (at + 2 * (i + 1)) (size - (i + 1)))
      ≡ taken seen cells (address + i) (bytes_at text (at + 2 * i) (size - i))
  unfolding taken bytes_at
  taken_more h =
      let left : size - i ≡ suc (size - (i + 1)) = omega arith in
      let place : address + (i + 1) ≡ address + i + 1 = omega arith in
      let digits : at + 2 * (i + 1) ≡ at + 2 * i + 2 = omega arith in
      rw (left, place, digits)

  pub taken-all : size ≤ i → ◌≡◌ {A = Bool × List ℕ} (eqb seen 0, cells) (taken seen cells (address + i) (bytes_at text (at + 2 * i) (size - i)))
  unfolding taken bytes_at
  taken-all h = let none : size - i ≡ 0 = omega arith in rw none

-- the image, byte by byte
module _ (cells : List ℕ) (end : ℕ) where
  abbrev pub bytes_from : ℕ → List ℕ
  bytes_from i = map (λ k. byte_in (get_or cells k 0)) (from i (end - i))

  pub fill_none : (out : List ℕ) → sets out 0 (bytes_from 0) ≡ sets out 0 (image_in cells end)
  unfolding image_in
  fill_none out = let all : end - 0 ≡ end = omega arith in rw all

  pub fill_more : (out : List ℕ) (i : ℕ) {x : ℕ} → i < end → x ≡ byte_in (get_or cells i 0) → sets (set out i x) (i + 1) (bytes_from (i + 1)) ≡ sets out i (bytes_from i)
  fill_more out i h e = rw (from-turn i end h, e, add-one i)

  pub fill-all : (out : List ℕ) (i : ℕ) → end ≤ i → out ≡ sets out i (bytes_from i)
  unfolding from
  fill-all out i h = let none : end - i ≡ 0 = omega arith in rw none

-- cells of which none was given
zero-at : (n k : ℕ) → ◌≡◌ {A = ℕ} (get_or (replicate n 0) k 0) 0
zero-at zero k = refl
zero-at (suc n) zero = refl
zero-at (suc n) (suc k) = zero-at n k

pub no-memory : memory_in no_cells ≡ nothing
unfolding memory_in no_cells
no-memory = fun_ext (λ k. rw (zero-at 65536 k))

pub no_length : length no_cells ≡ 65536
unfolding no_cells
no_length = length-replicate {A = ℕ} 65536 0

-- what is given: within the bytes, and outside of them
module _ (address : ℕ) (bytes : List ℕ) (memory : Memory) (k : ℕ) where
  pub given-in : address ≤ k → k < address + length bytes → given address bytes memory k ≡ some (get_or bytes (k - address) 0)
  unfolding given
  given-in l h = rw (le-leb address k l, lt-ltb k (address + length bytes) h)

  pub given-before : k < address → given address bytes memory k ≡ memory k
  unfolding given
  given-before h = rw (lt-leb address k h)

  pub given-past : address + length bytes ≤ k → given address bytes memory k ≡ memory k
  unfolding given
  given-past h = rw (le-ltb k (address + length bytes) h) (go (leb address k))
    where
      go : (t : Bool) → (if t && false then some (get_or bytes (k - address) 0) else memory k) ≡ memory k
      go true = refl
      go false = refl

pub given_nothing : (address : ℕ) (memory : Memory) → given address [] memory ≡ memory
given_nothing address memory = fun_ext (λ k. go k (dec_lt k address))
  where
    go : (k : ℕ) → Dec (k < address) → given address [] memory k ≡ memory k
    go k (yes h) = given-before address [] memory k h
    go k (no h) = given-past address [] memory k (omega arith)

-- one byte, and then the others
given-more : (address b : ℕ) (bytes : List ℕ) (memory : Memory) → given (address + 1) bytes (given address (one b) memory) ≡ given address (b ∷ bytes) memory
given-more address b bytes memory = fun_ext (λ k. go k (dec_lt k address) (dec_lt address k) (dec_lt k (address + 1 + length bytes)))
  where
    go : (k : ℕ) → Dec (k < address) → Dec (address < k) → Dec (k < address + 1 + length bytes)
        → given (address + 1) bytes (given address (one b) memory) k ≡ given address (b ∷ bytes) memory k
    go k (yes h) l m =
        given-before (address + 1) bytes (given address (one b) memory) k (omega arith)
        ∙ given-before address (one b) memory k h
        ∙ sym (given-before address (b ∷ bytes) memory k h)
    go k (no h) (no l) m =
        let here : k ≡ address = omega arith in
        let none : k - address ≡ 0 = omega arith in
        given-before (address + 1) bytes (given address (one b) memory) k (omega arith)
        ∙ given-in address (one b) memory k (omega arith) (omega arith)
        ∙ ap (λ i. some (get_or (one b) i 0)) none
        ∙ sym (given-in address (b ∷ bytes) memory k (omega arith) (omega arith) ∙ ap (λ i. some (get_or (b ∷ bytes) i 0)) none)
    go k (no h) (yes l) (yes m) =
        let next : k - address ≡ suc (k - (address + 1)) = omega arith in
        given-in (address + 1) bytes (given address (one b) memory) k (omega arith) m
        ∙ sym (given-in address (b ∷ bytes) memory k (omega arith) (omega arith) ∙ ap (λ i. some (get_or (b ∷ bytes) i 0)) next)
    go k (no h) (yes l) (no m) =
        given-past (address + 1) bytes (given address (one b) memory) k (omega arith)
        ∙ given-past address (one b) memory k (omega arith)
        ∙ sym (given-past address (b ∷ bytes) memory k (omega arith))

-- a byte that is noted in its cell is given
other-cell : (cells : List ℕ) (address v k : ℕ) → (k ≡ address → ⊥) → memory_in (set cells address v) k ≡ memory_in cells k
unfolding memory_in
other-cell cells address v k h = rw (get_or-set_other cells address k v 0 h)

one_cell : (cells : List ℕ) (address b : ℕ) → address < length cells → b < 256 → memory_in (set cells address (256 + b)) ≡ given address (one b) (memory_in cells)
unfolding memory_in
one_cell cells address b h l = fun_ext (λ k. go k (dec_lt k address) (dec_lt address k))
  where
    byte : (256 + b) % 256 ≡ b
    byte = omega arith

    go : (k : ℕ) → Dec (k < address) → Dec (address < k) → memory_in (set cells address (256 + b)) k ≡ given address (one b) (memory_in cells) k
    go k (yes m) n = other-cell cells address (256 + b) k (λ e. omega arith) ∙ sym (given-before address (one b) (memory_in cells) k m)
    go k (no m) (yes n) = other-cell cells address (256 + b) k (λ e. omega arith) ∙ sym (given-past address (one b) (memory_in cells) k (omega arith))
    go k (no m) (no n) =
        let here : k ≡ address = omega arith in
        let none : k - address ≡ 0 = omega arith in
        rw (here, get_or-set_same cells address (256 + b) 0 h, ne_eqb (256 + b) 0 (λ e. omega arith), byte)
        (sym (given-in address (one b) (memory_in cells) address (omega arith) (omega arith) ∙ ap (λ i. some (get_or (one b) i 0)) (rw here at none)))

any_same : (p q : ℕ → Bool) (a n : ℕ) → ((k : ℕ) → a ≤ k → p k ≡ q k) → any p (from a n) ≡ any q (from a n)
unfolding any from
any_same p q a zero h = refl
any_same p q a (suc n) h = rw (h a (omega arith), any_same p q (a + 1) n (λ k l. h k (omega arith)))

-- what noting bytes comes to: all are given, and it is told whether nothing was seen before and none of them was given
pub record Took (seen : ℕ) (cells : List ℕ) (address : ℕ) (bytes : List ℕ) (p : Bool × List ℕ) : Type 0 where
  pub free : p.0 ≡ (eqb seen 0 && not (any_given (memory_in cells) address (length bytes)))
  pub noted : memory_in p.1 ≡ given address bytes (memory_in cells)

pub took : (bytes : List ℕ) (seen : ℕ) (cells : List ℕ) (address : ℕ) → Bytes bytes → address + length bytes ≤ length cells
    → Took seen cells address bytes (taken seen cells address bytes)
unfolding taken any_given any from memory_in
took [] seen cells address bs h = record { free = nothing-more (eqb seen 0); noted = sym (given_nothing address (memory_in cells)) }
  where
    nothing-more : (t : Bool) → t ≡ (t && true)
    nothing-more true = refl
    nothing-more false = refl
took (b ∷ bytes) seen cells address bs h =
    let cell = get_or cells address 0 in
    let after = set cells address (256 + b) in
    let t = took bytes (bit_or seen cell) after (address + 1) (λ k. bs (suc k)) (omega (arith, length-set cells address (256 + b))) in
    let same : any_given (memory_in after) (address + 1) (length bytes) ≡ any_given (memory_in cells) (address + 1) (length bytes) =
    any_same (λ k. is_given (memory_in after k)) (λ k. is_given (memory_in cells k)) (address + 1) (length bytes)
    (λ k l. ap is_given (other-cell cells address (256 + b) k (λ e. omega arith))) in
    record {
      free = t.free
          ∙ ap (λ u. eqb (bit_or seen cell) 0 && not u) same
          ∙ ap (λ u. u && not (any_given (memory_in cells) (address + 1) (length bytes))) (or-none seen cell)
          ∙ one_more (eqb seen 0) (eqb cell 0) (any_given (memory_in cells) (address + 1) (length bytes)) cell;
      noted = t.noted ∙ ap (given (address + 1) bytes) (one_cell cells address b (omega arith) (bs 0)) ∙ given-more address b bytes (memory_in cells);
    }
  where
    one_more : (s c u : Bool) (n : ℕ) → ((s && c) && not u) ≡ (s && not (is_given (if c then none else some (n % 256)) || u))
    one_more true true u n = refl
    one_more true false u n = refl
    one_more false true u n = refl
    one_more false false u n = refl

-- the bytes of a record, by what noting them answered
module _ (text : List ℕ) (k : ℕ) (cells : List ℕ) (address size : ℕ) (fits : address + size ≤ length cells) where
  took-at : {r : Bool} {last : List ℕ} → ◌≡◌ {A = Bool × List ℕ} (taken 0 cells address (bytes_at text k size)) (r, last)
      → Took 0 cells address (bytes_at text k size) (r, last)
  took-at e =
      subst (Took 0 cells address (bytes_at text k size)) e
      (took (bytes_at text k size) 0 cells address (bytes_below text k size) (omega (arith, bytes-length text k size)))

  free-is : {r : Bool} {last : List ℕ} → ◌≡◌ {A = Bool × List ℕ} (r, last) (taken 0 cells address (bytes_at text k size))
      → r ≡ not (any_given (memory_in cells) address size)
  free-is e = rw (bytes-length text k size) at (took-at (sym e)).free

  pub all_noted : {r : Bool} {last : List ℕ} → ◌≡◌ {A = Bool × List ℕ} (r, last) (taken 0 cells address (bytes_at text k size)) → r ≡ true
      → (any_given (memory_in cells) address size ≡ false) × (memory_in last ≡ given address (bytes_at text k size) (memory_in cells))
  all_noted e t = (not-true (any_given (memory_in cells) address size) (sym (free-is e) ∙ t), (took-at (sym e)).noted)

  pub one-given : {r : Bool} {last : List ℕ} → ◌≡◌ {A = Bool × List ℕ} (r, last) (taken 0 cells address (bytes_at text k size)) → r ≡ false
      → any_given (memory_in cells) address size ≡ true
  one-given e t = not-false (any_given (memory_in cells) address size) (sym (free-is e) ∙ t)
