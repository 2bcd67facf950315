-- Two copies, side by side, are a bank's view. Assumes nothing.
use Rattle.std.specs.Prelude.{ℕ, ◌+◌, ◌-◌, ◌≤◌, ◌≡◌, List, ◌++◌, take}
use Rattle.std.proofs.Common.{sym, ◌∙◌, append-nil, arith, length-append, length-take, drop_of_length-le, take_at}
use Rattle.std.proofs.Math.Path.{ap}
use borrow.Rule.Slice.PartMut.{put_mid}
use Rattle.std.proofs.Math.ListN.{length, drop, length-drop}
use Rattle.std.proofs.Math.Seq.{take-length}
use Rattle.bank_rules.specs.Banks.{bank_start, bank_cells, Has}
use Rattle.bank_rules.proofs.CutLaws.{common-length, bank-length}

-- a copy over the whole of a list, or over its front
all-over : (src dst : List ℕ) → length dst ≤ length src → take (length src) src ++ drop (length src) dst ≡ src
all-over src dst h = ap (λ l. take (length src) src ++ l) (drop_of_length-le dst h) ∙ append-nil (take (length src) src) ∙ take-length src

-- there is room for the bank behind the common part
pub bank-fits : (n : ℕ) (part one : List ℕ) → length one ≡ 65536 → length (take (n + 32768 - n) part) ≤ length (take (length one - 32768) (drop 32768 one))
bank-fits n part one e =
    omega (arith, e, length-take (n + 32768 - n) part, length-take (length one - 32768) (drop 32768 one), length-drop 32768 one)

module _ (k : ℕ) (file seen one two : List ℕ) (h : Has k file) (room : length seen ≡ 65536) where
  common : List ℕ
  common = take 32768 file

  bank : List ℕ
  bank = take 32768 (drop (bank_start k) file)

  pub show-both : one ≡ take (length (take 32768 file)) (take 32768 file) ++ drop (length (take 32768 file)) seen
      → let part = take (bank_start k + 32768 - bank_start k) (drop (bank_start k) file) in
      two ≡ take (length part) part ++ drop (length part) (take (length one - 32768) (drop 32768 one))
      → put_mid 32768 (length one - 32768) one two ≡ bank_cells k file
  unfolding bank_cells common bank
  show-both e f =
      ap (λ l. l ++ (two ++ drop (length one - 32768) (drop 32768 one))) front
      ∙ ap (λ l. common ++ (two ++ l)) (drop_of_length-le (drop 32768 one) {i = length one - 32768} (omega (arith, length-drop 32768 one)))
      ∙ ap (λ l. common ++ l) (append-nil two ∙ whole)
    where
      long : length common ≡ 32768
      long = common-length k file h

      one-is : one ≡ common ++ drop 32768 seen
      one-is = e ∙ ap (λ l. l ++ drop (length common) seen) (take-length common) ∙ ap (λ n. common ++ drop n seen) long

      one-long : length one ≡ 65536
      one-long = ap length one-is ∙ length-append common (drop 32768 seen) ∙ omega (arith, long, length-drop 32768 seen, room)

      front : take 32768 one ≡ common
      front = ap (take 32768) one-is ∙ take_at common (drop 32768 seen) 32768 long

      part-is : take (bank_start k + 32768 - bank_start k) (drop (bank_start k) file) ≡ bank
      part-is = let size : bank_start k + 32768 - bank_start k ≡ 32768 = omega arith in ap (λ n. take n (drop (bank_start k) file)) size

      whole : two ≡ bank
      whole =
          f ∙ ap (λ p. take (length p) p ++ drop (length p) (take (length one - 32768) (drop 32768 one))) part-is
          ∙ all-over bank (take (length one - 32768) (drop 32768 one))
          (omega (arith, bank-length k file h, one-long, length-drop 32768 one, length-take (length one - 32768) (drop 32768 one)))

-- a copy over each half of a view: what was copied to its front, and what was copied behind that
module _ (k : ℕ) (file seen one two : List ℕ) (h : Has k file) (room : length seen ≡ 65536) where
  part-of-file : List ℕ
  part-of-file = take (bank_start k + 32768 - bank_start k) (drop (bank_start k) file)

  pub show-halves : one ≡ take 32768 file → two ≡ take (bank_start k + 32768 - bank_start k) (drop (bank_start k) file)
      → put_mid 32768 (length (one ++ drop 32768 seen) - 32768) (one ++ drop 32768 seen) two ≡ bank_cells k file
  unfolding part-of-file
  show-halves e f =
      show-both k file seen (one ++ drop 32768 seen) two h room
      (ap (λ l. l ++ drop 32768 seen) (e ∙ sym (take-length (take 32768 file)))
      ∙ ap (λ n. take (length (take 32768 file)) (take 32768 file) ++ drop n seen) (sym (common-length k file h)))
      (f ∙ sym (all-over part-of-file behind (omega (arith, part-long, whole-long, length-drop 32768 whole, length-take (length whole - 32768) (drop 32768 whole)))))
    where
      whole : List ℕ
      whole = one ++ drop 32768 seen

      behind : List ℕ
      behind = take (length whole - 32768) (drop 32768 whole)

      whole-long : length whole ≡ 65536
      whole-long = length-append one (drop 32768 seen) ∙ omega (arith, ap length e, common-length k file h, length-drop 32768 seen, room)

      part-long : length part-of-file ≡ 32768
      part-long = let size : bank_start k + 32768 - bank_start k ≡ 32768 = omega arith in ap (λ n. length (take n (drop (bank_start k) file))) size ∙ bank-length k file h
