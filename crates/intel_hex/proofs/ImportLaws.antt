-- One turn of the walk over a text, and how its answer is stored. Assumes nothing.
use Prim.Native.Nat.{ℕ, zero, suc, ◌+◌, ◌-◌, ◌%◌, ◌≤◌, ◌<◌}
use Rattle.std.specs.Prelude.{◌≡◌, refl, Bool, true, false, Result, Ok, Err, List, ◌++◌, map, eqb, length, get_or, drop, if◌then◌else◌}
use Rattle.std.proofs.Common.{sym, ap, ◌∙◌, zero-add, arith, le-leb}
use Rattle.std.proofs.Math.Path.{fun_ext}
use Rattle.std.proofs.Math.Option.{none, some}
use Rattle.std.proofs.Math.Numerals.{sub-one}
use Rattle.std.proofs.lemmas.Bool.{lt-leb}
use Rattle.std.proofs.lemmas.List.Edits.{sets, sets-eq}
use Rattle.lent.specs.ChoiceLaws.{chosen}
use Rattle.lent.specs.Lists.{from}
use Rattle.intel_hex.specs.Outcome.{made, refused, stored}
use Rattle.intel_hex.specs.Digits.{bytes_at}
use Rattle.intel_hex.specs.Record.{Step, data_record, record_at}
use Rattle.intel_hex.specs.Import.{Memory, given, any_given, end_after, byte_or, image_of, after, walk, imported}
use Rattle.intel_hex.specs.Cells.{no_cells, byte_in, memory_in, image_in, end_in, made_in, Noted}
use Rattle.intel_hex.proofs.CellLaws.{no-memory}
use Rattle.intel_hex.specs.declared.HexRefusal.{HexRefusal}
use Rattle.intel_hex.specs.declared.HexRefusal.TheVariants.{NoRoom, GivenTwice}

module _ (text : List ℕ) (fuel at : ℕ) (memory : Memory) (end : ℕ) where
  walk_turn : 0 < fuel → walk text fuel at memory end ≡ after text at (walk text (fuel - 1)) memory end (record_at text at)
  unfolding walk
  walk_turn h = go fuel h
    where
      go : (f : ℕ) → 0 < f → walk text f at memory end ≡ after text at (walk text (f - 1)) memory end (record_at text at)
      go zero l = absurd (omega arith)
      go (suc f) l = rw sub-one

  -- where it is known what stands at the place
  pub walk_at : {t : Step} → 0 < fuel → record_at text at ≡ t → walk text fuel at memory end ≡ after text at (walk text (fuel - 1)) memory end t
  walk_at h e = walk_turn h ∙ ap (after text at (walk text (fuel - 1)) memory end) e

  module _ (address size next : ℕ) (h : 0 < fuel) (e : record_at text at ≡ data_record address size next) where
    pub walk-twice : any_given memory address size ≡ true → walk text fuel at memory end ≡ refused GivenTwice
    walk-twice g = walk_at h e ∙ rw g

    pub walk-on : any_given memory address size ≡ false
        → walk text fuel at memory end ≡ walk text (fuel - 1) next (given address (bytes_at text (at + 9) size) memory) (end_after end address size)
    walk-on g = walk_at h e ∙ rw g

-- the image of cells
pub image-in : (cells : List ℕ) (end : ℕ) → image_of (memory_in cells) end ≡ image_in cells end
unfolding image_of image_in memory_in
image-in cells end = ap (λ f. map f (from 0 end)) (fun_ext (λ k. go (eqb (get_or cells k 0) 0) (get_or cells k 0)))
  where
    go : (t : Bool) (c : ℕ) → byte_or (if t then none else some (c % 256)) ≡ (if t then 0xFF else c % 256)
    go true c = refl
    go false c = refl

pub image-length : (cells : List ℕ) (end : ℕ) → length (image_in cells end) ≡ end
unfolding image_in from
image-length cells end = go 0 end
  where
    go : (a n : ℕ) → length (map (λ k. byte_in (get_or cells k 0)) (from a n)) ≡ n
    go a zero = refl
    go a (suc n) = ap suc (go (a + 1) n)

-- what is answered: no room; bytes at the front of the buffer
module _ (bytes out : List ℕ) where
  pub no_room : length out < length bytes → ◌≡◌ {A = Result ℕ HexRefusal × List ℕ} (Err NoRoom, out) (stored (made bytes) out)
  no_room h = rw (lt-leb (length bytes) (length out) h)

  pub with-room : {n : ℕ} → n ≡ length bytes → length bytes ≤ length out → ◌≡◌ {A = Result ℕ HexRefusal × List ℕ} (Ok n, sets out 0 bytes) (stored (made bytes) out)
  with-room e h =
      let front : sets out 0 bytes ≡ bytes ++ drop (length bytes) out = sets-eq bytes out 0 (omega arith) ∙ rw zero-add in
      rw (e, le-leb (length bytes) (length out) h, front)

-- the end stays within any bound of the memory
pub end-most : (most end address size : ℕ) → end ≤ most → address + size ≤ most → end_after end address size ≤ most
end-most most end address size h l = chosen (λ n. n ≤ most) (eqb size 0) (λ e. h) (λ e. omega arith)

-- the cells that were read, and the answer that is known of them, come to what the text does
module _ (text before last : List ℕ) {r s : Result ℕ HexRefusal} (n : Noted text before last r) (none : before ≡ no_cells) (e : r ≡ s) where
  pub came : made_in s last ≡ imported text
  came = ap (λ a. made_in a last) (sym e) ∙ n.same ∙ ap (λ m. walk text (length text + 1) 0 m 0) (ap memory_in none ∙ no-memory)

  pub end-within : end_in s ≤ 65536
  end-within = rw e at n.within

module _ (text cells : List ℕ) (end : ℕ) (out : List ℕ) (e : made_in (Ok end) cells ≡ imported text) where
  image : made (image_in cells end) ≡ imported text
  image = ap made (sym (image-in cells end)) ∙ e

  pub unfilled : length out < end → ◌≡◌ {A = Result ℕ HexRefusal × List ℕ} (Err NoRoom, out) (stored (imported text) out)
  unfilled h = no_room (image_in cells end) out (omega (arith, image-length cells end)) ∙ ap (λ m. stored m out) image

  pub filled : {last : List ℕ} → end ≤ length out → last ≡ sets out 0 (image_in cells end) → ◌≡◌ {A = Result ℕ HexRefusal × List ℕ} (Ok end, last) (stored (imported text) out)
  filled h w =
      ap (λ l. (Ok end, l)) w
      ∙ with-room (image_in cells end) out (sym (image-length cells end)) (omega (arith, image-length cells end))
      ∙ ap (λ m. stored m out) image
