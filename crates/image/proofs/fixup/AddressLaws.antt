-- Addresses put together by shifts and masks, and wrapping sums, are the definition's. Assumes nothing.
use Rattle.std.specs.Prelude.{◌≡◌, ℕ, ◌+◌, ◌-◌, ◌*◌, ◌/◌, ◌%◌, ◌^◌, ◌<◌, ◌≤◌, true, List, length, bit_and}
use Rattle.std.proofs.Common.{sym, ap, ◌∙◌, mod-eq_of_lt, arith, lt-ltb, le-ltb}
use Rattle.std.specs.Int.Bits.{bit_or}
use Rattle.std.proofs.lemmas.Nat.{and_mask, or_shifted}
use Rattle.image.specs.declared.fixup.Rules.{Rules}
use Rattle.image.specs.declared.fixup.Rules.TheVariants.{AsFound, Documented}
use Rattle.image.specs.declared.Stretch.{Stretch}
use Rattle.image.specs.View.{view, cell_at}
use Rattle.image.proofs.ViewLaws.{view-outside}
use Rattle.image.specs.declared.fixup.Kind.{Kind}
use Rattle.image.specs.declared.fixup.Kind.TheVariants.{Relative, Word, Inblock}
use Rattle.image.specs.declared.fixup.Target.TheVariants.{At}
use Rattle.image.specs.fixup.Target.{page11, minus, signed, top_bits, addr16, leads_to, counted, reads, target}
use Rattle.image.specs.Window.{is_apart}
use Rattle.image.proofs.WindowLaws.{is-apart}
use Rattle.image.proofs.fixup.TargetLaws.{Bytes, target-shown}

-- three bits are three bits
pub top_small : (rules : Rules) (a : ℕ) → a < 256 → top_bits rules a < 8
top_small AsFound a h = omega arith
top_small Documented a h = omega arith

-- five bits of a page, three bits and a byte, shifted to their places and joined
pub joined11 : (next top b : ℕ) → top < 8 → b < 256
    → bit_or (bit_and (next / 2048) 31 * 2048 % 2 ^ 64) (bit_or (top * 256 % 2 ^ 64) b) ≡ page11 next top b
joined11 next top b t l =
    let low : bit_or (top * 256 % 2 ^ 64) b ≡ top * 256 + b =
    ap (λ n. bit_or n b) (mod-eq_of_lt {n = top * 256} {m = 2 ^ 64} (omega arith)) ∙ or_shifted top 8 b l in
    let page : bit_and (next / 2048) 31 ≡ next / 2048 % 32 = and_mask (next / 2048) 5 in
    let high : bit_and (next / 2048) 31 * 2048 % 2 ^ 64 ≡ next / 2048 % 32 * 2048 =
    ap (λ n. n * 2048 % 2 ^ 64) page ∙ mod-eq_of_lt {n = next / 2048 % 32 * 2048} {m = 2 ^ 64} (omega arith) in
    rw (high, low) (or_shifted (next / 2048 % 32) 11 (top * 256 + b) (omega arith) ∙ omega arith)

-- a signed byte, below and from 128 on
pub signed_low : (a : ℕ) → a < 128 → signed a ≡ a
signed_low a h = rw (lt-ltb a 128 h)

pub signed_high : (a : ℕ) → 128 ≤ a → signed a ≡ a + (2 ^ 64 - 256)
signed_high a h = rw (le-ltb a 128 h)

-- what std::num::wrapping_sub_u64 ensures
pub minus-wraps : (a b r : ℕ) → r < 2 ^ 64 → b < 2 ^ 64 → (r + b) % 2 ^ 64 ≡ a → r ≡ minus a b
minus-wraps a b r l m e = omega arith

-- every kind reads a byte
pub reads-some : (kind : Kind) → 1 ≤ reads kind
reads-some Relative = omega arith
reads-some Word = omega arith
reads-some Inblock = omega arith

-- where a kind leads, by the answers of the code
module _ (rules : Rules) (pos : ℕ) (kind : Kind) (a b r : ℕ) where
  pub leads-relative : (next s : ℕ) → kind ≡ Relative → next ≡ (pos + 1) % 2 ^ 64 → s ≡ signed a → r ≡ (next + s) % 2 ^ 64 → r ≡ leads_to rules pos kind a b
  leads-relative next s k p q e = rw (k, e, p, q)

  pub leads-word : kind ≡ Word → r ≡ addr16 a b → r ≡ leads_to rules pos kind a b
  leads-word k e = rw k e

  pub leads-inblock : (next : ℕ) → kind ≡ Inblock → next ≡ (pos + 2) % 2 ^ 64 → r ≡ page11 next (top_bits rules a) b → r ≡ leads_to rules pos kind a b
  leads-inblock next k p e = rw (k, e, p)

-- the target of bytes that can be read, which are the image's
module _ (image : List ℕ) (s : List Stretch) (bytes : Bytes image) (rules : Rules) (pos : ℕ) (offset : ℕ) where
  byte : (n : ℕ) → is_apart s pos n ≡ true → (i : ℕ) → pos ≤ i → i < pos + n → cell_at (view image s) i ≡ cell_at image i
  byte n e i l m = view-outside image s i ((is-apart s pos n).0 e i l m)

  same-lead : (kind : Kind) → is_apart s pos (reads kind) ≡ true
      → leads_to rules pos kind (cell_at image pos) (cell_at image (pos + 1)) ≡ leads_to rules pos kind (cell_at (view image s) pos) (cell_at (view image s) (pos + 1))
  same-lead Relative e = rw (byte 1 e pos (omega arith) (omega arith))
  same-lead Word e = rw (byte 2 e pos (omega arith) (omega arith), byte 2 e (pos + 1) (omega arith) (omega arith))
  same-lead Inblock e = rw (byte 2 e pos (omega arith) (omega arith), byte 2 e (pos + 1) (omega arith) (omega arith))

  pub target_at : (kind : Kind) (a b led r : ℕ) → pos + reads kind ≤ length image → is_apart s pos (reads kind) ≡ true → a ≡ cell_at image pos → b ≡ cell_at image (pos + 1)
      → led ≡ leads_to rules pos kind a b → r < 2 ^ 64 → offset < 2 ^ 64 → (r + offset) % 2 ^ 64 ≡ led → At (counted rules r) ≡ target (view image s) rules pos kind offset
  target_at kind a b led r fit e p q l m o w =
      let same : led ≡ leads_to rules pos kind (cell_at (view image s) pos) (cell_at (view image s) (pos + 1)) =
      l ∙ rw (p, q) (same-lead kind e) in
      ap (λ x. At (counted rules x)) (minus-wraps led offset r m o w ∙ ap (λ x. minus x offset) same)
      ∙ sym (target-shown image s bytes rules pos kind offset fit e)
