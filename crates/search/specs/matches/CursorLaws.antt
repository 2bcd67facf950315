-- The links of the anchor's byte miss no match. Assumes nothing.
use Rattle.std.specs.Prelude.{◌≡◌, ℕ, zero, suc, ◌+◌, ◌-◌, ◌%◌, ◌<◌, ◌≤◌, Bool, true, false, List, length, ◌==◌, ◌≢◌, bit_and, bit_xor, nat_eq, slice_index, refl}
use Rattle.std.proofs.Common.{sym, ap, ◌∙◌, arith, eqb-true, ne_eqb, ltb-true}
use Rattle.std.proofs.Math.Bool.{and-eq-true_iff}
use Rattle.std.proofs.lemmas.Bool.{false≢true, eqb-false}
use Rattle.std.proofs.Math.Decide.{dec_le}
use Rattle.std.proofs.lemmas.Nat.{and_mask, xor_lt, and_le_l, and_le_r}
use Rattle.std.specs.Int.Bits.{xor_add_and}
use Rattle.lent.specs.ChoiceLaws.{same_test}
use Rattle.image.specs.declared.Stretch.{Stretch}
use Rattle.image.specs.View.{view, cell_at, is_byte}
use Rattle.image.proofs.ViewLaws.{view-length}
use Rattle.image.specs.Match.{agrees, matches_at}
use Rattle.image.proofs.MatchLaws.{matches-at, matches-seen}
use Rattle.image.specs.Next.{matches_from}
use Rattle.image.proofs.NextLaws.{from-other, from_past}
use Rattle.tables.specs.links.FirstLaws.{first-none, first-hit, first-miss}
use Rattle.tables.specs.links.Index.{key_at, link_from}
use Rattle.search.specs.byte_index.Anchor.{Anchor}
use Rattle.search.specs.matches.Cursor.{left_along, Leads}

-- under the mask 255 to agree is to be equal
whole-byte : (cell byte : ℕ) → byte < 256 → agrees cell byte 255 ≡ true → cell ≡ byte
whole-byte cell byte h e =
    let both = (and-eq-true_iff (is_byte cell) (bit_and (bit_xor cell byte) 255 == 0)).0 e in
    let small : cell < 256 = ltb-true cell 256 both.0 in
    let z : bit_xor cell byte % 256 ≡ 0 = sym (and_mask (bit_xor cell byte) 8) ∙ eqb-true (bit_and (bit_xor cell byte) 255) 0 both.1 in
    omega (arith, xor_lt 8 cell byte small h, xor_add_and cell byte, and_le_l cell byte, and_le_r cell byte)

-- the link to the first place of a byte from j on, where it is not 0, leads to such a place
module _ (image : List ℕ) (byte : ℕ) where
  pub record LeadsFrom (j link : ℕ) : Type 0 where
    pub past : (link ≢ 0) → j < link
    pub leads : Leads image byte link

  leads-from : (n j : ℕ) → length image - j ≡ n → LeadsFrom j (link_from image byte j)
  leads-from zero j e =
      rw (first-none (λ i. nat_eq (key_at image i) byte) j (length image) (omega arith))
      (record { past = λ h. absurd (h refl); leads = record { within = λ h. absurd (h refl); there = λ h. absurd (h refl) } })
  leads-from (suc n) j e = go (key_at image j == byte) refl (leads-from n (j + 1) (omega arith))
    where
      go : (t : Bool) → (key_at image j == byte) ≡ t → LeadsFrom (j + 1) (link_from image byte (j + 1)) → LeadsFrom j (link_from image byte j)
      go true q rest =
          let back : j + 1 - 1 ≡ j = omega arith in
          rw (first-hit (λ i. nat_eq (key_at image i) byte) j (length image) (omega arith) q)
          (record {
            past = λ h. omega arith;
            leads = record { within = λ h. omega arith; there = λ h. ap (λ i. slice_index image i) back ∙ eqb-true (key_at image j) byte q };
          })
      go false q rest =
          rw (first-miss (λ i. nat_eq (key_at image i) byte) j (length image) (omega arith) q)
          (record { past = λ h. omega (arith, rest.past h); leads = rest.leads })

  pub link-leads : (j : ℕ) → LeadsFrom j (link_from image byte j)
  link-leads j = leads-from (length image - j) j refl

module _ (image : List ℕ) (s : List Stretch) (bytes masks : List ℕ) (anchor : ℕ) (a : Anchor bytes masks anchor) where
  abbrev cells : List ℕ
  cells = view image s

  abbrev byte : ℕ
  byte = slice_index bytes anchor

  -- a match has the anchor's byte at its place, so that where another byte stands there is none
  at-anchor : (at : ℕ) → matches_at cells bytes masks at ≡ true → key_at image (at + anchor) ≡ byte
  at-anchor at e =
      let m = (matches-at image bytes masks at).0 ((matches-seen image s bytes masks at).0 e).0 in
      whole-byte (cell_at image (at + anchor)) byte a.byte (rw a.whole at (m.agree anchor a.within))

  no-match : (at : ℕ) → (key_at image (at + anchor) == byte) ≡ false → matches_at cells bytes masks at ≡ false
  no-match at e =
      same_test (matches_at cells bytes masks at) false
      (λ m. absurd (eqb-false (key_at image (at + anchor)) byte e (at-anchor at m)))
      (λ m. absurd (false≢true m))

  -- from any place on: the matches whose anchor stands there or further are those at the link from there
  left-from : (n j : ℕ) → length image - j ≡ n → matches_from cells bytes masks (j - anchor) ≡ left_along cells bytes masks anchor (link_from image byte j)
  left-from zero j e =
      rw (first-none (λ i. nat_eq (key_at image i) byte) j (length image) (omega arith))
      (from_past cells bytes masks (j - anchor) (omega (arith, a.within, view-length image s)))
  left-from (suc n) j e = go (key_at image j == byte) refl (dec_le anchor j) (left-from n (j + 1) (omega arith))
    where
      go : (t : Bool) → (key_at image j == byte) ≡ t → Dec (anchor ≤ j)
          → matches_from cells bytes masks (j + 1 - anchor) ≡ left_along cells bytes masks anchor (link_from image byte (j + 1))
          → matches_from cells bytes masks (j - anchor) ≡ left_along cells bytes masks anchor (link_from image byte j)
      go true q d rest =
          let back : j + 1 - 1 ≡ j = omega arith in
          rw (first-hit (λ i. nat_eq (key_at image i) byte) j (length image) (omega arith) q, ne_eqb (j + 1) 0 (λ z. omega arith), back)
      go false q (yes h) rest =
          let there : j - anchor + anchor ≡ j = omega arith in
          let on : j - anchor + 1 ≡ j + 1 - anchor = omega arith in
          rw (first-miss (λ i. nat_eq (key_at image i) byte) j (length image) (omega arith) q)
          (from-other cells bytes masks (j - anchor) (omega (arith, view-length image s)) (no-match (j - anchor) (ap (λ i. nat_eq (key_at image i) byte) there ∙ q))
          ∙ ap (matches_from cells bytes masks) on ∙ rest)
      go false q (no h) rest =
          let same : j - anchor ≡ j + 1 - anchor = omega arith in
          rw (first-miss (λ i. nat_eq (key_at image i) byte) j (length image) (omega arith) q) (ap (matches_from cells bytes masks) same ∙ rest)

  pub left_at : (j : ℕ) → matches_from cells bytes masks (j - anchor) ≡ left_along cells bytes masks anchor (link_from image byte j)
  left_at j = left-from (length image - j) j refl
