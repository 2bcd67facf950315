-- What a search looks at in a row (its tag), from the row's numbers. Assumes nothing.
use Rattle.std.specs.Prelude.{◌≡◌, ℕ, ◌+◌, ◌-◌, ◌*◌, ◌<◌, ◌≤◌, Bool, true, false, not, ◌&&◌, ◌⊎◌, List, [], length, take, drop, ◌==◌, ◌≢◌, nat_le, slice_index, refl, if◌then◌else◌}
use Rattle.std.proofs.Common.{sym, ap, ◌∙◌, inl, inr, arith, leb-true, eqb-true, length-drop, length-take-le, get_or-drop}
use Rattle.std.proofs.lemmas.Bool.{false≢true, eqb-false, not-true}
use Rattle.std.proofs.Math.Decide.{dec_lt}
use Rattle.lent.specs.ChoiceLaws.{both}
use Rattle.lent.specs.declared.part.Part.{Part}
use Rattle.lent.specs.Parts.{bytes_of, same}
use Rattle.lent.specs.PartLaws.{same-lengths}
use Rattle.lent.specs.Rows.{cell_of}
use Rattle.lent.specs.RowLaws.{cell-there, cell-past}
use Rattle.tables.specs.declared.by_name.Tag.{Tag}
use Rattle.tables.specs.by_name.Tables.{row_is, followed_for, followed}
use Rattle.tables.specs.by_name.Tags.{tag_at, other_length, may_be, named_at, Passes, Stops}
use Rattle.tables.specs.by_name.FollowLaws.{follow-none, follow-enough, follow-hit, follow-on, follow-end}

module _ (width : ℕ) (m : List ℕ) (i : ℕ) where
  pub tag-made : {key at len next : ℕ} → key ≡ cell_of width m i 0 → at ≡ cell_of width m i 1 → len ≡ cell_of width m i 2 → next ≡ cell_of width m i (width - 1)
      → ◌≡◌ {A = Tag} (record { key = key; name = record { at = at; len = len }; next = next }) (tag_at width m i)
  tag-made a b c d = rw (a, b, c, d)

  -- a row of no width has nothing; one that is whole and wide enough has its first three numbers, and its last
  pub tag-none : width ≡ 0 → ◌≡◌ {A = Tag} (record { key = 0; name = record { at = 0; len = 0 }; next = 0 }) (tag_at width m i)
  tag-none e =
      let none : (j : ℕ) → 0 ≡ cell_of width m i j = λ j. sym (cell-past width m i j (omega (arith, e))) in
      tag-made (none 0) (none 1) (none 2) (none (width - 1))

  pub tag-there : {links : List ℕ} → links ≡ drop (width - 1) m → 3 ≤ width → i * width + width ≤ length m
      → ◌≡◌ {A = Tag}
      (record {
        key = slice_index m (i * width);
        name = named_at m (i * width);
        next = slice_index links (i * width);
      })
      (tag_at width m i)
  tag-there e wide whole =
      let first : i * width ≡ i * width + 0 = omega arith in
      let last : width - 1 + i * width ≡ i * width + (width - 1) = omega arith in
      tag-made (ap (λ k. slice_index m k) first ∙ sym (cell-there width m i 0 whole (omega arith))) (sym (cell-there width m i 1 whole (omega arith)))
      (sym (cell-there width m i 2 whole (omega arith)))
      (ap (λ xs. slice_index xs (i * width)) e
      ∙ get_or-drop (width - 1) m (i * width) 0
      ∙ ap (λ k. slice_index m k) last
      ∙ sym (cell-there width m i (width - 1) whole (omega arith)))

-- following links by it: the bytes of the name that is sought are known, and so is whether the row has it
module _ (library : List ℕ) (width : ℕ) (m : List ℕ) (key : ℕ) (name : Part) (link : ℕ) (some : link ≡ 0 → ⊥) {tag : Tag}
    (seen : tag ≡ tag_at width m (link - 1)) {bytes : List ℕ} (sought : bytes ≡ bytes_of library name) {is : Bool}
    (said : is ≡ (tag.key == key && same (bytes_of library tag.name) bytes)) where
  row_is_lem : row_is library width m key name (link - 1) ≡ is
  row_is_lem = sym (said ∙ rw (seen, sought))

  next-is : cell_of width m (link - 1) (width - 1) ≡ tag.next
  next-is = sym (ap (λ t. t.next) seen)

  pub tag-hit : is ≡ true → followed library width m key name link ≡ link
  tag-hit e = follow-hit library width m key name link link some (omega arith) (row_is_lem ∙ e)

  pub tag-on : is ≡ false → tag.next < link → followed library width m key name link ≡ followed library width m key name tag.next
  tag-on e l =
      follow-on library width m key name link link some (omega arith) (row_is_lem ∙ e) (omega (arith, next-is, l))
      ∙ ap (followed_for library width m key name (link - 1)) next-is
      ∙ follow-enough library width m key name (link - 1) tag.next tag.next (omega (arith, l)) (omega arith)

  pub tag-end : is ≡ false → link ≤ tag.next → followed library width m key name link ≡ 0
  tag-end e l = follow-end library width m key name link link some (omega arith) (row_is_lem ∙ e) (omega (arith, next-is, l))

-- NAMES OF OTHER LENGTHS are not the same
length-of : (library : List ℕ) (p : Part) → (length (bytes_of library p) ≡ p.len) ⊎ (length (bytes_of library p) ≡ 0)
length-of library p = go (nat_le (p.at + p.len) (length library)) refl
  where
    go : (t : Bool) → nat_le (p.at + p.len) (length library) ≡ t → (length (if t then take p.len (drop p.at library) else []) ≡ p.len) ⊎ (length (if t then take p.len (drop p.at library) else []) ≡ 0)
    go true e = let fits = leb-true (p.at + p.len) (length library) e in inl (length-take-le p.len (drop p.at library) (rw (length-drop p.at library) (omega arith)))
    go false e = inr refl

pub other_length_lem : (library : List ℕ) (p : Part) (bytes : List ℕ) → other_length p.len (length bytes) ≡ true → same (bytes_of library p) bytes ≡ false
other_length_lem library p bytes e = same-lengths (bytes_of library p) bytes (λ q. go (length-of library p) q)
  where
    parts : (not (length bytes == 0) ≡ true) × (not (p.len == length bytes) ≡ true)
    parts = both (not (length bytes == 0)) (not (p.len == length bytes)) e

    go : (length (bytes_of library p) ≡ p.len) ⊎ (length (bytes_of library p) ≡ 0) → length (bytes_of library p) ≢ length bytes
    go (inl h) q = eqb-false p.len (length bytes) (not-true (p.len == length bytes) parts.1) (sym h ∙ q)
    go (inr h) q = eqb-false (length bytes) 0 (not-true (length bytes == 0) parts.0) (sym q ∙ h)

-- PASSING ROWS from `link` on
module _ (width : ℕ) (m : List ℕ) (key wanted link : ℕ) where
  pub pass-first : Passes width m key wanted link link
  pass-first = record { near = omega arith; right = λ library name e. refl }

  stop-none : Passes width m key wanted link 0 → Stops width m key wanted link 0
  stop-none p = record { passed = p; keyed = λ some. absurd (some refl) }

  pub stop-first : link ≡ 0 → Stops width m key wanted link 0
  stop-first e = stop-none (record { near = omega arith; right = λ library name f. ap (λ k. followed library width m key name k) e })

  -- up to row i
  module _ {links : List ℕ} (e : links ≡ drop (width - 1) m) (i : ℕ) (before : Passes width m key wanted link (i + 1)) where
    pub stop-here : may_be m (i * width) key wanted ≡ true → Stops width m key wanted link (i + 1)
    stop-here is =
        let same_row : i + 1 - 1 ≡ i = omega arith in
        record {
          passed = before;
          keyed = λ some. rw same_row (eqb-true (slice_index m (i * width)) key (both (not (other_length (slice_index m (i * width + 2)) wanted)) (slice_index m (i * width) == key) is).1);
        }

    -- and past it, if it is whole and can't be the one sought: on, or to an end
    module _ (wide : 3 ≤ width) (whole : i * width + width ≤ length m) (other : may_be m (i * width) key wanted ≡ false) where
      abbrev named : Part
      named = named_at m (i * width)

      not-it : (library : List ℕ) (name : Part) → length (bytes_of library name) ≡ wanted
          → (slice_index m (i * width) == key && same (bytes_of library named) (bytes_of library name)) ≡ false
      not-it library name f = go (slice_index m (i * width) == key) (other_length named.len wanted) refl other
        where
          go : (k o : Bool) → other_length named.len wanted ≡ o → (not o && k) ≡ false → (k && same (bytes_of library named) (bytes_of library name)) ≡ false
          go false o p q = refl
          go true true p q = other_length_lem library named (bytes_of library name) (rw f p)
          go true false p q = absurd (false≢true (sym q))

      abbrev next : ℕ
      next = slice_index links (i * width)

      seen : ◌≡◌ {A = Tag} (record { key = slice_index m (i * width); name = named; next = next }) (tag_at width m (i + 1 - 1))
      seen = let same_row : i ≡ i + 1 - 1 = omega arith in tag-there width m i e wide whole ∙ ap (tag_at width m) same_row

      pub pass_on : (k : ℕ) → next ≡ k → k < i + 1 → Passes width m key wanted link k
      pass_on k is l =
          record {
            near = omega (arith, before.near, l);
            right = λ library name f.
                before.right library name f
                ∙ tag-on library width m key name (i + 1) (omega arith) seen refl refl (not-it library name f) (omega (arith, is, l))
                ∙ ap (λ j. followed library width m key name j) is;
          }

      pub stop-end : (next < i + 1 → next ≡ 0) → Stops width m key wanted link 0
      stop-end out = stop-none (go (dec_lt next (i + 1)))
        where
          go : Dec (next < i + 1) → Passes width m key wanted link 0
          go (yes l) = pass_on 0 (out l) (omega arith)
          go (no l) =
              record {
                near = omega arith;
                right = λ library name f.
                    before.right library name f
                    ∙ tag-end library width m key name (i + 1) (omega arith) seen refl refl (not-it library name f) (omega (arith, l))
                    ∙ sym (follow-none library width m key name 0 0 refl);
              }
