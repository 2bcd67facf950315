-- A place is among the matches of a segment exactly if its pattern may stand and does stand there. Assumes nothing.
use Rattle.std.specs.Prelude.{◌≡◌, ℕ, zero, suc, ◌+◌, ◌<◌, ◌≤◌, Bool, true, false, not, ◌&&◌, ◌||◌, List, [], ◌∷◌, map, length, ◌==◌, slice_index_or, if◌then◌else◌}
use Rattle.std.proofs.Math.Path.{refl, ap}
use Rattle.std.proofs.Common.{sym, ◌∙◌, add-zero, arith}
use Rattle.std.proofs.Math.Bool.{or-true, false≢true}
use mathlib.Core.List.Memᴰ
use borrow.Author.Tests.{eqb-true, eq-eqb, ne_eqb}
use Rattle.std.proofs.Math.ListN.{get_or-eq_default}
use Rattle.lent.specs.ChoiceLaws.{same_test}
use Rattle.lent.specs.Lists.{keep, any, is_in, from}
use Rattle.lent.specs.Members.{◌among◌, of-keep}
use Rattle.lent.specs.Parts.{bytes_of}
use Rattle.image.specs.declared.Stretch.{Stretch}
use Rattle.image.specs.View.{view}
use Rattle.image.specs.declared.fixup.Rules.{Rules}
use Rattle.image.specs.declared.fixup.Kind.{Kind}
use Rattle.image.specs.declared.fixup.Target.TheVariants.{PastEnd}
use Rattle.image.specs.fixup.Target.{target}
use Rattle.image.proofs.fixup.TargetLaws.{target_past}
use Rattle.image.specs.declared.Seat.{Seat}
use Rattle.image.specs.declared.Seat.TheVariants.{Anywhere, Only}
use Rattle.image.specs.Match.{matches_at, tried, matches}
use Rattle.image.proofs.NextLaws.{all-places}
use Rattle.segments.specs.declared.SegmentNumber.{SegmentNumber}
use Rattle.segments.specs.declared.SegmentRow.{SegmentRow}
use Rattle.segments.specs.SegmentLayouts.{segment_row_at}
use Rattle.segments.specs.recalled.Recall.{recalled_by, recalled_at, recalled}
use Rattle.search_rules.specs.Search.{positions, positions_of}
use Rattle.search.specs.targets.Seats.{may_stand}

-- a number that is one of some
is-in : (xs : List ℕ) (n : ℕ) → is_in xs n ≡ true → n among xs
unfolding any
is-in [] n e = absurd (false≢true e)
is-in (x ∷ xs) n e = go (n == x) refl (is-in xs n)
  where
    go : (t : Bool) → (n == x) ≡ t → (is_in xs n ≡ true → n among xs) → n among (x ∷ xs)
    go true q rest = Memᴰ.head (eqb-true n x q)
    go false q rest = Memᴰ.tail (rest (ap (λ t. t || is_in xs n) (sym q) ∙ e))

in_is : (xs : List ℕ) (n : ℕ) → n among xs → is_in xs n ≡ true
unfolding any
in_is [] n m = absurd (Memᴰ.not-nil m)
in_is (x ∷ xs) n (Memᴰ.head e) = ap (λ t. t || is_in xs n) (eq-eqb n x e)
in_is (x ∷ xs) n (Memᴰ.tail m) = ap (λ t. (n == x) || t) (in_is xs n m) ∙ or-true (n == x)

module _ (cells bytes masks : List ℕ) (at : ℕ) where
  pub place-matches : (seat : Seat) → is_in (matches cells seat bytes masks) at ≡ (may_stand seat at && matches_at cells bytes masks at)
  unfolding matches any keep
  place-matches Anywhere =
      same_test (is_in (matches cells Anywhere bytes masks) at) (matches_at cells bytes masks at)
      (λ e. (of-keep (matches_at cells bytes masks) (tried cells Anywhere) (is-in (matches cells Anywhere bytes masks) at e)).1)
      (λ e. in_is (matches cells Anywhere bytes masks) at (all-places cells bytes masks at e))
  place-matches (Only address) = go (address == at) refl (matches_at cells bytes masks address) refl
    where
      go : (t : Bool) → (address == at) ≡ t → (u : Bool) → matches_at cells bytes masks address ≡ u
          → is_in (if u then address ∷ [] else []) at ≡ (t && matches_at cells bytes masks at)
      go true e u q =
          let same = eqb-true address at e in
          let m : matches_at cells bytes masks at ≡ u = ap (matches_at cells bytes masks) (sym same) ∙ q in
          rw m (found u)
        where
          found : (v : Bool) → is_in (if v then address ∷ [] else []) at ≡ v
          found true = ap (λ t. t || false) (eq-eqb at address (sym (eqb-true address at e)))
          found false = refl
      go false e true q = ap (λ t. t || false) (ne_eqb at address (λ z. false≢true (sym e ∙ eq-eqb address at (sym z))))
      go false e false q = refl

-- past the image's end there is no target
pub past-target : (image : List ℕ) (s : List Stretch) (rules : Rules) (pos : ℕ) (kind : Kind) (offset : ℕ) → length image < pos → target (view image s) rules pos kind offset ≡ PastEnd
past-target image s rules pos kind offset h = target_past image s rules pos kind offset (omega (arith, h))

-- the matches of the segment of a number, recalled from rows
module _ (cells segments references symbols bytes masks : List ℕ) (n : ℕ) where
  at-number : (i at k : ℕ) → i < k → slice_index_or (map (positions cells) (map (recalled_at segments references symbols bytes masks) (from at k))) i [] ≡ positions cells (recalled_at segments references symbols bytes masks (at + i))
  unfolding from
  at-number i at zero h = absurd (omega arith)
  at-number zero at (suc k) h = ap (λ j. positions cells (recalled_at segments references symbols bytes masks j)) (sym (add-zero at))
  at-number (suc i) at (suc k) h =
      at-number i (at + 1) k (omega arith) ∙ ap (λ j. positions cells (recalled_at segments references symbols bytes masks j)) (omega arith)

  long : (at k : ℕ) → length (map (positions cells) (map (recalled_at segments references symbols bytes masks) (from at k))) ≡ k
  unfolding from
  long at zero = refl
  long at (suc k) = ap suc (long (at + 1) k)

  pub number_past : (number : SegmentNumber) (t : ℕ) → n ≤ number.0 → is_in (positions_of cells (recalled segments references symbols bytes masks n) number) t ≡ false
  unfolding positions_of recalled any
  number_past number t h =
      ap (λ (xs : List ℕ). is_in xs t) (get_or-eq_default (map (positions cells) (map (recalled_at segments references symbols bytes masks) (from 0 n))) [] (omega (arith, long 0 n)))

  number-matches : (number : SegmentNumber) (t : ℕ) → number.0 < n
      → is_in (positions_of cells (recalled segments references symbols bytes masks n) number) t ≡ is_in (positions cells (recalled_at segments references symbols bytes masks number.0)) t
  unfolding positions_of recalled
  number-matches number t h =
      ap (λ (xs : List ℕ). is_in xs t) (at-number number.0 0 n h ∙ ap (λ j. positions cells (recalled_at segments references symbols bytes masks j)) (omega arith))

  module _ (number : SegmentNumber) (t : ℕ) (row : SegmentRow) (h : number.0 < n) (e : row ≡ segment_row_at segments number.0) where
    by_row : is_in (positions_of cells (recalled segments references symbols bytes masks n) number) t ≡ (may_stand row.seat t && matches_at cells (bytes_of bytes row.pattern) (bytes_of masks row.pattern) t)
    unfolding recalled_by
    by_row =
        number-matches number t h
        ∙ ap (λ r. is_in (positions cells (recalled_by segments references symbols bytes masks r)) t) (sym e)
        ∙ place-matches cells (bytes_of bytes row.pattern) (bytes_of masks row.pattern) t row.seat

    pub number-elsewhere : (stands : Bool) → stands ≡ may_stand row.seat t → not stands ≡ true → false ≡ is_in (positions_of cells (recalled segments references symbols bytes masks n) number) t
    number-elsewhere true q z = absurd (false≢true z)
    number-elsewhere false q z = sym (by_row ∙ rw (← q))

    pub number-stands : (stands : Bool) {found : Bool} {b m : List ℕ} → stands ≡ may_stand row.seat t → not stands ≡ false → b ≡ bytes_of bytes row.pattern → m ≡ bytes_of masks row.pattern
        → found ≡ matches_at cells b m t → found ≡ is_in (positions_of cells (recalled segments references symbols bytes masks n) number) t
    number-stands true q z b m f = f ∙ rw (b, m) (sym (by_row ∙ rw (← q)))
    number-stands false q z b m f = absurd (false≢true (sym z))
