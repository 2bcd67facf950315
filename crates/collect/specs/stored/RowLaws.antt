-- The row of a segment, by the tests of the code. Assumes nothing.
use Rattle.std.specs.Prelude.{ℕ, ◌+◌, ◌-◌, ◌≤◌, ◌<◌, ◌≡◌, refl, Bool, true, false, List, leb, length}
use Rattle.std.proofs.Common.{sym, ap, arith, le-leb, leb-true, leb-false}
use Rattle.std.proofs.lemmas.Bool.{lt-leb}
use Rattle.lent.specs.declared.part.Part.{Part}
use Rattle.tables.specs.declared.fill.Fill.{Fill}
use Rattle.lent.specs.ChoiceLaws.{chosen}
use Rattle.tables.specs.fill.FilledRows.{one_more, put_more}
use Rattle.tables.specs.fill.FilledRowLaws.{put-more-length}
use Rattle.image.specs.declared.Seat.{Seat}
use Rattle.segments.specs.SegmentLayouts.{segment_layout}
use Rattle.collect.specs.declared.stored.CollectCounts.{CollectCounts}
use Rattle.std.specs.Prelude.{Ok}
use Rattle.collect.specs.stored.Rows.{without_room}
use Rattle.collect.specs.stored.Rows.{filled_to, since, row_of, stored_to, finished, finished_in}

-- room for more, without the sum
pub fits-test : (used more len : ℕ) → used ≤ len → leb more (len - used) ≡ leb (used + more) len
fits-test used more len h = go (leb more (len - used)) refl
  where
    go : (t : Bool) → leb more (len - used) ≡ t → t ≡ leb (used + more) len
    go true e = sym (le-leb (used + more) len (omega (arith, leb-true more (len - used) e)))
    go false e = sym (lt-leb (used + more) len (omega (arith, leb-false more (len - used) e)))

pub since-back : (start end : ℕ) → end < start → ◌≡◌ {A = Part} (record { at = start; len = 0 }) (since start end)
since-back start end h = let e : 0 ≡ end - start = omega arith in ap (λ n. record { at = start; len = n }) e

module _ (seat : Seat) (c : CollectCounts) (end : ℕ) (references symbols : Fill) (m : List ℕ) where
  pub without-references : references.over ≡ true → (without_room ≡ finished c end references symbols (length m)) × (m ≡ finished_in seat c end references symbols m)
  unfolding finished finished_in
  without-references e = rw e (refl, refl)

  module _ (r : references.over ≡ false) where
    pub without-symbols : symbols.over ≡ true → (without_room ≡ finished c end references symbols (length m)) × (m ≡ finished_in seat c end references symbols m)
    unfolding finished finished_in
    without-symbols e = rw (r, e) (refl, refl)

    pub with_row : symbols.over ≡ false → {p q y : Part} {f s : Fill} {n : List ℕ} → p ≡ since c.pattern end → q ≡ since c.references references.rows → y ≡ since c.symbols symbols.rows → f ≡ filled_to c.segments
        → (n ≡ put_more segment_layout f (record { seat = seat; pattern = p; references = q; symbols = y }) m) × (s ≡ one_more f 8 (length m))
        → (stored_to end references symbols s ≡ finished c end references symbols (length m)) × (n ≡ finished_in seat c end references symbols m)
    unfolding finished finished_in
    with_row o ep eq ey ef e = rw (r, o, e.0, e.1, ep, eq, ey, ef) (refl, refl)

-- whether the row itself had room
module _ (end : ℕ) (references symbols segments : Fill) where
  pub row-lacks : segments.over ≡ true → without_room ≡ stored_to end references symbols segments
  row-lacks e = rw e refl

  pub row_fits : segments.over ≡ false
      → Ok (record { segments = segments.rows; references = references.rows; symbols = symbols.rows; pattern = end }) ≡ stored_to end references symbols segments
  row_fits e = rw e refl

-- memory keeps its length
pub finished-length : (seat : Seat) (c : CollectCounts) (end : ℕ) (references symbols : Fill) (m : List ℕ) → length (finished_in seat c end references symbols m) ≡ length m
unfolding finished_in
finished-length seat c end references symbols m =
    chosen P references.over (λ e. refl) λ e.
    chosen P symbols.over (λ e. refl) λ e.
    put-more-length segment_layout (filled_to c.segments) (row_of seat c end references symbols) m
  where
    P : List ℕ → Type 0
    P n = length n ≡ length m
