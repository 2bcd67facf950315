-- The rows of collected segments are read back from memory, and each says where the parts of its own segment stand. Assumes nothing.
use Prim.Native.Nat.{ℕ, zero, suc, ◌+◌, ◌*◌, ◌≤◌, ◌<◌}
use Rattle.std.specs.Prelude.{◌≡◌, refl, get_or, take}
use Rattle.std.proofs.Math.Path.{ap, subst}
use Rattle.std.proofs.Common.{◌∙◌, arith, drop_at}
use mathlib.Core.List.Memᴰ
use mathlib.Core.List.{List, [], ◌∷◌, ◌++◌, append_assoc}
use Rattle.std.proofs.Math.ListN.{length, length-append}
use Rattle.std.proofs.Math.Seq.{take_at}
use Rattle.lent.specs.declared.part.Part.{Part}
use Rattle.lent.specs.ListLaws.{joined-joined}
use Rattle.lent.specs.Lists.{joined}
use Rattle.lent.specs.Members.{◌among◌}
use Rattle.lent.specs.Rows.{padded, Layout, row_at}
use Rattle.lent.specs.RowLaws.{Wide, Back, get-filled}
use Rattle.segments.specs.declared.Reference.{Reference}
use Rattle.segments.specs.declared.Symbol.{Symbol}
use Rattle.segments.specs.declared.SegmentRow.{SegmentRow}
use Rattle.segments.specs.Collect.{Collected}
use Rattle.segments.specs.SegmentRows.{segment_width, reference_width, symbol_width, reference_cells, symbol_cells, following, segment_rows_from, segment_rows, no_row, segment_numbers, reference_numbers, symbol_numbers, pattern_bytes, pattern_masks}
use Rattle.segments.proofs.SegmentRowLaws.{rows-from}
use Rattle.segments.specs.SegmentLayouts.{segment_layout, reference_layout, symbol_layout, segment_row_at, reference_at, symbol_at}
use Rattle.segments.proofs.SegmentLayoutLaws.{segment-width, reference-width, symbol-width, segment-back, reference-back, symbol-back}
use Rattle.segments.specs.PlacedRows.{Stands, all_references, all_symbols, RowOf}

-- rows of any layout that memory was filled with
pub rows-decode : {R : Type 0} (l : Layout R) → Wide l → ((r : R) → Back l r) → (m : List ℕ) (rows : List R) (d : R) (i : ℕ) → length rows * l.width ≤ length m
    → m ≡ padded (length m) (joined l.cells rows) → i < length rows → row_at l m i ≡ get_or rows i d
rows-decode l wide back m rows d i h e b = ap (λ x. row_at l x i) e ∙ get-filled l wide (length m) rows d i h b (back (get_or rows i d))

-- the rows of the collection
module _ (segments : List Collected) (m : List ℕ) (i : ℕ) where
  pub segments-decode : length segments * segment_width ≤ length m → m ≡ padded (length m) (segment_numbers segments) → i < length segments
      → segment_row_at m i ≡ get_or (segment_rows segments) i no_row
  unfolding segment_numbers
  segments-decode h e b =
      let n : length (segment_rows segments) ≡ length segments = rows-from no_row segments in
      rows-decode segment_layout segment-width segment-back m (segment_rows segments) no_row i (rw n h) e (omega (arith, n))

  pub references-decode : (d : Reference) → length (all_references segments) * reference_width ≤ length m → m ≡ padded (length m) (reference_numbers segments) → i < length (all_references segments)
      → reference_at m i ≡ get_or (all_references segments) i d
  unfolding reference_numbers
  references-decode d h e b =
      rows-decode reference_layout reference-width reference-back m (all_references segments) d i h (e ∙ ap (padded (length m)) (joined-joined reference_cells (λ g. g.references) segments)) b

  pub symbols-decode : (d : Symbol) → length (all_symbols segments) * symbol_width ≤ length m → m ≡ padded (length m) (symbol_numbers segments) → i < length (all_symbols segments)
      → symbol_at m i ≡ get_or (all_symbols segments) i d
  unfolding symbol_numbers
  symbols-decode d h e b =
      rows-decode symbol_layout symbol-width symbol-back m (all_symbols segments) d i h (e ∙ ap (padded (length m)) (joined-joined symbol_cells (λ g. g.symbols) segments)) b

-- the row of a segment after the last one
abbrev row_after : SegmentRow → Collected → SegmentRow
row_after last g = record {
  seat = g.seat;
  pattern = following last.pattern (length g.bytes);
  references = following last.references (length g.references);
  symbols = following last.symbols (length g.symbols);
}

seat-from : (d : Collected) (last : SegmentRow) (segments : List Collected) (i : ℕ) → i < length segments → (get_or (segment_rows_from last segments) i no_row).seat ≡ (get_or segments i d).seat
unfolding segment_rows_from
seat-from d last [] i h = absurd (omega arith)
seat-from d last (g ∷ rest) zero h = refl
seat-from d last (g ∷ rest) (suc i) h = seat-from d (row_after last g) rest i (omega arith)

-- a part of the rows that follows that of the row before, and the lists that stand there, one after another
module _ {B : Type 0} (part : SegmentRow → Part) (size : Collected → ℕ) (of : Collected → List B)
    (goes : (last : SegmentRow) (g : Collected) → part (row_after last g) ≡ following (part last) (size g)) (d : Collected) where
  abbrev Sized : List Collected → Type 0
  Sized segments = (g : Collected) → g among segments → length (of g) ≡ size g

  part-from : (segments : List Collected) → Sized segments → (front : List B) (last : SegmentRow) → length front ≡ (part last).at + (part last).len → (i : ℕ) → i < length segments
      → Stands (front ++ joined of segments) (part (get_or (segment_rows_from last segments) i no_row)) (of (get_or segments i d))
  unfolding joined segment_rows_from
  part-from [] s front last e i h = absurd (omega arith)
  part-from (g ∷ rest) s front last e zero h =
      let long : length (of g) ≡ size g = s g (Memᴰ.head refl) in
      rw (goes last g) record {
        within = omega (arith, e, long, length-append front (of g ++ joined of rest), length-append (of g) (joined of rest));
        is = ap (take (size g)) (drop_at front (of g ++ joined of rest) ((part last).at + (part last).len) e) ∙ take_at (of g) (joined of rest) (size g) long;
      }
  part-from (g ∷ rest) s front last e (suc i) h =
      let p : part (row_after last g) ≡ following (part last) (size g) = goes last g in
      let at-end : length (front ++ of g) ≡ (part (row_after last g)).at + (part (row_after last g)).len =
      rw p (length-append front (of g) ∙ ap (λ n. n + length (of g)) e ∙ ap (λ n. (part last).at + (part last).len + n) (s g (Memᴰ.head refl))) in
      subst
      (λ xs. Stands xs (part (get_or (segment_rows_from (row_after last g) rest) i no_row)) (of (get_or rest i d)))
      (append_assoc front (of g) (joined of rest))
      (part-from rest (λ x m. s x (Memᴰ.tail m)) (front ++ of g) (row_after last g) at-end i (omega arith))

pub rows-part : (segments : List Collected) → ((g : Collected) → g among segments → length g.masks ≡ length g.bytes) → (d : Collected) (i : ℕ) → i < length segments
    → RowOf segments (get_or segments i d) (get_or (segment_rows segments) i no_row)
unfolding pattern_bytes pattern_masks
rows-part segments masked d i h = record {
  seat = seat-from d no_row segments i h;
  bytes = part-from (λ r. r.pattern) (λ g. length g.bytes) (λ g. g.bytes) (λ last g. refl) d segments (λ g m. refl) [] no_row refl i h;
  masks = part-from (λ r. r.pattern) (λ g. length g.bytes) (λ g. g.masks) (λ last g. refl) d segments masked [] no_row refl i h;
  references = part-from (λ r. r.references) (λ g. length g.references) (λ g. g.references) (λ last g. refl) d segments (λ g m. refl) [] no_row refl i h;
  symbols = part-from (λ r. r.symbols) (λ g. length g.symbols) (λ g. g.symbols) (λ last g. refl) d segments (λ g m. refl) [] no_row refl i h;
}
