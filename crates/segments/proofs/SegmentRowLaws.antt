-- How much of lent memory the collection's rows take. Assumes nothing.
use Rattle.std.specs.Prelude.{ℕ, suc, ◌*◌, ◌≡◌, refl, List, [], ◌∷◌, length}
use Rattle.std.proofs.Common.{sym, ap, ◌∙◌, mul-one}
use mathlib.Core.List.Memᴰ
use Rattle.lent.specs.Lists.{joined, total}
use Rattle.lent.specs.ListLaws.{joined_length, total-same, total-scaled, rows-length}
use Rattle.lent.specs.Members.{◌among◌}
use Rattle.image.specs.declared.Seat.{Seat}
use Rattle.image.specs.declared.Seat.TheVariants.{Anywhere, Only}
use Rattle.image.specs.declared.fixup.Rules.{Rules}
use Rattle.omf51.specs.Module.{Module}
use Rattle.segments.specs.declared.Goal.{Goal}
use Rattle.segments.specs.declared.Reference.{Reference}
use Rattle.segments.specs.declared.SegmentRow.{SegmentRow}
use Rattle.segments.specs.Collect.{Collected, collect}
use Rattle.segments.proofs.CollectLaws.{source, same_length}
use Rattle.segments.specs.SegmentRows.{segment_width, reference_width, symbol_width, seat_cells, segment_cells, goal_cells, reference_cells, symbol_cells}
use Rattle.segments.specs.SegmentRows.{segment_rows_from, segment_rows, no_row, segment_numbers, reference_numbers, symbol_numbers, pattern_bytes, pattern_masks}

-- each row has its width
pub segment-wide : (r : SegmentRow) → length (segment_cells r) ≡ segment_width
segment-wide r = go r.seat _
  where
    go : (seat : Seat) (rest : List ℕ) → length (seat_cells seat rest) ≡ suc (suc (length rest))
    go Anywhere rest = refl
    go (Only address) rest = refl

pub reference-wide : (r : Reference) → length (reference_cells r) ≡ reference_width
reference-wide r = ap (λ n. suc (suc (suc n))) (go r.goal)
  where
    go : (g : Goal) → length (goal_cells g) ≡ 3
    go (Goal.Segment number) = refl
    go (Goal.Name name) = refl

pub rows-from : (last : SegmentRow) (segments : List Collected) → length (segment_rows_from last segments) ≡ length segments
unfolding segment_rows_from
rows-from last segments = go segments last
  where
    go : (gs : List Collected) (row : SegmentRow) → length (segment_rows_from row gs) ≡ length gs
    go [] row = refl
    go (g ∷ rest) row = ap suc (go rest _)

pub segments-take : (segments : List Collected) → length (segment_numbers segments) ≡ length segments * segment_width
unfolding segment_numbers
segments-take segments = rows-length segment_width segment_cells segment-wide (segment_rows segments) ∙ ap (λ n. n * segment_width) (rows-from no_row segments)

-- rows of one width, a list of them for each segment
each_take : {R : Type 0} (width : ℕ) (cells : R → List ℕ) → ((r : R) → length (cells r) ≡ width) → (of : Collected → List R) (segments : List Collected)
    → length (joined (λ g. joined cells (of g)) segments) ≡ total (λ g. length (of g)) segments * width
each_take width cells wide of segments =
    joined_length (λ g. joined cells (of g)) segments
    ∙ total-same (λ g. length (joined cells (of g))) (λ g. length (of g) * width) (λ g. rows-length width cells wide (of g)) segments
    ∙ total-scaled (λ g. length (of g)) width segments

pub references-take : (segments : List Collected) → length (reference_numbers segments) ≡ total (λ g. length g.references) segments * reference_width
unfolding reference_numbers
references-take segments = each_take reference_width reference_cells reference-wide (λ g. g.references) segments

pub symbols-take : (segments : List Collected) → length (symbol_numbers segments) ≡ total (λ g. length g.symbols) segments * symbol_width
unfolding symbol_numbers
symbols-take segments = each_take symbol_width symbol_cells (λ y. refl) (λ g. g.symbols) segments

-- pattern bytes, and as many masks
pub bytes_take : (segments : List Collected) → length (pattern_bytes segments) ≡ total (λ g. length g.bytes) segments * 1
unfolding pattern_bytes
bytes_take segments = joined_length (λ g. g.bytes) segments ∙ sym (mul-one (total (λ g. length g.bytes) segments))

total-among : (f h : Collected → ℕ) (segments : List Collected) → ((g : Collected) → g among segments → f g ≡ h g) → total f segments ≡ total h segments
unfolding total
total-among f h [] e = refl
total-among f h (g ∷ rest) e = rw (e g (Memᴰ.head refl), total-among f h rest (λ x i. e x (Memᴰ.tail i)))

-- collected segments have as many masks as bytes
pub masks-like-bytes : (rules : Rules) (library : List ℕ) (modules : List Module) (g : Collected) → g among collect rules library modules → length g.masks ≡ length g.bytes
masks-like-bytes rules library modules g i = let p = source rules library modules g i in same_length rules library p.0 p.2.0 g p.2.1

pub masks-take : (rules : Rules) (library : List ℕ) (modules : List Module) → let segments = collect rules library modules in
    length (pattern_masks segments) ≡ total (λ g. length g.bytes) segments * 1
unfolding pattern_masks
masks-take rules library modules =
    let segments = collect rules library modules in
    joined_length (λ g. g.masks) segments
    ∙ total-among (λ g. length g.masks) (λ g. length g.bytes) segments
    (masks-like-bytes rules library modules)
    ∙ sym (mul-one (total (λ g. length g.bytes) segments))
