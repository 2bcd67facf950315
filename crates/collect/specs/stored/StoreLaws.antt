-- ONE SEGMENT MORE IS STORED, or there is no room for it. Assumes nothing.
use Rattle.std.specs.Prelude.{ℕ, suc, ◌+◌, ◌-◌, ◌<◌, ◌≡◌, refl, Bool, true, false, List, [], ◌∷◌, ◌++◌, length}
use Rattle.std.proofs.Common.{sym, ap, subst, ◌∙◌, arith, length-append}
use Rattle.std.proofs.lemmas.Bool.{false≢true}
use Rattle.lent.specs.declared.part.Part.{Part}
use Rattle.lent.specs.Lists.{one, joined}
use Rattle.lent.specs.ListLaws.{joined_snoc}
use Rattle.lent.specs.Rows.{Layout}
use Rattle.tables.specs.declared.fill.Fill.{Fill}
use Rattle.tables.specs.fill.FilledRows.{one_more, put_more, Holds, Filling, Adds}
use Rattle.tables.specs.fill.FilledRowLaws.{filled_more}
use Rattle.image.specs.declared.Seat.{Seat}
use Rattle.segments.specs.declared.SegmentRow.{SegmentRow}
use Rattle.segments.specs.Collect.{Collected}
use Rattle.segments.specs.SegmentRows.{following, segment_rows_from, segment_rows, no_row, pattern_bytes, pattern_masks}
use Rattle.segments.specs.SegmentLayouts.{segment_layout, reference_layout, symbol_layout}
use Rattle.segments.proofs.SegmentLayoutLaws.{segment-width}
use Rattle.collect.specs.declared.stored.CollectCounts.{CollectCounts}
use Rattle.collect.specs.stored.Rows.{Stored}
use Rattle.collect.specs.stored.Rows.{filled_to, since, row_of, stored_to, finished, finished_in}
use Rattle.collect.specs.stored.RowLaws.{without-references, without-symbols, with_row, row-lacks, row_fits}
use Rattle.collect.specs.stored.Stores.{CollectLists, references_in, symbols_in, Room, Padded, Stores, After}

-- what holds rows is being filled
pub holding : {R : Type 0} (l : Layout R) {rows : List R} {m : List ℕ} {n : ℕ} → Holds l rows m (filled_to n) → Filling l rows m (filled_to n)
holding l h = record { fits = λ e. h; over = λ e. absurd (false≢true e) }

-- a segment's parts stand behind those before it
abbrev behind : Part → ℕ → ℕ → Part
behind p before n = record { at = p.at + p.len + before; len = n }

abbrev row_behind : SegmentRow → List Collected → Collected → SegmentRow
row_behind last gs g = record {
  seat = g.seat;
  pattern = behind last.pattern (length (pattern_bytes gs)) (length g.bytes);
  references = behind last.references (length (references_in gs)) (length g.references);
  symbols = behind last.symbols (length (symbols_in gs)) (length g.symbols);
}

part-behind : {A : Type 0} (p : Part) (k : ℕ) (xs ys : List A) → behind (following p (length xs)) (length ys) k ≡ behind p (length (xs ++ ys)) k
part-behind p k xs ys = ap (λ at. record { at = at; len = k }) (omega (arith, length-append xs ys))

none-behind : (p : Part) (k : ℕ) → following p k ≡ behind p 0 k
none-behind p k = ap (λ at. record { at = at; len = k }) (omega arith)

same_row : (seat : Seat) {p p' q q' y y' : Part} → p ≡ p' → q ≡ q' → y ≡ y'
    → ◌≡◌ {A = SegmentRow} (record { seat = seat; pattern = p; references = q; symbols = y }) (record { seat = seat; pattern = p'; references = q'; symbols = y' })
same_row seat a b c = rw (a, b, c) refl

rows_more : (last : SegmentRow) (gs : List Collected) (g : Collected) → segment_rows_from last (gs ++ one g) ≡ segment_rows_from last gs ++ one (row_behind last gs g)
unfolding segment_rows_from pattern_bytes joined
rows_more last [] g =
    ap one (same_row g.seat (none-behind last.pattern (length g.bytes)) (none-behind last.references (length g.references)) (none-behind last.symbols (length g.symbols)))
rows_more last (x ∷ gs) g =
    let row : SegmentRow = record {
      seat = x.seat;
      pattern = following last.pattern (length x.bytes);
      references = following last.references (length x.references);
      symbols = following last.symbols (length x.symbols);
    } in
    ap (λ rows. row ∷ rows) (rows_more row gs g ∙ ap (λ r. segment_rows_from row gs ++ one r)
    (same_row g.seat (part-behind last.pattern (length g.bytes) x.bytes (pattern_bytes gs)) (part-behind last.references (length g.references) x.references (references_in gs)) (part-behind last.symbols (length g.symbols) x.symbols (symbols_in gs))))

rows-length : (last : SegmentRow) (gs : List Collected) → length (segment_rows_from last gs) ≡ length gs
unfolding segment_rows_from
rows-length last gs = go gs last
  where
    go : (xs : List Collected) (row : SegmentRow) → length (segment_rows_from row xs) ≡ length xs
    go [] row = refl
    go (x ∷ xs) row = ap suc (go xs _)

-- the joined parts of one segment more
pub one-more-joined : {B : Type 0} (f : Collected → List B) (gs : List Collected) (g : Collected) → joined f (gs ++ one g) ≡ joined f gs ++ f g
one-more-joined f gs g = joined_snoc f gs g

module _ (gs : List Collected) (g : Collected) (l : CollectLists) (c : CollectCounts) (s : Stores gs l c) (size : ℕ) (wide : length g.bytes ≡ size) (even : length g.masks ≡ length g.bytes) where
  bytes-more : pattern_bytes (gs ++ one g) ≡ pattern_bytes gs ++ g.bytes
  unfolding pattern_bytes
  bytes-more = joined_snoc (λ x. x.bytes) gs g

  masks-more : pattern_masks (gs ++ one g) ≡ pattern_masks gs ++ g.masks
  unfolding pattern_masks
  masks-more = joined_snoc (λ x. x.masks) gs g

  -- no room for the pattern
  pub no-bytes-room : length l.bytes < c.pattern + size → Room (gs ++ one g) l → ⊥
  no-bytes-room h r = omega (arith, s.pattern, wide, r.bytes, ap length bytes-more, length-append (pattern_bytes gs) g.bytes)

  pub no-masks-room : length l.masks < c.pattern + size → Room (gs ++ one g) l → ⊥
  no-masks-room h r = omega (arith, s.pattern, s.even, wide, even, r.masks, ap length masks-more, length-append (pattern_masks gs) g.masks)

  module _ (refs syms bytes masks : List ℕ) (r y : Fill)
      (adds-r : Adds reference_layout g.references l.references (filled_to c.references) refs r)
      (adds-y : Adds symbol_layout g.symbols l.symbols (filled_to c.symbols) syms y)
      (bytes-are : Padded (pattern_bytes gs ++ g.bytes) bytes) (masks-are : Padded (pattern_masks gs ++ g.masks) masks) where
    abbrev end : ℕ
    end = c.pattern + size

    abbrev with_rows : List ℕ → CollectLists
    with_rows n = record { segments = n; references = refs; symbols = syms; bytes = bytes; masks = masks }

    references-filled : Filling reference_layout (references_in (gs ++ one g)) refs r
    references-filled = subst (λ rows. Filling reference_layout rows refs r) (sym (one-more-joined (λ x. x.references) gs g)) (adds-r (references_in gs) (holding reference_layout s.references))

    symbols-filled : Filling symbol_layout (symbols_in (gs ++ one g)) syms y
    symbols-filled = subst (λ rows. Filling symbol_layout rows syms y) (sym (one-more-joined (λ x. x.symbols) gs g)) (adds-y (symbols_in gs) (holding symbol_layout s.symbols))

    into : {w : Stored} {n : List ℕ} → (w ≡ finished c end r y (length l.segments)) × (n ≡ finished_in g.seat c end r y l.segments) → After (gs ++ one g) (with_rows n) w
        → After (gs ++ one g) (with_rows (finished_in g.seat c end r y l.segments)) (finished c end r y (length l.segments))
    into e a = rw (← e.0, ← e.1) a

    module _ (r-fits : r.over ≡ false) (y-fits : y.over ≡ false) where
      part_of : {A : Type 0} (n k : ℕ) (xs ys : List A) → n ≡ length xs → k ≡ length (xs ++ ys) → since n k ≡ behind (record { at = 0; len = 0 }) (length xs) (length ys)
      part_of n k xs ys e h =
          let b : k - n ≡ length ys = omega (arith, e, h, length-append xs ys) in
          let a : n ≡ 0 + 0 + length xs = omega (arith, e) in
          rw (b, a) refl

      -- the row that the code makes is the definition's
      row_is : row_of g.seat c end r y ≡ row_behind no_row gs g
      row_is =
          same_row g.seat
          (part_of c.pattern end (pattern_bytes gs) g.bytes s.pattern (omega (arith, s.pattern, wide, length-append (pattern_bytes gs) g.bytes)))
          (part_of c.references r.rows (references_in gs) g.references s.references.number ((references-filled.fits r-fits).number ∙ ap length (one-more-joined (λ x. x.references) gs g)))
          (part_of c.symbols y.rows (symbols_in gs) g.symbols s.symbols.number ((symbols-filled.fits y-fits).number ∙ ap length (one-more-joined (λ x. x.symbols) gs g)))

      rows-filled : Filling segment_layout (segment_rows (gs ++ one g)) (put_more segment_layout (filled_to c.segments) (row_of g.seat c end r y) l.segments) (one_more (filled_to c.segments) 8 (length l.segments))
      rows-filled =
          subst (λ rows. Filling segment_layout rows (put_more segment_layout (filled_to c.segments) (row_of g.seat c end r y) l.segments) (one_more (filled_to c.segments) 8 (length l.segments)))
          (ap (λ row. segment_rows gs ++ one row) row_is ∙ sym (rows_more no_row gs g))
          (filled_more segment_layout segment-width (λ e. absurd (omega arith)) (segment_rows gs) l.segments (filled_to c.segments) (row_of g.seat c end r y) (holding segment_layout s.segments))

      row-stored : (f : Fill) → one_more (filled_to c.segments) 8 (length l.segments) ≡ f
          → After (gs ++ one g) (with_rows (put_more segment_layout (filled_to c.segments) (row_of g.seat c end r y) l.segments)) (stored_to end r y f)
      row-stored f e = go f.over refl
        where
          filled : Filling segment_layout (segment_rows (gs ++ one g)) (put_more segment_layout (filled_to c.segments) (row_of g.seat c end r y) l.segments) f
          filled = rw (← e) rows-filled

          go : (t : Bool) → f.over ≡ t → After (gs ++ one g) (with_rows (put_more segment_layout (filled_to c.segments) (row_of g.seat c end r y) l.segments)) (stored_to end r y f)
          go true o = rw (← row-lacks end r y f o) (λ room. omega (arith, filled.over o, room.segments, rows-length no_row (gs ++ one g)))
          go false o = rw (← row_fits end r y f o) (record {
            segments = subst (λ k. Holds segment_layout (segment_rows (gs ++ one g)) (put_more segment_layout (filled_to c.segments) (row_of g.seat c end r y) l.segments) k) (ap (λ t. record { rows = f.rows; over = t }) o) (filled.fits o);
            references = subst (λ k. Holds reference_layout (references_in (gs ++ one g)) refs k) (ap (λ t. record { rows = r.rows; over = t }) r-fits) (references-filled.fits r-fits);
            symbols = subst (λ k. Holds symbol_layout (symbols_in (gs ++ one g)) syms k) (ap (λ t. record { rows = y.rows; over = t }) y-fits) (symbols-filled.fits y-fits);
            bytes = rw bytes-more bytes-are;
            masks = rw masks-more masks-are;
            pattern = omega (arith, s.pattern, wide, ap length bytes-more, length-append (pattern_bytes gs) g.bytes);
            even = omega (arith, s.even, even, ap length bytes-more, ap length masks-more, length-append (pattern_bytes gs) g.bytes, length-append (pattern_masks gs) g.masks);
          })

    pub stored_more : After (gs ++ one g) (with_rows (finished_in g.seat c end r y l.segments)) (finished c end r y (length l.segments))
    stored_more = go-r r.over refl
      where
        go-y : r.over ≡ false → (t : Bool) → y.over ≡ t → After (gs ++ one g) (with_rows (finished_in g.seat c end r y l.segments)) (finished c end r y (length l.segments))
        go-y e true o = into (without-symbols g.seat c end r y l.segments e o) (λ room. omega (arith, symbols-filled.over o, room.symbols))
        go-y e false o = into (with_row g.seat c end r y l.segments e o refl refl refl refl (refl, refl)) (row-stored e o (one_more (filled_to c.segments) 8 (length l.segments)) refl)

        go-r : (t : Bool) → r.over ≡ t → After (gs ++ one g) (with_rows (finished_in g.seat c end r y l.segments)) (finished c end r y (length l.segments))
        go-r true o = into (without-references g.seat c end r y l.segments o) (λ room. omega (arith, references-filled.over o, room.references))
        go-r false o = go-y o y.over refl

-- as many rows as segments
pub stored-count : {gs : List Collected} {l : CollectLists} {c : CollectCounts} → Stores gs l c → c.segments ≡ length gs
stored-count {gs} s = s.segments.number ∙ rows-length no_row gs
