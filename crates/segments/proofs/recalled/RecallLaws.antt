-- WHAT WAS STORED IS RECALLED: memory filled with what segments give tells of these segments. Assumes nothing.
use Rattle.std.specs.Prelude.{ℕ, zero, suc, ◌+◌, ◌*◌, ◌/◌, ◌≤◌, ◌<◌, ◌≡◌}
use Rattle.std.proofs.Math.Path.{refl, ap}
use Rattle.std.proofs.Common.{sym, ◌∙◌, add-zero, mul-le-mul_right, le-div_iff_mul-le, arith, le-leb}
use mathlib.Core.List.{List, [], ◌∷◌, map}
use Rattle.std.proofs.Math.ListN.{length, get_or}
use Rattle.lent.specs.declared.part.Part.{Part}
use Rattle.lent.specs.Lists.{from}
use Rattle.lent.specs.Members.{◌among◌}
use Rattle.lent.specs.Parts.{bytes_of}
use Rattle.lent.specs.Rows.{Layout, padded, row_at}
use Rattle.image.specs.declared.Seat.{Seat}
use Rattle.image.specs.declared.Seat.TheVariants.{Anywhere}
use Rattle.segments.specs.declared.Reference.{Reference}
use Rattle.segments.specs.declared.Symbol.{Symbol}
use Rattle.segments.specs.declared.SegmentRow.{SegmentRow}
use Rattle.segments.specs.Collect.{Collected}
use Rattle.segments.specs.SegmentRows.{segment_width, reference_width, symbol_width, segment_rows, no_row, segment_numbers, reference_numbers, symbol_numbers, pattern_bytes, pattern_masks}
use Rattle.segments.specs.SegmentLayouts.{reference_layout, symbol_layout, reference_at, symbol_at}
use Rattle.segments.specs.PlacedRows.{Stands, all_references, all_symbols, RowOf}
use Rattle.segments.proofs.PlacedRowLaws.{segments-decode, rows-part}
use Rattle.segments.proofs.PlacedReadLaws.{stands-long, stands-in, own-reference, own-symbol}
use Rattle.segments.specs.recalled.Recall.{rows_of, recalled_by, recalled_at, recalled}

-- a list by its elements, from a number on
pub tabulated : {A : Type 0} (f : ℕ → A) (d : A) (at n : ℕ) (xs : List A) → length xs ≡ n → ((k : ℕ) → k < n → f (at + k) ≡ get_or xs k d) → map f (from at n) ≡ xs
unfolding from
tabulated f d at zero [] e h = refl
tabulated f d at zero (x ∷ xs) e h = absurd (omega arith)
tabulated f d at (suc n) [] e h = absurd (omega arith)
tabulated f d at (suc n) (x ∷ xs) e h =
    let first : f at ≡ x = ap f (sym (add-zero at)) ∙ h 0 (omega arith) in
    let rest : map f (from (at + 1) n) ≡ xs = tabulated f d (at + 1) n xs (omega arith) (λ k l. ap f (omega arith) ∙ h (suc k) (omega arith)) in
    rw (first, rest) refl

-- rows that stand in memory with room for all of them
rows-stand : {R B : Type 0} (l : Layout R) (m : List ℕ) (p : Part) (all : List B) (d : R) (ys : List R) → 0 < l.width → length all * l.width ≤ length m → p.at + p.len ≤ length all
    → length ys ≡ p.len → ((k : ℕ) → k < p.len → row_at l m (p.at + k) ≡ get_or ys k d) → rows_of l m p ≡ ys
unfolding rows_of
rows-stand l m p all d ys w h b n e =
    let up : (p.at + p.len) * l.width ≤ length m = omega (arith, h, mul-le-mul_right l.width b) in
    let fits : p.at + p.len ≤ length m / l.width = (le-div_iff_mul-le {k = l.width} {x = p.at + p.len} {y = length m} w).1 up in
    rw (le-leb (p.at + p.len) (length m / l.width) fits) (tabulated (row_at l m) d p.at p.len ys n e)

-- pattern bytes that stand in memory
bytes-stand : (m : List ℕ) (p : Part) (ys : List ℕ) → Stands m p ys → bytes_of m p ≡ ys
bytes-stand m p ys s = rw (le-leb (p.at + p.len) (length m) s.within) s.is

-- memory that is filled with what segments give
pub record Filled (gs : List Collected) (segments references symbols bytes masks : List ℕ) : Type 0 where
  pub even : (g : Collected) → g among gs → length g.masks ≡ length g.bytes
  pub segments-room : length gs * segment_width ≤ length segments
  pub references-room : length (all_references gs) * reference_width ≤ length references
  pub symbols-room : length (all_symbols gs) * symbol_width ≤ length symbols
  pub segments-are : segments ≡ padded (length segments) (segment_numbers gs)
  pub references-are : references ≡ padded (length references) (reference_numbers gs)
  pub symbols-are : symbols ≡ padded (length symbols) (symbol_numbers gs)
  pub bytes-are : bytes ≡ padded (length bytes) (pattern_bytes gs)
  pub masks-are : masks ≡ padded (length masks) (pattern_masks gs)

abbrev none : Collected
none = record { seat = Anywhere; bytes = []; masks = []; references = []; symbols = [] }

same-collected : {a a' : Seat} {b b' m m' : List ℕ} {r r' : List Reference} {y y' : List Symbol} → a ≡ a' → b ≡ b' → m ≡ m' → r ≡ r' → y ≡ y'
    → ◌≡◌ {A = Collected} (record { seat = a; bytes = b; masks = m; references = r; symbols = y }) (record { seat = a'; bytes = b'; masks = m'; references = r'; symbols = y' })
same-collected a b m r y = rw (a, b, m, r, y) refl

module _ (gs : List Collected) (segments references symbols bytes masks : List ℕ) (f : Filled gs segments references symbols bytes masks) where
  -- by a row that says where a segment's parts stand
  by_row : (g : Collected) (row : SegmentRow) → RowOf gs g row → recalled_by segments references symbols bytes masks row ≡ g
  unfolding recalled_by
  by_row g row r =
      same-collected
      r.seat
      (bytes-stand bytes row.pattern g.bytes (stands-in r.bytes f.bytes-are))
      (bytes-stand masks row.pattern g.masks (stands-in r.masks f.masks-are))
      (rows-stand reference_layout references row.references (all_references gs) (reference_at [] 0) g.references (omega arith)
      f.references-room r.references.within (stands-long r.references) (λ k h. own-reference r references k (reference_at [] 0) f.references-room f.references-are h))
      (rows-stand symbol_layout symbols row.symbols (all_symbols gs) (symbol_at [] 0) g.symbols (omega arith) f.symbols-room r.symbols.within (stands-long r.symbols) (λ k h. own-symbol r symbols k (symbol_at [] 0) f.symbols-room f.symbols-are h))

  pub recalled-all : recalled segments references symbols bytes masks (length gs) ≡ gs
  unfolding recalled
  recalled-all = tabulated (recalled_at segments references symbols bytes masks) none 0 (length gs) gs refl each
    where
      each : (k : ℕ) → k < length gs → recalled_at segments references symbols bytes masks (0 + k) ≡ get_or gs k none
      each k h =
          ap (recalled_at segments references symbols bytes masks) (omega arith)
          ∙ ap (recalled_by segments references symbols bytes masks) (segments-decode gs segments k f.segments-room f.segments-are h)
          ∙ by_row (get_or gs k none) (get_or (segment_rows gs) k no_row) (rows-part gs f.even none k h)
