-- Memory that was filled with what all segments give: each row leads to what its own segment has there, and within the memory. Assumes nothing.
use Rattle.std.specs.Prelude.{ℕ, suc, ◌+◌, ◌-◌, ◌*◌, ◌≤◌, ◌<◌, ◌≡◌, List, ◌++◌, length, get_or, take, drop}
use Rattle.std.proofs.Common.{sym, ap, subst, ◌∙◌, suc-mul, mul-le-mul_right, arith, length-append, length-take, length-drop, get_or-take, get_or-drop}
use Rattle.std.proofs.lemmas.List.{take-append-le, drop-append-le}
use Rattle.lent.specs.declared.part.Part.{Part}
use Rattle.lent.specs.Rows.{zeros, padded}
use Rattle.segments.specs.declared.Reference.{Reference}
use Rattle.segments.specs.declared.Symbol.{Symbol}
use Rattle.segments.specs.declared.SegmentRow.{SegmentRow}
use Rattle.segments.specs.Collect.{Collected}
use Rattle.segments.specs.SegmentRows.{reference_width, symbol_width, reference_numbers, symbol_numbers}
use Rattle.segments.specs.SegmentLayouts.{reference_at, symbol_at}
use Rattle.segments.specs.PlacedRows.{Stands, all_references, all_symbols, RowOf}
use Rattle.segments.proofs.PlacedRowLaws.{references-decode, symbols-decode}

module _ {B : Type 0} {xs ys : List B} {part : Part} (s : Stands xs part ys) where
  pub stands-long : length ys ≡ part.len
  stands-long = ap length (sym s.is) ∙ length-take part.len (drop part.at xs) ∙ omega (arith, s.within, length-drop part.at xs)

  -- one by one, and with more behind the list
  pub stands_at : (d : B) (k : ℕ) → k < part.len → get_or xs (part.at + k) d ≡ get_or ys k d
  stands_at d k h = sym (get_or-drop part.at xs k d) ∙ sym (get_or-take part.len (drop part.at xs) k d h) ∙ ap (λ l. get_or l k d) s.is

  pub stands_on : (more : List B) → Stands (xs ++ more) part ys
  stands_on more = record {
    within = omega (arith, s.within, length-append xs more);
    is =
        ap (take part.len) (drop-append-le part.at xs more (omega (arith, s.within)))
        ∙ take-append-le part.len (drop part.at xs) more (omega (arith, s.within, length-drop part.at xs))
        ∙ s.is;
  }

  -- each row of the part is whole in memory that has room for all rows
  pub row_within : (width : ℕ) (m : List ℕ) (k : ℕ) → length xs * width ≤ length m → k < part.len → (part.at + k) * width + width ≤ length m
  row_within width m k h b =
      let below : suc (part.at + k) ≤ length xs = omega (arith, s.within) in
      omega (arith, suc-mul (part.at + k) width, mul-le-mul_right width below)

-- pattern bytes and masks are read from memory itself
pub stands-in : {xs ys m : List ℕ} {part : Part} → Stands xs part ys → m ≡ padded (length m) xs → Stands m part ys
stands-in {xs} {ys} {m} {part} s e = subst (λ l. Stands l part ys) (sym e) (stands_on s (zeros (length m - length xs)))

-- references and symbols are read as rows
module _ {segments : List Collected} {g : Collected} {row : SegmentRow} (r : RowOf segments g row) (m : List ℕ) (k : ℕ) where
  pub own-reference : (d : Reference) → length (all_references segments) * reference_width ≤ length m → m ≡ padded (length m) (reference_numbers segments) → k < row.references.len
      → reference_at m (row.references.at + k) ≡ get_or g.references k d
  own-reference d h e b =
      references-decode segments m (row.references.at + k) d h e (omega (arith, r.references.within)) ∙ stands_at r.references d k b

  pub own-symbol : (d : Symbol) → length (all_symbols segments) * symbol_width ≤ length m → m ≡ padded (length m) (symbol_numbers segments) → k < row.symbols.len
      → symbol_at m (row.symbols.at + k) ≡ get_or g.symbols k d
  own-symbol d h e b = symbols-decode segments m (row.symbols.at + k) d h e (omega (arith, r.symbols.within)) ∙ stands_at r.symbols d k b
