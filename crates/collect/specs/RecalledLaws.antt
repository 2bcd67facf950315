-- WHAT WAS COLLECTED IS WHAT IS SEARCHED FOR: rows that the collection leaves tell of its segments. Assumes nothing.
use Rattle.std.specs.Prelude.{ℕ, ◌*◌, ◌≤◌, ◌≡◌, Bool, true, false, ◌||◌, List, length}
use Rattle.std.proofs.Math.Path.{refl}
use Rattle.std.proofs.Common.{sym, ap, arith}
use Rattle.std.proofs.lemmas.Bool.{false≢true}
use borrow.Author.Tests.{ltb-false}
use Rattle.lent.specs.ListLaws.{joined_length}
use Rattle.lent.specs.Rows.{padded}
use Rattle.lent.specs.RowLaws.{padded-length}
use Rattle.image.specs.declared.fixup.Rules.{Rules}
use Rattle.omf51.specs.Module.{Module}
use Rattle.segments.specs.Collect.{Collected, collect}
use Rattle.segments.specs.SegmentRows.{segment_width, segment_numbers, reference_numbers, symbol_numbers, pattern_bytes, pattern_masks}
use Rattle.segments.proofs.SegmentRowLaws.{segments-take, references-take, symbols-take, bytes_take, masks-take, masks-like-bytes}
use Rattle.segments.specs.recalled.Recall.{recalled}
use Rattle.segments.proofs.recalled.RecallLaws.{Filled, recalled-all}
use Rattle.collect.specs.stored.Stores.{CollectLists}
use Rattle.collect.specs.Outcome.{counted_in, too_few, collect_zeroed, collect_filled}

-- none of five tests holds
none_of : (a b c d e : Bool) → (a || (b || (c || (d || e)))) ≡ false → (a ≡ false) × (b ≡ false) × (c ≡ false) × (d ≡ false) × (e ≡ false)
none_of false false false false e h = (refl, refl, refl, refl, h)
none_of false false false true e h = absurd (false≢true (sym h))
none_of false false true d e h = absurd (false≢true (sym h))
none_of false true c d e h = absurd (false≢true (sym h))
none_of true b c d e h = absurd (false≢true (sym h))

-- memory that is filled is filled by its own length
again : (room : ℕ) (xs : List ℕ) → length xs ≤ room → padded room xs ≡ padded (length (padded room xs)) xs
again room xs h = ap (λ n. padded n xs) (sym (padded-length room xs h))

module _ (rules : Rules) (library : List ℕ) (modules : List Module) (l : CollectLists) (fits : too_few l (counted_in (collect rules library modules)) ≡ false) where
  abbrev gs : List Collected
  gs = collect rules library modules

  abbrev left : CollectLists
  left = collect_filled gs l

  -- there is room for all of it
  record Fits : Type 0 where
    segments : length (segment_numbers gs) ≤ length l.segments
    references : length (reference_numbers gs) ≤ length l.references
    symbols : length (symbol_numbers gs) ≤ length l.symbols
    bytes : length (pattern_bytes gs) ≤ length l.bytes
    masks : length (pattern_masks gs) ≤ length l.masks

  all-fits : Fits
  unfolding counted_in
  all-fits =
      let none = none_of _ _ _ _ _ fits in
      record {
        segments = omega (arith, ltb-false (length l.segments) (length gs * segment_width) none.0, segments-take gs);
        references = omega (arith, ltb-false (length l.references) _ none.1, references-take gs);
        symbols = omega (arith, ltb-false (length l.symbols) _ none.2, symbols-take gs);
        bytes = omega (arith, ltb-false (length l.bytes) _ none.3, bytes_take gs);
        masks = omega (arith, ltb-false (length l.masks) _ none.4, masks-take rules library modules);
      }

  pub collection-filled : Filled gs left.segments left.references left.symbols left.bytes left.masks
  unfolding collect_filled
  collection-filled =
      let h = all-fits in
      record {
        even = masks-like-bytes rules library modules;
        segments-room = omega (arith, segments-take gs, h.segments, padded-length (length l.segments) (segment_numbers gs) h.segments);
        references-room = rw (joined_length (λ g. g.references) gs) (omega (arith, references-take gs, h.references, padded-length (length l.references) (reference_numbers gs) h.references));
        symbols-room = rw (joined_length (λ g. g.symbols) gs) (omega (arith, symbols-take gs, h.symbols, padded-length (length l.symbols) (symbol_numbers gs) h.symbols));
        segments-are = again (length l.segments) (segment_numbers gs) h.segments;
        references-are = again (length l.references) (reference_numbers gs) h.references;
        symbols-are = again (length l.symbols) (symbol_numbers gs) h.symbols;
        bytes-are = again (length l.bytes) (pattern_bytes gs) h.bytes;
        masks-are = again (length l.masks) (pattern_masks gs) h.masks;
      }

  -- each list keeps its length, so what is set to zero later is as much as was lent
  pub collection-zeroed : collect_zeroed left ≡ collect_zeroed l
  unfolding collect_filled collect_zeroed
  collection-zeroed =
      let h = all-fits in
      rw (
        padded-length (length l.segments) (segment_numbers gs) h.segments,
        padded-length (length l.references) (reference_numbers gs) h.references,
        padded-length (length l.symbols) (symbol_numbers gs) h.symbols,
        padded-length (length l.bytes) (pattern_bytes gs) h.bytes,
        padded-length (length l.masks) (pattern_masks gs) h.masks,
      )
      refl

  pub collection-recalled : recalled left.segments left.references left.symbols left.bytes left.masks (length gs) ≡ gs
  collection-recalled = recalled-all gs left.segments left.references left.symbols left.bytes left.masks collection-filled
