-- `store_absolute` stores the pattern, the references and the symbols, and then the row. Assumes nothing.
use Prim.Native.Nat.{◌+◌}
use mathlib.Core.Path.{refl, sym, ap, subst, ◌∙◌}
use native.Mathlib.Omega.{arith}
use borrow.Author.Tests.{leb-true, leb-false}
use lib.ListN.{length}
use Rattle.lent.specs.Lists.{joined}
use Rattle.lent.specs.Parts.{bytes_of}
use Rattle.tables.specs.fill.FilledRows.{Adds}
use Rattle.image.specs.declared.Seat.TheVariants.{Only}
use Rattle.segments.specs.Masks.{masks_of}
use Rattle.segments.proofs.MaskLaws.{masks-length}
use Rattle.segments.specs.SegmentRows.{pattern_bytes, pattern_masks}
use Rattle.segments.specs.SegmentLayouts.{reference_layout, symbol_layout}
use Rattle.library.specs.items.Left.{fixups_left}
use Rattle.segment_parts.specs.merge.MergeLaws.{merged-at-length}
use Rattle.segment_parts.specs.declared.carried.Carried.TheVariants.{Inside}
use Rattle.segment_parts.specs.AddedReferences.{leaves_in}
use Rattle.segment_parts.specs.AddedSymbols.{symbol_by}
use Rattle.collect.specs.stored.RowLaws.{finished-length}
use Rattle.collect.specs.stored.StoreLaws.{no-bytes-room, no-masks-room, stored_more}
use Rattle.collect.specs.stored.RegionLaws.{copied-region}
use Rattle.collect.specs.stored.Segments.{lists, absolute_of}
use Rattle.collect.specs.stored.SegmentLaws.{whole_length}
use Rattle.collect.proofs.absolute.one.store_absolute.Goals as goal

pub returns-then-not-fits : goal.returns-then-not-fits
returns-then-not-fits c =
    let a = c.args in
    let fixups = fixups_left a.library.now a.from.fixups in
    let l = lists a.segments.now a.references.now a.symbols.now a.bytes.now a.masks.now in
    record {
      long = record { segments = refl; references = refl; symbols = refl; bytes = refl; masks = refl };
      apart-long = refl;
      flags_long = refl;
      clear = c.requires.1.1.1;
      extends = λ ds ps t p gs s. no-bytes-room gs (absolute_of a.library.now ds a.number a.from.own a.from.content fixups ps) l a.c s
          a.from.content.part.len (whole_length a.library.now a.from.content c.requires.1.1.0) (masks-length (length (bytes_of a.library.now a.from.content.part)) fixups)
          (leb-false (a.c.pattern + a.from.content.part.len) (length a.bytes.now) (sym c.fits.ensures ∙ c.if-not-fits.true));
    }

pub returns-then-not-fits-2 : goal.returns-then-not-fits-2
returns-then-not-fits-2 c =
    let a = c.args in
    let fixups = fixups_left a.library.now a.from.fixups in
    let l = lists a.segments.now a.references.now a.symbols.now a.bytes.now a.masks.now in
    record {
      long = record { segments = refl; references = refl; symbols = refl; bytes = refl; masks = refl };
      apart-long = refl;
      flags_long = refl;
      clear = c.requires.1.1.1;
      extends = λ ds ps t p gs s. no-masks-room gs (absolute_of a.library.now ds a.number a.from.own a.from.content fixups ps) l a.c s
          a.from.content.part.len (whole_length a.library.now a.from.content c.requires.1.1.0) (masks-length (length (bytes_of a.library.now a.from.content.part)) fixups)
          (leb-false (a.c.pattern + a.from.content.part.len) (length a.masks.now) (sym c.fits-2.ensures ∙ c.if-not-fits-2.true));
    }

pub name_inside-y-requires : goal.name_inside-y-requires
name_inside-y-requires c =
    let w = c.requires.1.1 in (w.0.low, (w.0.short, w.1))

pub overflow_add-c : goal.overflow_add-c
overflow_add-c c =
    let a = c.args in
    omega (
      arith,
      leb-true (a.c.pattern + a.from.content.part.len) (length a.bytes.now)
          (sym c.fits.ensures ∙ c.if-not-fits.false),
      c.well_formed.1.1.1.1.1.1.1.1.1.1.0,
    )

pub returns : goal.returns
returns c =
    let a = c.args in
    let lib = a.library.now in
    let size = a.from.content.part.len in
    let fixups = fixups_left lib a.from.fixups in
    let new = bytes_of lib a.from.content.part in
    let l = lists a.segments.now a.references.now a.symbols.now a.bytes.now a.masks.now in
    let m = c.merge_content in
    let r = c.refer-r in
    let y = c.name_inside-y in
    let refs = r.new.m in
    let syms = y.new.m in
    let bytes = m.new.bytes in
    let masks = m.new.masks in
    let end = a.c.pattern + size in
    let wide = whole_length lib a.from.content c.requires.1.1.0 in
    let even = masks-length (length new) fixups in
    record {
      long = record {
        segments = ap length c.finish.ensures.1 ∙ finished-length (Only a.from.content.offset) a.c end r.result y.result a.segments.now;
        references = r.ensures.long;
        symbols = y.ensures.long;
        bytes = ap length m.ensures.bytes-are ∙ merged-at-length a.bytes.now a.c.pattern size 0 new;
        masks = ap length m.ensures.masks-are ∙ merged-at-length a.masks.now a.c.pattern size 0 (masks_of (length new) fixups);
      };
      apart-long = m.ensures.long;
      flags_long = y.ensures.flags_long;
      clear = y.ensures.clear;
      extends = λ ds ps t p gs s.
          rw (c.finish.ensures.0, c.finish.ensures.1)
          (stored_more gs (absolute_of lib ds a.number a.from.own a.from.content fixups ps) l a.c s size wide even refs syms bytes masks r.result y.result
          (subst (λ k. Adds reference_layout (joined (leaves_in ds a.number 0) fixups) a.references.now k refs r.result)
          c.filled_to.ensures (r.ensures.adds ds t))
          (subst (λ k. Adds symbol_layout (joined (symbol_by (Inside (record { at = a.from.content.offset; len = size; own = a.from.own }))) ps) a.symbols.now k syms y.result)
          c.filled_to-2.ensures (y.ensures.adds ps p))
          (copied-region (pattern_bytes gs) a.bytes.now a.c.pattern size s.bytes (sym s.pattern)
          (leb-true end (length a.bytes.now) (sym c.fits.ensures ∙ c.if-not-fits.false)) new wide m.ensures.bytes-are)
          (copied-region (pattern_masks gs) a.masks.now a.c.pattern size s.masks (s.even ∙ sym s.pattern)
          (leb-true end (length a.masks.now)
          (sym c.fits-2.ensures ∙ c.if-not-fits-2.false))
          (masks_of (length new) fixups) (even ∙ wide) m.ensures.masks-are));
    }
