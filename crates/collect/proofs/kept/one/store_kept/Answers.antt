-- `store_kept` stores the pattern, the references and the symbols, and then the row. Assumes nothing.
use Prim.Native.Nat.{◌+◌}
use mathlib.Core.Path.{refl, sym, ap, subst, ◌∙◌}
use native.Mathlib.Omega.{arith}
use borrow.Author.Tests.{leb-true, leb-false}
use lib.ListN.{length}
use Rattle.tables.specs.fill.FilledRows.{Adds}
use Rattle.image.specs.declared.Seat.TheVariants.{Anywhere}
use Rattle.segments.proofs.MaskLaws.{filled-length}
use Rattle.segments.specs.Collect.{data_of, data_masks}
use Rattle.segments.specs.SegmentRows.{pattern_bytes, pattern_masks}
use Rattle.segments.specs.SegmentLayouts.{reference_layout, symbol_layout}
use Rattle.segment_parts.specs.declared.carried.Carried.TheVariants.{All}
use Rattle.segment_parts.specs.AddedReferences.{section_leaves}
use Rattle.segment_parts.specs.AddedSymbols.{symbol_by}
use Rattle.lent.specs.Lists.{joined}
use Rattle.collect.specs.stored.RowLaws.{finished-length}
use Rattle.collect.specs.stored.StoreLaws.{no-bytes-room, no-masks-room, stored_more}
use Rattle.collect.specs.stored.RegionLaws.{filled-region}
use Rattle.collect.specs.stored.Segments.{lists, kept_of}
use Rattle.collect.proofs.kept.one.store_kept.Goals as goal

pub returns-then-not-fits : goal.returns-then-not-fits
returns-then-not-fits c =
    let a = c.args in
    let l = lists a.segments.now a.references.now a.symbols.now a.bytes.now a.masks.now in
    record {
      long = record { segments = refl; references = refl; symbols = refl; bytes = refl; masks = refl };
      apart-long = refl;
      extends = λ ds ss ps t f p gs s. no-bytes-room gs (kept_of a.library.now ds a.number a.from.size ss ps) l a.c s a.from.size
          (filled-length a.from.size (data_of a.library.now) ss)
          (filled-length a.from.size (data_masks a.library.now) ss ∙ sym (filled-length a.from.size (data_of a.library.now) ss))
          (leb-false (a.c.pattern + a.from.size) (length a.bytes.now) (sym c.fits.ensures ∙ c.if-not-fits.true));
    }

pub returns-then-not-fits-2 : goal.returns-then-not-fits-2
returns-then-not-fits-2 c =
    let a = c.args in
    let l = lists a.segments.now a.references.now a.symbols.now a.bytes.now a.masks.now in
    record {
      long = record { segments = refl; references = refl; symbols = refl; bytes = refl; masks = refl };
      apart-long = refl;
      extends = λ ds ss ps t f p gs s. no-masks-room gs (kept_of a.library.now ds a.number a.from.size ss ps) l a.c s a.from.size
          (filled-length a.from.size (data_of a.library.now) ss)
          (filled-length a.from.size (data_masks a.library.now) ss ∙ sym (filled-length a.from.size (data_of a.library.now) ss))
          (leb-false (a.c.pattern + a.from.size) (length a.masks.now) (sym c.fits-2.ensures ∙ c.if-not-fits-2.true));
    }

pub overflow_add-c : goal.overflow_add-c
overflow_add-c c =
    let a = c.args in
    omega (
      arith,
      leb-true (a.c.pattern + a.from.size) (length a.bytes.now)
          (sym c.fits.ensures ∙ c.if-not-fits.false),
      c.well_formed.1.1.1.1.1.1.1.1.1.1.0,
    )

pub returns : goal.returns
returns c =
    let a = c.args in
    let lib = a.library.now in
    let l = lists a.segments.now a.references.now a.symbols.now a.bytes.now a.masks.now in
    let m = c.merge_along in
    let r = c.refer_along-r in
    let y = c.name_along-y in
    let refs = r.new.m in
    let syms = y.new.m in
    let bytes = m.new.bytes in
    let masks = m.new.masks in
    let end = a.c.pattern + a.from.size in
    record {
      long = record {
        segments = ap length c.finish.ensures.1 ∙ finished-length Anywhere a.c end r.result y.result a.segments.now;
        references = r.ensures.long;
        symbols = y.ensures.long;
        bytes = m.ensures.bytes-long;
        masks = m.ensures.masks-long;
      };
      apart-long = m.ensures.apart-long;
      extends = λ ds ss ps t f p gs s.
          let wide = filled-length a.from.size (data_of lib) ss in
          rw (c.finish.ensures.0, c.finish.ensures.1)
          (stored_more gs (kept_of lib ds a.number a.from.size ss ps) l a.c s a.from.size wide
          (filled-length a.from.size (data_masks lib) ss ∙ sym wide) refs syms bytes masks r.result y.result
          (subst (λ k. Adds reference_layout (joined (section_leaves ds a.number) ss) a.references.now k refs r.result)
          c.filled_to.ensures (r.ensures.adds ds ss t f))
          (subst (λ k. Adds symbol_layout (joined (symbol_by All) ps) a.symbols.now k syms y.result) c.filled_to-2.ensures (y.ensures.adds ps p))
          (filled-region (pattern_bytes gs) a.bytes.now a.c.pattern a.from.size s.bytes (sym s.pattern)
          (leb-true end (length a.bytes.now) (sym c.fits.ensures ∙ c.if-not-fits.false)) (data_of lib) ss (m.ensures.bytes-are ss f))
          (filled-region (pattern_masks gs) a.masks.now a.c.pattern a.from.size s.masks (s.even ∙ sym s.pattern)
          (leb-true end (length a.masks.now)
          (sym c.fits-2.ensures ∙ c.if-not-fits-2.false)) (data_masks lib) ss (m.ensures.masks-are ss f)));
    }
