-- `append_public` appends the symbol, if it is carried. Assumes nothing.
use mathlib.Core.Path.{sym, ap, ◌∙◌}
use native.Mathlib.Omega.{arith}
use lib.ListN.{length}
use Rattle.segments.specs.SegmentLayouts.{symbol_layout}
use Rattle.segments.proofs.SegmentLayoutLaws.{symbol-width}
use Rattle.tables.specs.fill.FilledRowLaws.{put-more-length}
use Rattle.tables.specs.fill.AddedRowLaws.{adds_one}
use Rattle.segment_parts.specs.AddedSymbols.{carries_at}
use Rattle.segment_parts.specs.AddedSymbolLaws.{symbol-carried}
use Rattle.segment_parts.proofs.symbols.append_public.Goals as goal

pub returns-then-carries : goal.returns-then-carries
returns-then-carries c =
    let a = c.args in
    let w = c.word-offset.ensures in
    let e = ap (carries_at a.c) (sym w) ∙ sym c.carries.ensures ∙
    c.if-carries.true in
    record {
      long = ap length c.append.ensures.0 ∙ put-more-length symbol_layout a.f _ a.m.now;
      adds = λ id. rw (
        symbol-carried a.library.now a.place a.c id e,
        c.append.ensures.0,
        c.append.ensures.1,
        c.from.ensures,
        c.byte_at.ensures,
        c.offset_in.ensures,
        w,
      )
          (adds_one symbol_layout symbol-width (λ z. absurd (omega arith)) a.m.now a.f _);
    }
