use native.Mathlib.Omega.{arith}
use mathlib.Core.Path.{◌≡◌, refl, sym, ap, ◌∙◌}
use mathlib.Core.List.{◌∷◌}
use lib.ListN.{length}
use Rattle.library.specs.items.Left.{fixups_left}
use Rattle.library.specs.items.Yields.{fixups_after, next-fixup-yields}
use Rattle.segments.proofs.MaskLaws.{mask-length}
use Rattle.segment_parts.specs.merge.MaskTurns.{masks-turn, masks-done}
use Rattle.segment_parts.proofs.merge.masks.content_masks.Goals as goal

pub loop-fixup-init : goal.loop-fixup-init
loop-fixup-init c =
    record { long = refl; whole = refl }

pub loop-fixup-smaller : goal.loop-fixup-smaller
loop-fixup-smaller c =
    let yields : fixups_left c.args.library.now c.loop-fixup.c ≡ c.in-Some.field-0.fixup ∷ fixups_left c.args.library.now c.in-Some.field-0.rest = let lib = c.args.library.now in
    next-fixup-yields lib c.loop-fixup.c ∙ ap (fixups_after lib) (sym c.next_fixup.ensures ∙ c.in-Some.is) in
    rw (yields) (omega arith)

pub loop-fixup-preserved : goal.loop-fixup-preserved
loop-fixup-preserved c =
    let yields : fixups_left c.args.library.now c.loop-fixup.c ≡ c.in-Some.field-0.fixup ∷ fixups_left c.args.library.now c.in-Some.field-0.rest = let lib = c.args.library.now in
    next-fixup-yields lib c.loop-fixup.c ∙ ap (fixups_after lib) (sym c.next_fixup.ensures ∙ c.in-Some.is) in
    let l = c.loop-fixup in
    let f = c.in-Some.field-0.fixup in
    let e = c.mask.ensures in
    record {
      long = ap length e ∙ mask-length l.masks f ∙ l.invariant.long;
      whole = rw e (masks-turn l.masks (yields) ∙ l.invariant.whole);
    }

pub returns : goal.returns
returns c =
    let l = c.loop-fixup in
    let lib = c.args.library.now in
    let e = next-fixup-yields lib l.c ∙ ap (fixups_after lib) (sym c.next_fixup.ensures ∙ c.in_default.is) in
    masks-done _ _ l.invariant.whole e (c.fill.ensures.after (λ y same. same))
