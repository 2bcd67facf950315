use mathlib.Core.Path.{◌≡◌, refl, sym, ap, ◌∙◌}
use mathlib.Core.List.{◌∷◌}
use native.Mathlib.Omega.{arith}
use Rattle.lent.specs.ListLaws.{joined_end}
use Rattle.tables.specs.fill.AddedRowLaws.{all-added}
use Rattle.library.specs.items.Left.{fixups_left}
use Rattle.library.specs.items.EntrySizeLaws.{fixup-small}
use Rattle.library.specs.items.Yields.{fixups_after, next-fixup-yields}
use Rattle.segments.specs.SegmentLayouts.{reference_layout}
use Rattle.segment_parts.specs.AddedReferences.{leaves_in}
use Rattle.segment_parts.specs.AddedReferenceLaws.{refer-on}
use Rattle.segment_parts.proofs.references.refer.Goals as goal
use Rattle.segment_parts.proofs.references.refer.Goals.{After-id_row-row}

yields : (c : After-id_row-row) → fixups_left c.args.library.now c.loop-fixup.c ≡ c.in-Some.field-0.fixup ∷ fixups_left c.args.library.now c.in-Some.field-0.rest
yields c =
    let lib = c.args.library.now in next-fixup-yields lib c.loop-fixup.c ∙ ap (fixups_after lib) (sym c.next_fixup.ensures ∙ c.in-Some.is)

pub loop-fixup-init : goal.loop-fixup-init
loop-fixup-init c =
    record { long = refl; leads = λ ds t n g h. h }

pub reference_of-left-requires : goal.reference_of-left-requires
reference_of-left-requires c =
    let a = c.args in
    let f = c.in-Some.field-0.fixup in
    let place = fixup-small a.library.now c.loop-fixup.c
    (λ i. omega (arith, c.shared_slice_known-1.given i)) (sym c.next_fixup.ensures ∙ c.in-Some.is) in
    (rw c.id_row-row.ensures.0 (c.requires.numbers f.id c.id_row-row.ensures.1), omega (arith, c.requires.places, place))

pub loop-fixup-smaller : goal.loop-fixup-smaller
loop-fixup-smaller c =
    rw (yields (goal.at.loop-fixup-smaller c).After-id_row-row) (omega arith)

pub loop-fixup-preserved : goal.loop-fixup-preserved
loop-fixup-preserved c =
    let a = c.args in
    let l = c.loop-fixup in
    record {
      long = c.append_left-f.ensures.1 ∙ l.invariant.long;
      leads = λ ds t. refer-on ds a.table.now a.number a.base c.in-Some.field-0.fixup t c.id_row-row.ensures
          (yields (goal.at.loop-fixup-preserved c).After-id_row-row) c.reference_of-left.ensures c.append_left-f.ensures.0 (l.invariant.leads ds t);
    }

pub returns : goal.returns
returns c =
    let a = c.args in
    let l = c.loop-fixup in
    let e = next-fixup-yields a.library.now l.c ∙ ap (fixups_after a.library.now) (sym c.next_fixup.ensures ∙ c.in_default.is) in
    record { long = l.invariant.long; adds = λ ds t. all-added reference_layout (joined_end (leaves_in ds a.number a.base) e) (l.invariant.leads ds t) }
