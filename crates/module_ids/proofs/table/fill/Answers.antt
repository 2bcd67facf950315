use mathlib.Core.Path.{◌≡◌, refl, sym, ap, ◌∙◌}
use mathlib.Core.List.{[], ◌∷◌, ◌++◌, append_assoc}
use native.Mathlib.Omega.{arith}
use lib.ListN.{length}
use Rattle.lent.specs.Lists.{one}
use Rattle.library.specs.items.Left.{definitions_left}
use Rattle.library.specs.items.Yields.{definitions_after, next-definition-yields, definitions-start}
use Rattle.library.specs.items.ForwardLaws.{Forward, definition-goes}
use Rattle.library.specs.items.EntrySizeLaws.{definition-says}
use Rattle.module_ids.proofs.IdRowLaws.{changed-small}
use Rattle.module_ids.proofs.NotedLaws.{noted, kept_more, kept_step, none_kept, all_noted, note-length}
use Rattle.module_ids.proofs.table.fill.Goals as goal
use Rattle.module_ids.proofs.table.fill.Goals.{After-kept_after-n}

yields : (c : After-kept_after-n) → definitions_left c.args.library.now c.loop-definition.c ≡ c.in-Some.field-0.definition ∷ definitions_left c.args.library.now c.in-Some.field-0.rest
yields c =
    let a = c.args in next-definition-yields a.library.now c.loop-definition.c ∙ ap (definitions_after a.library.now) (sym c.next_definition.ensures ∙ c.in-Some.is)

pub loop-definition-init : goal.loop-definition-init
loop-definition-init c =
    let a = c.args in
    rw c.start-c.ensures (record {
      long = refl;
      done = [];
      whole = definitions-start a.library.now a.at;
      tells = c.requires.clear;
      number = none_kept;
      few = omega arith;
      ordered = record { before = omega arith; body-before = omega arith };
    })

pub note-requires : goal.note-requires
note-requires c =
    let goes : Forward c.args.library.now c.loop-definition.c c.in-Some.field-0.rest = definition-goes c.args.library.now c.loop-definition.c c.loop-definition.invariant.ordered
    (sym c.next_definition.ensures ∙ c.in-Some.is) in
    let lib = c.args.library.now in
    changed-small lib c.loop-definition.n c.in-Some.field-0.definition (λ i. omega (arith, c.shared_slice_known-1.given i)) c.requires.short
    (omega (arith, c.loop-definition.invariant.few, goes)) (definition-says lib c.loop-definition.c (sym c.next_definition.ensures ∙ c.in-Some.is))

pub kept_after-n-requires : goal.kept_after-n-requires
kept_after-n-requires c =
    let goes : Forward c.args.library.now c.loop-definition.c c.in-Some.field-0.rest = definition-goes c.args.library.now c.loop-definition.c c.loop-definition.invariant.ordered
    (sym c.next_definition.ensures ∙ c.in-Some.is) in
    omega (
      arith,
      c.loop-definition.invariant.few,
      goes,
      c.shared_slice_known-1.given 0,
    )

pub loop-definition-smaller : goal.loop-definition-smaller
loop-definition-smaller c =
    rw (yields c) (omega arith)

pub loop-definition-preserved : goal.loop-definition-preserved
loop-definition-preserved c =
    let goes : Forward c.args.library.now c.loop-definition.c c.in-Some.field-0.rest = definition-goes c.args.library.now c.loop-definition.c c.loop-definition.invariant.ordered
    (sym c.next_definition.ensures ∙ c.in-Some.is) in
    let i = c.loop-definition.invariant in
    let d = c.in-Some.field-0.definition in
    let f = goes in
    record {
      long = ap length c.note.ensures.0 ∙ note-length
          c.loop-definition.table c.loop-definition.n d ∙ i.long;
      done = i.done ++ one d;
      whole = append_assoc i.done (one d) _ ∙ ap (λ xs. i.done ++ xs) (sym (yields c)) ∙ i.whole;
      tells = rw (c.note.ensures.0, i.number)
          (noted i.done _ d i.tells c.note.ensures.1 (rw i.number at c.note.ensures.2));
      number = c.kept_after-n.ensures ∙ rw i.number (sym (kept_more i.done d));
      few = omega (arith, i.few, f, c.kept_after-n.ensures, kept_step c.loop-definition.n d);
      ordered = f.ordered;
    }

pub returns : goal.returns
returns c =
    let l = c.loop-definition in
    let lib = c.args.library.now in
    let e = next-definition-yields lib l.c ∙ ap (definitions_after lib) (sym c.next_definition.ensures ∙ c.in_default.is) in
    all_noted l.table l.invariant.whole e l.invariant.tells l.invariant.number
