use Rattle.std.proofs.Common.{◌+◌, ◌/◌, ◌≤◌, [], ◌∷◌, length, not, sym, refl, ap, ◌∙◌, subst, inl, inr, arith}
use Rattle.search.specs.Store.{seen, stored_in}
use Rattle.segments.specs.SegmentLayouts.{reference_layout}
use Rattle.segments.proofs.recalled.RowsLaws.{rows_from, rows-past, rows_few, rows-within, rows-turn, rows_end}
use Rattle.std.specs.Prelude.{Ok}
use Rattle.search.specs.note.NotedNames.{Refers}
use Rattle.search.specs.note.ReferLaws.{referring-starts, referring-on, referring-ends}
use Rattle.search.proofs.note.refer.refer_all.Goals as goal
use Rattle.search.proofs.note.refer.refer_all.Goals.{In-loop-k, then-is_ok, else-is_ok}

-- the part is one of the rows
fits : (c : In-loop-k) → c.args.part.at + c.args.part.len ≤ length c.args.store.references.now / 6
fits c =
    rows_few reference_layout c.args.store.references.now c.args.part c.lies_within.result c.lies_within.ensures (ap not c.if-not-lies_within.false)

pub returns-then-not-lies_within : goal.returns-then-not-lies_within
returns-then-not-lies_within c =
    let a = c.args in
    let cells = seen a.view in
    subst (λ rs. Refers cells a.rules a.position a.valid a.library.now (stored_in a.store) a.store.n rs
    a.noted.now a.heads.now a.before a.noted.now a.heads.now (record { failed = Ok tt; fill = a.before }))
    (sym (rows-past reference_layout a.store.references.now a.part c.lies_within.result c.lies_within.ensures (ap not c.if-not-lies_within.true)))
    (referring-ends cells a.rules a.position a.valid a.library.now (stored_in a.store) a.store.n []
    a.noted.now a.heads.now a.before 0 a.noted.now a.heads.now a.before (Ok tt)
    (referring-starts cells a.rules a.position a.valid a.library.now (stored_in a.store) a.store.n [] a.noted.now a.heads.now a.before) refl)

pub loop-k-init : goal.loop-k-init
loop-k-init c =
    let a = c.args in
    record {
      within = omega arith;
      long = refl;
      heads-long = refl;
      refers = referring-starts (seen a.view) a.rules a.position a.valid a.library.now (stored_in a.store) a.store.n
          (rows_from reference_layout a.store.references.now a.part 0) a.noted.now a.heads.now a.before;
    }

pub overflow_add-part : goal.overflow_add-part
overflow_add-part c =
    omega (arith, c.loop-k-test.true, fits (goal.at.overflow_add-part c).In-loop-k, c.well_formed)

pub loop-k-preserved : goal.loop-k-preserved
loop-k-preserved c =
    let a = c.args in
    let l = c.loop-k in
    let r = c.reference_at-r in
    let q = c.note_at-f in
    let rest = rows_from reference_layout a.store.references.now a.part (l.k + 1) in
    record {
      within = omega (arith, c.loop-k-test.true);
      long = c.note_at-f.auto.noted ∙ l.invariant.long;
      heads-long = c.note_at-f.auto.heads ∙ l.invariant.heads-long;
      refers =
          referring-on (seen a.view) a.rules a.position a.valid a.library.now (stored_in a.store) a.store.n
          (rows_from reference_layout a.store.references.now a.part 0) a.noted.now a.heads.now a.before
          l.k l.noted l.heads l.f l.failed l.invariant.refers r.result rest
          (rows-turn reference_layout a.store.references.now a.part l.k (omega (arith, c.loop-k-test.true)) ∙ ap (λ x. x ∷ rest) (sym r.ensures))
          c.target_of-target.result c.target_of-target.ensures
          q.new.noted q.new.heads q.result q.ensures
          c.is_ok.result c.is_ok.ensures.value c.if-is_ok.failed
          (elim c.if-is_ok.branch [
            | then-is_ok w ↦ inl (w.if-is_ok.true, λ references symbols. w.failed-is ∙ w.failed_by-failed.ensures references symbols)
            | else-is_ok w ↦ inr (w.if-is_ok.false, w.failed-is)
          ]);
    }

pub returns : goal.returns
returns c =
    let a = c.args in
    let l = c.loop-k in
    let cells = seen a.view in
    subst (λ rs. Refers cells a.rules a.position a.valid a.library.now (stored_in a.store) a.store.n rs
    a.noted.now a.heads.now a.before l.noted l.heads (record { failed = l.failed; fill = l.f }))
    (sym (rows-within reference_layout a.store.references.now a.part c.lies_within.result c.lies_within.ensures (ap not c.if-not-lies_within.false)))
    (referring-ends (seen a.view) a.rules a.position a.valid a.library.now (stored_in a.store) a.store.n
    (rows_from reference_layout a.store.references.now a.part 0) a.noted.now a.heads.now a.before
    l.k l.noted l.heads l.f l.failed l.invariant.refers (rows_end reference_layout a.store.references.now a.part l.k (omega (arith, c.loop-k-test.false))))
