use Rattle.std.proofs.Common.{ℕ, ◌+◌, ◌-◌, not, List, ◌∷◌, sym, ap, ◌∙◌, subst, arith}
use Rattle.std.proofs.Math.Option.{Option}
use Rattle.std.specs.Prelude.{Err}
use Rattle.std.proofs.lemmas.Result.{err_from_is_err_and}
use Rattle.search.specs.Store.{seen, stored_in}
use Rattle.segments.specs.declared.Reference.{Reference}
use Rattle.segments.specs.SegmentLayouts.{reference_layout}
use Rattle.segments.proofs.recalled.RowsLaws.{rows_from, rows-past, rows-within, rows-turn, rows_end}
use Rattle.search_rules.specs.declared.Why.{Why}
use Rattle.search_rules.specs.Search.{failed_from}
use Rattle.search.specs.failed.FailureLaws.{first-here, first-later, first-none}
use Rattle.search.specs.told.Answers.{recall_of}
use Rattle.search.specs.depth.Depths.{why_to, among, Told}
use Rattle.search.specs.depth.ToldLaws.{put-told, recalled-holds}
use Rattle.search.specs.depth.DeepLaws.{holds-none, holds-lacking, holds_row, at-nowhere, at-led}
use Rattle.search.proofs.depth.+failed_among_failed_at_holds.Goals as goal
use Rattle.search.proofs.depth.+failed_among_failed_at_holds.Goals.{holds-then-depth-eq0-via-then-depth-eq0, holds-then-depth-eq0-via-else-depth-eq0+then-store-number}

-- `failed_among`: the part is no part of the rows
pub failed_among-returns-then-not-lies_within : goal.failed_among-returns-then-not-lies_within
failed_among-returns-then-not-lies_within t c =
    let a = c.args in
    let cells = seen a.view in
    let why : List ℕ → Reference → Option Why = λ symbols. why_to cells a.rules (among cells a.rules (stored_in a.store) a.store.n symbols) a.below a.position in (
      (λ symbols. sym (first-none (why symbols) 0 (rows-past reference_layout a.store.references.now a.part c.lies_within.result c.lies_within.ensures (ap not c.if-not-lies_within.true)))),
      c.requires,
    )

-- a reference fails
pub failed_among-returns-in_err-failed_at : goal.failed_among-returns-in_err-failed_at
failed_among-returns-in_err-failed_at t c =
    let a = c.args in
    let cells = seen a.view in
    let why : List ℕ → Reference → Option Why = λ symbols. why_to cells a.rules (among cells a.rules (stored_in a.store) a.store.n symbols) a.below a.position in
    let l = c.loop-k in
    let r = c.reference_at-r in
    let f = c.failed_at in
    let told = err_from_is_err_and c.from_residual.result c.from_residual.ensures.1 in
    let rest = rows_from reference_layout a.store.references.now a.part (l.k + 1) in (
      (λ symbols. told.1 ∙ ap Err told.2 ∙ sym c.in_err-failed_at.was
          ∙ sym (ap (failed_from (why symbols) 0) (rows-within reference_layout a.store.references.now a.part c.lies_within.result c.lies_within.ensures (ap not c.if-not-lies_within.false))
          ∙ l.invariant.left symbols
          ∙ first-here (why symbols) l.k r.result rest f.result
          (at-led cells a.rules (stored_in a.store) a.store.n a.below a.position l.k r.result c.target_of-target.result c.target_of-target.ensures f.result f.ensures.0 symbols)
          (rows-turn reference_layout a.store.references.now a.part l.k (omega (arith, c.loop-k-test.true)) ∙ ap (λ x. x ∷ rest) (sym r.ensures))
          c.in_err-failed_at.was)),
      f.ensures.1,
    )

-- the next one is asked
pub failed_among-loop-k-preserved : goal.failed_among-loop-k-preserved
failed_among-loop-k-preserved t c =
    let a = c.args in
    let cells = seen a.view in
    let why : List ℕ → Reference → Option Why = λ symbols. why_to cells a.rules (among cells a.rules (stored_in a.store) a.store.n symbols) a.below a.position in
    let l = c.loop-k in
    let r = c.reference_at-r in
    let f = c.failed_at in
    let rest = rows_from reference_layout a.store.references.now a.part (l.k + 1) in
    record {
      within = omega (arith, c.loop-k-test.true);
      long = f.auto.told ∙ l.invariant.long;
      truth = f.ensures.1;
      left = λ symbols.
          l.invariant.left symbols
          ∙ first-later (why symbols) l.k r.result rest f.result
          (at-led cells a.rules (stored_in a.store) a.store.n a.below a.position l.k r.result c.target_of-target.result c.target_of-target.ensures f.result f.ensures.0 symbols)
          (rows-turn reference_layout a.store.references.now a.part l.k (omega (arith, c.loop-k-test.true)) ∙ ap (λ x. x ∷ rest) (sym r.ensures))
          c.in_ok-failed_at.was;
    }

-- none fails
pub failed_among-returns : goal.failed_among-returns
failed_among-returns t c =
    let a = c.args in
    let cells = seen a.view in
    let why : List ℕ → Reference → Option Why = λ symbols. why_to cells a.rules (among cells a.rules (stored_in a.store) a.store.n symbols) a.below a.position in
    let l = c.loop-k in (
      (λ symbols. sym (ap (failed_from (why symbols) 0) (rows-within reference_layout a.store.references.now a.part c.lies_within.result c.lies_within.ensures (ap not c.if-not-lies_within.false))
          ∙ l.invariant.left symbols
          ∙ first-none (why symbols) l.k (rows_end reference_layout a.store.references.now a.part l.k (omega (arith, c.loop-k-test.false))))),
      l.invariant.truth,
    )

-- `failed_at`: without a target
pub failed_at-returns-in_default : goal.failed_at-returns-in_default
failed_at-returns-in_default t c =
    let a = c.args in
    let cells = seen a.view in
    (at-nowhere cells a.rules (stored_in a.store) a.store.n a.below a.k a.goal a.target c.in_default.not-At c.failed_by.result c.failed_by.ensures, c.requires)

-- `holds`: at depth 0, or without a segment
pub holds-returns-then-depth-eq0 : goal.holds-returns-then-depth-eq0
holds-returns-then-depth-eq0 t c =
    let a = c.args in
    let cells = seen a.view in
    elim c.then-depth-eq0.branch [
      | holds-then-depth-eq0-via-then-depth-eq0 w ↦ (holds-none cells a.rules (stored_in a.store) a.store.n a.depth a.number a.at w.if-depth-eq0.true, c.requires)
      | holds-then-depth-eq0-via-else-depth-eq0+then-store-number w ↦
          (holds-lacking cells a.rules (stored_in a.store) a.store.n a.depth a.number a.at (omega (arith, w.if-store-number.true)), c.requires)
    ]

-- an answer that is remembered
pub holds-returns-in-Some : goal.holds-returns-in-Some
holds-returns-in-Some t c =
    let a = c.args in
    let cells = seen a.view in (
      recalled-holds cells a.rules (stored_in a.store) a.store.n a.told.now c.requires a.number a.at a.depth c.in-Some.answer
          (ap (λ x. recall_of x a.number.0 a.depth) (sym c.answer_at.ensures) ∙ sym c.recall.ensures ∙ c.in-Some.is),
      c.requires,
    )

-- worked out and remembered
pub holds-returns : goal.holds-returns
holds-returns t c =
    let a = c.args in
    let cells = seen a.view in
    let f = c.failed_among in
    let so = holds_row cells a.rules (stored_in a.store) a.store.n a.depth a.number a.at (omega (arith, c.if-store-number.false)) c.segment_at-row.result c.segment_at-row.ensures (a.depth - 1)
    (omega (arith, c.if-depth-eq0.false)) f.result f.ensures.0 c.is_ok-answer.result c.is_ok-answer.ensures.value in (
      so,
      subst (Told cells a.rules (stored_in a.store) a.store.n) (sym c.remember.ensures)
          (put-told cells a.rules (stored_in a.store) a.store.n f.new.told f.ensures.1 a.number a.at a.depth c.is_ok-answer.result so),
    )
