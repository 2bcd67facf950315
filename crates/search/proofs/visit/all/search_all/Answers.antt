use Rattle.std.proofs.Common.{ℕ, ◌+◌, ◌-◌, List, sym, refl, ◌∙◌, subst, arith}
use Rattle.lent.specs.Lists.{joined, from}
use Rattle.search.specs.Store.{seen, stored_in}
use Rattle.search.specs.visit.Visits.{Stored, segments_in, Visits}
use Rattle.search.specs.visit.VisitLaws.{matches_by, all-by-number, next-number, no_number}
use Rattle.search.specs.visit.VisitsLeftLaws.{leading-starts, leading-on, leading-ends}
use Rattle.search.proofs.visit.all.search_all.Goals as goal

pub loop-i-init : goal.loop-i-init
loop-i-init c =
    let rows : Stored = stored_in c.args.store in
    let cells : List ℕ = seen c.args.view in
    let a = c.args in
    record {
      within = omega arith;
      told-long = refl;
      truth = c.requires.1;
      placed-long = refl;
      positions-long = refl;
      noted-long = refl;
      goals-long = refl;
      leads = leading-starts (cells) a.asked a.library.now (segments_in (rows) a.store.n)
          (joined (matches_by (cells) (rows)) (from 0 (a.store.n - 0))) a.placed.now a.positions.now a.noted.now a.goals.now a.before;
    }

pub search_segment-f-requires : goal.search_segment-f-requires
search_segment-f-requires c =
    (c.requires.0, c.loop-i.invariant.truth)

pub loop-i-preserved : goal.loop-i-preserved
loop-i-preserved c =
    let rows : Stored = stored_in c.args.store in
    let cells : List ℕ = seen c.args.view in
    let a = c.args in
    let l = c.loop-i in
    let v = c.search_segment-f in
    let more = joined (matches_by (cells) (rows)) in
    record {
      within = omega (arith, c.loop-i-test.true);
      told-long = c.search_segment-f.auto.told ∙ l.invariant.told-long;
      truth = v.ensures.1;
      placed-long = c.search_segment-f.auto.placed ∙ l.invariant.placed-long;
      positions-long = c.search_segment-f.auto.positions ∙ l.invariant.positions-long;
      noted-long = c.search_segment-f.auto.noted ∙ l.invariant.noted-long;
      goals-long = c.search_segment-f.auto.goals ∙ l.invariant.goals-long;
      leads =
          leading-on (cells) a.asked a.library.now (segments_in (rows) a.store.n) (more (from 0 (a.store.n - 0))) a.placed.now
          a.positions.now a.noted.now a.goals.now a.before {left = more (from l.i (a.store.n - l.i))} l.placed l.positions l.noted l.goals l.f l.invariant.leads
          (matches_by (cells) (rows) l.i) (more (from (l.i + 1) (a.store.n - (l.i + 1))))
          v.new.placed v.new.positions
          v.new.noted v.new.goals v.result
          (next-number (cells) (rows) l.i a.store.n (omega (arith, c.loop-i-test.true)))
          v.ensures.0;
    }

pub returns : goal.returns
returns c =
    let rows : Stored = stored_in c.args.store in
    let cells : List ℕ = seen c.args.view in
    let a = c.args in
    let l = c.loop-i in
    subst (λ ms. Visits (cells) a.asked a.library.now (segments_in (rows) a.store.n) ms a.placed.now a.positions.now
    a.noted.now a.goals.now a.before l.placed l.positions l.noted l.goals l.f)
    (sym (all-by-number (cells) (rows) a.store.n))
    (leading-ends (cells) a.asked a.library.now (segments_in (rows) a.store.n)
    (joined (matches_by (cells) (rows)) (from 0 (a.store.n - 0))) a.placed.now a.positions.now a.noted.now a.goals.now
    a.before {left = joined (matches_by (cells) (rows)) (from l.i (a.store.n - l.i))} l.placed l.positions l.noted l.goals l.f l.invariant.leads
    (no_number (cells) (rows) l.i a.store.n (omega (arith, c.loop-i-test.false))))
