use Rattle.std.proofs.Common.{◌≡◌, ℕ, Bool, List, map, length, sym, refl, ap, ◌∙◌, subst, arith, le-ltb}
use Rattle.lent.specs.Lists.{one}
use Rattle.image.specs.View.{stretches_in}
use Rattle.search.specs.Store.{seen, stored_in}
use Rattle.search.specs.matches.Cursor.{places_left, Reached}
use Rattle.search.specs.matches.StepLaws.{stepped-at, stepped-done, reached-less}
use Rattle.search.specs.depth.DeepLaws.{carries-row}
use Rattle.search.specs.visit.Visits.{Stored, segments_in, Visits, ToldOf, KnownDeep}
use Rattle.search.specs.visit.SegmentLaws.{match_at, segment-matches, known-valid, visits-nothing}
use Rattle.search.specs.visit.VisitsLeftLaws.{leading-starts, leading-on, leading-ends}
use Rattle.search.proofs.visit.segment.search_segment.Goals as goal
use Rattle.search.proofs.visit.segment.search_segment.Goals.{then-asked-gt1, else-asked-gt1}

pub returns-then-row-eq0-2 : goal.returns-then-row-eq0-2
returns-then-row-eq0-2 c =
    let rows : Stored = stored_in c.args.store in
    let cells : List ℕ = seen c.args.view in
    let a = c.args in (
      visits-nothing (cells) a.asked a.library.now (rows) a.store.n a.i c.segment_at-row.result
          c.segment_at-row.ensures c.if-row-eq0.true c.if-row-eq0-2.true a.placed.now a.positions.now a.noted.now a.goals.now a.before,
      c.requires.1,
    )

pub loop-at-init : goal.loop-at-init
loop-at-init c =
    let rows : Stored = stored_in c.args.store in
    let cells : List ℕ = seen c.args.view in
    let a = c.args in
    record {
      told-long = refl;
      truth = c.requires.1;
      placed-long = refl;
      positions-long = refl;
      noted-long = refl;
      goals-long = refl;
      sound = c.start-left.ensures.sound;
      leads = leading-starts (cells) a.asked a.library.now (segments_in (rows) a.store.n)
          (map (match_at (cells) a.asked a.library.now (rows) a.store.n a.i c.segment_at-row.result)
          (places_left (cells) c.name-pattern.result.now c.name-masked.result.now c.start-left.result))
          a.placed.now a.positions.now a.noted.now a.goals.now a.before;
    }

-- the check to a depth above 1, and that the table tells the truth after it
pub fails_deep-deep-requires : goal.fails_deep-deep-requires
fails_deep-deep-requires c =
    let cells : List ℕ = seen c.args.view in
    let a = c.args in
    let row = c.segment_at-row in (
      omega (arith, c.if-asked-gt1.true),
      c.loop-at.invariant.truth,
      carries-row (cells) a.asked.rules (stored_in a.store) a.store.n (record { 0 = a.i }) row.result row.ensures,
    )

pub returns : goal.returns
returns c =
    let rows : Stored = stored_in c.args.store in
    let cells : List ℕ = seen c.args.view in
    let a = c.args in
    let l = c.loop-at in
    let row = c.segment_at-row in
    let b = c.name-pattern in
    let m = c.name-masked in
    let mk = match_at (cells) a.asked a.library.now (rows) a.store.n a.i row.result in
    let every = map mk (places_left (cells) b.result.now m.result.now c.start-left.result) in (
      subst (λ ms. Visits (cells) a.asked a.library.now (segments_in (rows) a.store.n) ms a.placed.now a.positions.now
          a.noted.now a.goals.now a.before l.placed l.positions l.noted l.goals l.f)
          (segment-matches (cells) a.asked a.library.now (rows) a.store.n a.i row.result b.result.now m.result.now
          b.ensures m.ensures row.ensures {left = places_left (cells) b.result.now m.result.now c.start-left.result} (c.start-left.ensures.all (stretches_in a.view.s.now)))
          (leading-ends (cells) a.asked a.library.now (segments_in (rows) a.store.n) every a.placed.now a.positions.now
          a.noted.now a.goals.now a.before {left = map mk (places_left (cells) b.result.now m.result.now l.left)} l.placed
          l.positions l.noted l.goals l.f l.invariant.leads
          (ap (map mk) (stepped-done a.view.image.now (stretches_in a.view.s.now) b.result.now m.result.now l.left c.in_default.is c.next_place.ensures))),
      l.invariant.truth,
    )

pub loop-at-smaller : goal.loop-at-smaller
loop-at-smaller c =
    let reached : Reached c.args.view.image.now (stretches_in c.args.view.s.now) c.name-pattern.result.now c.name-masked.result.now c.loop-at.left
    c.in-Some.field-0.at c.in-Some.field-0.rest = stepped-at c.args.view.image.now (stretches_in c.args.view.s.now) c.name-pattern.result.now c.name-masked.result.now
    c.loop-at.left c.in-Some.is c.next_place.ensures in
    reached-less c.args.view.image.now (stretches_in c.args.view.s.now) c.name-pattern.result.now c.name-masked.result.now
    c.loop-at.left (reached)

pub loop-at-preserved : goal.loop-at-preserved
loop-at-preserved c =
    let rows : Stored = stored_in c.args.store in
    let cells : List ℕ = seen c.args.view in
    let reached : Reached c.args.view.image.now (stretches_in c.args.view.s.now) c.name-pattern.result.now c.name-masked.result.now c.loop-at.left
    c.in-Some.field-0.at c.in-Some.field-0.rest = stepped-at c.args.view.image.now (stretches_in c.args.view.s.now) c.name-pattern.result.now c.name-masked.result.now
    c.loop-at.left c.in-Some.is c.next_place.ensures in
    let decided : let a = c.args in KnownDeep (cells) a.asked a.library.now (rows) a.store.n c.segment_at-row.result c.in-Some.field-0.at
    c.if-asked-gt1.deep × ToldOf (cells) a.asked (rows) a.store.n c.if-asked-gt1.told = let a = c.args in
    let Deep : Bool → Type 0 = KnownDeep (cells) a.asked a.library.now (rows) a.store.n c.segment_at-row.result c.in-Some.field-0.at in
    let True : List ℕ → Type 0 = ToldOf (cells) a.asked (rows) a.store.n in
    elim c.if-asked-gt1.branch [
      | then-asked-gt1 w ↦ (
        subst Deep (sym w.deep-is) ((λ l. w.fails_deep-deep.ensures.0), λ l. absurd (omega (arith, l, w.if-asked-gt1.true))),
        subst True (sym w.told-is) w.fails_deep-deep.ensures.1,
      )
      | else-asked-gt1 w ↦ (
        subst Deep (sym w.deep-is) ((λ l. absurd (omega (arith, l, w.if-asked-gt1.false))), λ l. le-ltb 1 a.asked.depth l),
        subst True (sym w.told-is) c.loop-at.invariant.truth,
      )
    ] in
    let long : length c.if-asked-gt1.told ≡ length c.loop-at.told = elim c.if-asked-gt1.branch [
      | then-asked-gt1 w ↦ ap length w.told-is ∙ w.fails_deep-deep.auto.told
      | else-asked-gt1 w ↦ ap length w.told-is
    ] in
    let a = c.args in
    let l = c.loop-at in
    let v = c.visit_match-f in
    let row = c.segment_at-row.result in
    let b = c.name-pattern in
    let m = c.name-masked in
    let t = rows in
    let mk = match_at (cells) a.asked a.library.now t a.store.n a.i row in
    let every = map mk (places_left (cells) b.result.now m.result.now c.start-left.result) in
    record {
      told-long = long ∙ l.invariant.told-long;
      truth = (decided).1;
      placed-long = v.auto.placed ∙ l.invariant.placed-long;
      positions-long = v.auto.positions ∙ l.invariant.positions-long;
      noted-long = v.auto.noted ∙ l.invariant.noted-long;
      goals-long = v.auto.goals ∙ l.invariant.goals-long;
      sound = (reached).sound;
      leads =
          leading-on (cells) a.asked a.library.now (segments_in t a.store.n) every a.placed.now a.positions.now a.noted.now
          a.goals.now a.before {left = map mk (places_left (cells) b.result.now m.result.now l.left)} l.placed l.positions l.noted l.goals l.f l.invariant.leads
          (one (mk c.in-Some.field-0.at)) (map mk (places_left (cells) b.result.now m.result.now c.in-Some.field-0.rest))
          v.new.placed v.new.positions
          v.new.noted v.new.goals v.result
          (ap (map mk) (reached).places)
          (v.ensures (known-valid (cells) a.asked a.library.now t a.store.n a.i row b.result.now m.result.now b.ensures
          m.ensures c.reaches-valid.result c.reaches-valid.ensures) (decided).0);
    }
