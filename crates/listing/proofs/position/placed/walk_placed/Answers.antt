use Prim.Native.Nat.{ℕ, ◌<◌}
use mathlib.Core.Path.{◌≡◌, refl, ◌∙◌}
use mathlib.Core.Bool.{true, false}
use mathlib.Core.List.{List, map}
use native.Mathlib.Nat.{le-div_iff_mul-le}
use native.Mathlib.Omega.{arith}
use lib.ListN.{length}
use Rattle.lent.specs.Lists.{one, keep}
use Rattle.image.specs.View.{stretches_in, view}
use Rattle.tables.specs.by_name.Sheet.{key_buckets, key_bucket}
use Rattle.search_rules.specs.declared.Placed.{Placed}
use Rattle.search_rules.specs.Search.{Placing}
use Rattle.search_rules.specs.SearchRows.{placed_sheet}
use Rattle.search_rules.proofs.FindableLaws.{placed-reads}
use Rattle.listing_rules.specs.declared.Line.{Line}
use Rattle.listing.specs.position.Bests.{Bests}
use Rattle.listing.specs.position.RowsAt.{Walked, Known, stays_at, line_of}
use Rattle.listing.specs.position.RowsAtLaws.{walked-first, walked-room, leads-back, walked-turn, walked-last}
use Rattle.listing.specs.position.KnownLaws.{row_lines, known-within, known-lines}
use Rattle.listing.proofs.position.placed.walk_placed.Goals as goal
use Rattle.listing.proofs.position.placed.walk_placed.Goals.{In-loop-here}

abbrev none : Placing
none = record { position = 0; name = record { at = 0; len = 0 }; valid = false; segment = 0; base = 0 }

abbrev lines_of : (c : In-loop-here) → Placed → List Line
lines_of c =
    row_lines (view c.args.image.now (stretches_in c.args.s.now)) c.args.rules c.args.found.now.library.now c.args.found.now.segments.now c.args.found.now.n c.args.found.now.references.now
    c.args.found.now.placed.now c.args.found.now.positions.now c.args.found.now.noted.now c.args.found.now.goals.now c.args.at

pub returns-then-found-here : goal.returns-then-found-here
returns-then-found-here c =
    let Known-at : Type 0 = Known c.args.rules c.args.found.now.library.now c.args.found.now.segments.now c.args.found.now.references.now c.args.found.now.n c.args.found.now.placed.now
    c.args.found.now.positions.now c.args.found.now.noted.now c.args.found.now.goals.now in
    let within : (k : Known-at) → c.args.at < key_buckets → (p : Placing) → stays_at (view c.args.image.now (stretches_in c.args.s.now)) k c.args.at
    p ≡ true → key_bucket p.position ≡ c.args.at = λ k small. known-within (view c.args.image.now (stretches_in c.args.s.now)) c.args.rules c.args.found.now.library.now c.args.found.now.segments.now
    c.args.found.now.n c.args.found.now.references.now c.args.found.now.placed.now c.args.found.now.positions.now c.args.found.now.noted.now c.args.found.now.goals.now k c.args.at small in
    let started : (k : Known-at) (lines before : List Line) → c.args.at < key_buckets → Bests lines before c.args.m.now c.args.before → Walked
    placed_sheet c.args.found.now.library.now k.ps c.args.at (stays_at (view c.args.image.now (stretches_in c.args.s.now)) k c.args.at)
    (line_of (view c.args.image.now (stretches_in c.args.s.now)) k) lines before c.head_at-here.result c.args.m.now c.args.before = λ k lines before small h. let a = c.args in
    walked-first placed_sheet a.found.now.library.now placed-reads none k.ps k.sought.placings refl a.at
    (stays_at (view a.image.now (stretches_in a.s.now)) k a.at) (within k small) (line_of (view a.image.now (stretches_in a.s.now)) k) lines before
    c.head_at-here.result a.m.now a.before small c.head_at-here.ensures h in
    let a = c.args in
    record {
      few = omega arith;
      walked = λ k lines before small long h.
          absurd (omega (
            arith,
            c.if-found-here.true,
            (le-div_iff_mul-le {k = 8} {x = c.head_at-here.result} {y = length a.found.now.placed.now} (omega arith)).1
                (walked-room placed_sheet a.found.now.library.now placed-reads none k.ps k.sought.placings refl a.at
                (stays_at (view a.image.now (stretches_in a.s.now)) k a.at) (within k small)
                (line_of (view a.image.now (stretches_in a.s.now)) k) lines before (started k lines before small h)),
          ));
    }

pub loop-here-init : goal.loop-here-init
loop-here-init c =
    let Known-at : Type 0 = Known c.args.rules c.args.found.now.library.now c.args.found.now.segments.now c.args.found.now.references.now c.args.found.now.n c.args.found.now.placed.now
    c.args.found.now.positions.now c.args.found.now.noted.now c.args.found.now.goals.now in
    let within : (k : Known-at) → c.args.at < key_buckets → (p : Placing) → stays_at (view c.args.image.now (stretches_in c.args.s.now)) k c.args.at
    p ≡ true → key_bucket p.position ≡ c.args.at = λ k small. known-within (view c.args.image.now (stretches_in c.args.s.now)) c.args.rules c.args.found.now.library.now c.args.found.now.segments.now
    c.args.found.now.n c.args.found.now.references.now c.args.found.now.placed.now c.args.found.now.positions.now c.args.found.now.noted.now c.args.found.now.goals.now k c.args.at small in
    let started : (k : Known-at) (lines before : List Line) → c.args.at < key_buckets → Bests lines before c.args.m.now c.args.before → Walked
    placed_sheet c.args.found.now.library.now k.ps c.args.at (stays_at (view c.args.image.now (stretches_in c.args.s.now)) k c.args.at)
    (line_of (view c.args.image.now (stretches_in c.args.s.now)) k) lines before c.head_at-here.result c.args.m.now c.args.before = λ k lines before small h. let a = c.args in
    walked-first placed_sheet a.found.now.library.now placed-reads none k.ps k.sought.placings refl a.at
    (stays_at (view a.image.now (stretches_in a.s.now)) k a.at) (within k small) (line_of (view a.image.now (stretches_in a.s.now)) k) lines before
    c.head_at-here.result a.m.now a.before small c.head_at-here.ensures h in
    record {
      few = omega (arith, c.if-found-here.false);
      long = refl;
      walked = λ k lines before small long h. started k lines before small h;
    }

pub overflow_sub-here : goal.overflow_sub-here
overflow_sub-here c =
    omega (arith, c.loop-here-test.true)

pub take_placed-b-requires : goal.take_placed-b-requires
take_placed-b-requires c =
    omega (arith, c.loop-here.invariant.few, c.loop-here-test.true, c.requires.0, c.requires.1)

pub returns-then-here-next : goal.returns-then-here-next
returns-then-here-next c =
    let Known-at : Type 0 = Known c.args.rules c.args.found.now.library.now c.args.found.now.segments.now c.args.found.now.references.now c.args.found.now.n c.args.found.now.placed.now
    c.args.found.now.positions.now c.args.found.now.noted.now c.args.found.now.goals.now in
    let within : (k : Known-at) → c.args.at < key_buckets → (p : Placing) → stays_at (view c.args.image.now (stretches_in c.args.s.now)) k c.args.at
    p ≡ true → key_bucket p.position ≡ c.args.at = λ k small. known-within (view c.args.image.now (stretches_in c.args.s.now)) c.args.rules c.args.found.now.library.now c.args.found.now.segments.now
    c.args.found.now.n c.args.found.now.references.now c.args.found.now.placed.now c.args.found.now.positions.now c.args.found.now.noted.now c.args.found.now.goals.now k c.args.at small in
    let are : (k : Known-at) (p : Placing) (link alike : ℕ) → (lines_of (goal.at.returns-then-here-next c).In-loop-here)
    (placed_sheet.row p link alike) ≡ map (line_of (view c.args.image.now (stretches_in c.args.s.now)) k)
    (keep (stays_at (view c.args.image.now (stretches_in c.args.s.now)) k c.args.at) (one p)) = λ k. known-lines
    (view c.args.image.now (stretches_in c.args.s.now)) c.args.rules c.args.found.now.library.now c.args.found.now.segments.now c.args.found.now.n
    c.args.found.now.references.now c.args.found.now.placed.now c.args.found.now.positions.now c.args.found.now.noted.now c.args.found.now.goals.now k c.args.at in
    let a = c.args in
    let l = c.loop-here in
    record {
      few = omega (arith, l.invariant.few, c.take_placed-b.ensures.few, c.loop-here-test.true);
      walked = λ k lines before small long h.
          absurd (omega (
            arith,
            c.if-here-next.true,
            leads-back placed_sheet a.found.now.library.now placed-reads none k.ps k.sought.placings refl a.at
                (stays_at (view a.image.now (stretches_in a.s.now)) k a.at) (within k small) (line_of (view a.image.now (stretches_in a.s.now)) k) lines before
                l.here l.m l.b (l.invariant.walked k lines before small long h) c.loop-here-test.true
                (λ r. r.link) (λ x link alike. refl) (lines_of (goal.at.returns-then-here-next c).In-loop-here) (are k) c.placed_at-row.result c.placed_at-row.ensures,
          ));
    }

pub loop-here-smaller : goal.loop-here-smaller
loop-here-smaller c =
    c.if-here-next.false

pub loop-here-preserved : goal.loop-here-preserved
loop-here-preserved c =
    let Known-at : Type 0 = Known c.args.rules c.args.found.now.library.now c.args.found.now.segments.now c.args.found.now.references.now c.args.found.now.n c.args.found.now.placed.now
    c.args.found.now.positions.now c.args.found.now.noted.now c.args.found.now.goals.now in
    let within : (k : Known-at) → c.args.at < key_buckets → (p : Placing) → stays_at (view c.args.image.now (stretches_in c.args.s.now)) k c.args.at
    p ≡ true → key_bucket p.position ≡ c.args.at = λ k small. known-within (view c.args.image.now (stretches_in c.args.s.now)) c.args.rules c.args.found.now.library.now c.args.found.now.segments.now
    c.args.found.now.n c.args.found.now.references.now c.args.found.now.placed.now c.args.found.now.positions.now c.args.found.now.noted.now c.args.found.now.goals.now k c.args.at small in
    let are : (k : Known-at) (p : Placing) (link alike : ℕ) → (lines_of (goal.at.loop-here-preserved c).In-loop-here) (placed_sheet.row p link alike)
    ≡ map (line_of (view c.args.image.now (stretches_in c.args.s.now)) k)
    (keep (stays_at (view c.args.image.now (stretches_in c.args.s.now)) k c.args.at) (one p)) = λ k. known-lines
    (view c.args.image.now (stretches_in c.args.s.now)) c.args.rules c.args.found.now.library.now c.args.found.now.segments.now c.args.found.now.n
    c.args.found.now.references.now c.args.found.now.placed.now c.args.found.now.positions.now c.args.found.now.noted.now c.args.found.now.goals.now k c.args.at in
    let a = c.args in
    let l = c.loop-here in
    record {
      few = omega (arith, l.invariant.few, c.take_placed-b.ensures.few, c.if-here-next.false);
      long = c.take_placed-b.auto.m ∙ l.invariant.long;
      walked = λ k lines before small long h.
          walked-turn placed_sheet a.found.now.library.now placed-reads none k.ps k.sought.placings refl a.at
          (stays_at (view a.image.now (stretches_in a.s.now)) k a.at) (within k small) (line_of (view a.image.now (stretches_in a.s.now)) k) lines before
          l.here l.m l.b (l.invariant.walked k lines before small long h) c.loop-here-test.true
          (λ r. r.link) (λ x link alike. refl) (lines_of (goal.at.loop-here-preserved c).In-loop-here) (are k) c.placed_at-row.result c.placed_at-row.ensures
          a.from c.take_placed-b.new.m c.take_placed-b.result long c.take_placed-b.ensures;
    }

pub returns : goal.returns
returns c =
    let Known-at : Type 0 = Known c.args.rules c.args.found.now.library.now c.args.found.now.segments.now c.args.found.now.references.now c.args.found.now.n c.args.found.now.placed.now
    c.args.found.now.positions.now c.args.found.now.noted.now c.args.found.now.goals.now in
    let within : (k : Known-at) → c.args.at < key_buckets → (p : Placing) → stays_at (view c.args.image.now (stretches_in c.args.s.now)) k c.args.at
    p ≡ true → key_bucket p.position ≡ c.args.at = λ k small. known-within (view c.args.image.now (stretches_in c.args.s.now)) c.args.rules c.args.found.now.library.now c.args.found.now.segments.now
    c.args.found.now.n c.args.found.now.references.now c.args.found.now.placed.now c.args.found.now.positions.now c.args.found.now.noted.now c.args.found.now.goals.now k c.args.at small in
    let a = c.args in
    let l = c.loop-here in
    record {
      few = omega (arith, l.invariant.few);
      walked = λ k lines before small long h.
          walked-last placed_sheet a.found.now.library.now placed-reads none k.ps k.sought.placings refl a.at
          (stays_at (view a.image.now (stretches_in a.s.now)) k a.at) (within k small) (line_of (view a.image.now (stretches_in a.s.now)) k) lines before
          l.here l.m l.b c.loop-here-test.false (l.invariant.walked k lines before small long h);
    }
