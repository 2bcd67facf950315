use Prim.Native.Nat.{ℕ, ◌<◌}
use mathlib.Core.Path.{refl, subst, ◌∙◌}
use mathlib.Core.Bool.{false}
use mathlib.Core.List.{List, [], map, append-nil}
use native.Mathlib.Nat.{le-div_iff_mul-le}
use native.Mathlib.Omega.{arith}
use lib.ListN.{length}
use Rattle.lent.specs.Lists.{keep}
use Rattle.tables.specs.by_name.Sheet.{key_buckets}
use Rattle.search_rules.specs.Search.{Noting}
use Rattle.search_rules.specs.SearchRows.{noted_sheet}
use Rattle.search_rules.proofs.FindableLaws.{noted-reads}
use Rattle.listing_rules.specs.declared.Line.{Line}
use Rattle.listing_rules.specs.Listing.{noted_line}
use Rattle.listing_rules.specs.FrontLines.{Fronts}
use Rattle.listing.specs.position.Bests.{Bests, noted_lines}
use Rattle.listing.specs.position.RowsAt.{Walked, noted_at_it}
use Rattle.listing.specs.position.RowsAtLaws.{none-met, walked-first, walked-room, leads-back, walked-turn, walked-last}
use Rattle.listing.specs.position.RowLines.{noted-within, noted-lines}
use Rattle.listing.proofs.position.noted.walk_noted.Goals as goal
use Rattle.listing.proofs.position.noted.walk_noted.Invariants.{Noted-table}

abbrev none : Noting
none = record { target = 0; name = record { at = 0; len = 0 }; valid = false }

pub returns-then-noted-here : goal.returns-then-noted-here
returns-then-noted-here c =
    let started : (library : List ℕ) (ns : List Noting) (lines : List Line) → Noted-table library c.args.noted.now c.args.goals.now ns → c.args.at <
    key_buckets → Fronts lines c.args.m.now → Walked noted_sheet library ns c.args.at (noted_at_it c.args.at) noted_line lines []
    c.head_at-here.result c.args.m.now (record { count = 0; grade = 0 }) = λ library ns lines tabled small front. walked-first noted_sheet
    library noted-reads none ns tabled refl c.args.at (noted_at_it c.args.at)
    (noted-within c.args.at small) noted_line lines [] c.head_at-here.result c.args.m.now (record { count = 0; grade = 0 }) small c.head_at-here.ensures
    (none-met lines c.args.m.now front) in
    record {
      few = omega arith;
      walked = λ library ns lines tabled small long front.
          absurd (omega (
            arith,
            c.if-noted-here.true,
            (le-div_iff_mul-le {k = 6} {x = c.head_at-here.result} {y = length c.args.noted.now} (omega arith)).1
                (walked-room noted_sheet library noted-reads none ns tabled refl c.args.at (noted_at_it c.args.at)
                (noted-within c.args.at small) noted_line lines [] (started library ns lines tabled small front)),
          ));
    }

pub loop-here-init : goal.loop-here-init
loop-here-init c =
    let started : (library : List ℕ) (ns : List Noting) (lines : List Line) → Noted-table library c.args.noted.now c.args.goals.now ns → c.args.at <
    key_buckets → Fronts lines c.args.m.now → Walked noted_sheet library ns c.args.at (noted_at_it c.args.at) noted_line lines []
    c.head_at-here.result c.args.m.now (record { count = 0; grade = 0 }) = λ library ns lines tabled small front. walked-first noted_sheet
    library noted-reads none ns tabled refl c.args.at (noted_at_it c.args.at)
    (noted-within c.args.at small) noted_line lines [] c.head_at-here.result c.args.m.now (record { count = 0; grade = 0 }) small c.head_at-here.ensures
    (none-met lines c.args.m.now front) in
    record {
      few = omega (arith, c.if-noted-here.false);
      long = refl;
      walked = λ library ns lines tabled small long front. started library ns lines tabled small front;
    }

pub overflow_sub-here : goal.overflow_sub-here
overflow_sub-here c =
    omega (arith, c.loop-here-test.true)

pub take_noted-b-requires : goal.take_noted-b-requires
take_noted-b-requires c =
    omega (arith, c.loop-here.invariant.few, c.loop-here-test.true, c.requires, c.well_formed.0, c.well_formed.1.1.1.0)

pub returns-then-here-next : goal.returns-then-here-next
returns-then-here-next c =
    let a = c.args in
    let l = c.loop-here in
    record {
      few = omega (arith, l.invariant.few, c.take_noted-b.ensures.few, c.loop-here-test.true);
      walked = λ library ns lines tabled small long front.
          absurd (omega (
            arith,
            c.if-here-next.true,
            leads-back noted_sheet library noted-reads none ns tabled refl a.at (noted_at_it a.at) (noted-within a.at small) noted_line lines []
                l.here l.m l.b (l.invariant.walked library ns lines tabled small long front) c.loop-here-test.true
                (λ r. r.link) (λ x link alike. refl) (noted_lines a.at) (noted-lines a.at) c.noted_at-row.result c.noted_at-row.ensures,
          ));
    }

pub loop-here-smaller : goal.loop-here-smaller
loop-here-smaller c =
    c.if-here-next.false

pub loop-here-preserved : goal.loop-here-preserved
loop-here-preserved c =
    let a = c.args in
    let l = c.loop-here in
    record {
      few = omega (arith, l.invariant.few, c.take_noted-b.ensures.few, c.if-here-next.false);
      long = c.take_noted-b.auto.m ∙ l.invariant.long;
      walked = λ library ns lines tabled small long front.
          walked-turn noted_sheet library noted-reads none ns tabled refl a.at (noted_at_it a.at) (noted-within a.at small) noted_line lines []
          l.here l.m l.b (l.invariant.walked library ns lines tabled small long front) c.loop-here-test.true
          (λ r. r.link) (λ x link alike. refl) (noted_lines a.at) (noted-lines a.at) c.noted_at-row.result c.noted_at-row.ensures
          a.from c.take_noted-b.new.m c.take_noted-b.result long c.take_noted-b.ensures;
    }

pub returns : goal.returns
returns c =
    let a = c.args in
    let l = c.loop-here in
    record {
      few = omega (arith, l.invariant.few);
      walked = λ library ns lines tabled small long front.
          subst (λ ls. Bests lines ls l.m l.b) (append-nil (map noted_line (keep (noted_at_it a.at) ns)))
          (walked-last noted_sheet library noted-reads none ns tabled refl a.at (noted_at_it a.at) (noted-within a.at small) noted_line lines []
          l.here l.m l.b c.loop-here-test.false (l.invariant.walked library ns lines tabled small long front));
    }
