use Prim.Native.Nat.{ℕ, ◌+◌, ◌*◌, ◌≤◌, ◌<◌}
use mathlib.Core.Path.{◌≡◌, subst, ◌∙◌}
use mathlib.Core.List.{List}
use native.Mathlib.Omega.{arith}
use lib.ListN.{length, set}
use Rattle.image.specs.View.{view}
use Rattle.image.proofs.ViewLaws.{view-length}
use Rattle.run.specs.Run.{Lent, lent_lists, cover, Answer}
use Rattle.run.proofs.Answers.{SameLengths}
use Rattle.bank_rules.specs.Banks.{Has}
use Rattle.banks.specs.Turns.{FindsView, joined_counts}
use Rattle.banks.specs.BoardLaws.{Shown, shown-starts, shown-room, shown-on, shown-stops, shown-ends}
use Rattle.banks.proofs.views.find_views.Goals as goal
use Rattle.banks.proofs.views.find_views.Goals.{After-without_rows-counts, In-Ok}

abbrev lent : (c : After-without_rows-counts) → Lent
lent c =
    let a = c.args in lent_lists a.segments.now a.references.now a.symbols.now a.bytes.now a.masks.now a.placed.now a.noted.now a.lines.now

abbrev seen : (c : After-without_rows-counts) → List ℕ
seen c =
    view c.args.file.now (cover c.args.settings)

pub loop-k-init : goal.loop-k-init
loop-k-init c =
    let a = c.args in
    shown-starts (seen c) a.library.now a.settings a.banks (lent c) a.collected c.requires.3 c.without_rows-counts.ensures

pub overflow_mul-at : goal.overflow_mul-at
overflow_mul-at c =
    let room : c.loop-k.counts.lines * 4 ≤ length c.loop-k.lines = let a = c.args in
    shown-room (seen (goal.at.overflow_mul-at c).After-without_rows-counts) a.library.now a.settings a.banks
    (lent (goal.at.overflow_mul-at c).After-without_rows-counts) a.collected c.loop-k.invariant in
    omega (arith, room, c.well_formed, c.loop-k.invariant.listed.long.lines)

pub find_view-requires : goal.find_view-requires
find_view-requires c =
    let has-bank : let a = c.args in Has c.loop-k.k a.file.now = omega (arith, c.loop-k-test.true, c.requires.0) in
    let few : c.loop-k.k < 16 = omega (arith, c.loop-k-test.true, c.requires.2) in
    let room : c.loop-k.counts.lines * 4 ≤ length c.loop-k.lines = let a = c.args in
    shown-room (seen (goal.at.find_view-requires c).After-without_rows-counts) a.library.now a.settings a.banks
    (lent (goal.at.find_view-requires c).After-without_rows-counts) a.collected c.loop-k.invariant in
    (has-bank, few, room)

pub returns-in-Err : goal.returns-in-Err
returns-in-Err c =
    let turn : Lent = let l = c.loop-k in lent_lists l.segments l.references l.symbols l.bytes l.masks l.placed l.noted l.lines in
    let after : Lent = let q = c.find_view.new in
    lent_lists q.segments q.references q.symbols q.bytes q.masks q.placed q.noted q.lines in
    let kept : SameLengths (after) (turn) = record {
      segments = c.segments-1.given;
      references = c.references-1.given;
      symbols = c.symbols-1.given;
      bytes = c.bytes-1.given;
      masks = c.masks-1.given;
      placed = c.placed-1.given;
      noted = c.noted-1.given;
      lines = c.lines-1.given;
    } in
    let has-bank : let a = c.args in Has c.loop-k.k a.file.now = omega (arith, c.loop-k-test.true, c.requires.0) in
    let has-view : Has c.loop-k.k (seen (goal.at.returns-in-Err c).After-without_rows-counts) = let a = c.args in omega (arith, has-bank, view-length a.file.now (cover a.settings)) in
    let finds : (r : Answer) → c.find_view.result ≡ r → let a = c.args in let l = c.loop-k in FindsView
    (seen (goal.at.returns-in-Err c).After-without_rows-counts) a.library.now a.settings a.collected l.k (l.counts.lines * 4) (turn) r (after) = λ _ e. let a = c.args in
    let l = c.loop-k in
    subst (λ x. FindsView (seen (goal.at.returns-in-Err c).After-without_rows-counts) a.library.now a.settings a.collected l.k (l.counts.lines * 4) (turn) x (after)) e c.find_view.ensures in
    let a = c.args in
    let told = c.in-Err.is in
    shown-stops (seen (goal.at.returns-in-Err c).After-without_rows-counts) a.library.now a.settings a.banks
    (lent (goal.at.returns-in-Err c).After-without_rows-counts) a.collected c.loop-k.invariant (omega (arith, c.loop-k-test.true)) (has-view)
    (kept) (finds _ told) (c.fill.ensures.after (λ y e. e))

-- the lists as the turn began, and behind the bank's list, where it was made
abbrev turn : (c : In-Ok) → Lent
turn c =
    let l = c.loop-k in lent_lists l.segments l.references l.symbols l.bytes l.masks l.placed l.noted l.lines

abbrev after : (c : In-Ok) → Lent
after c =
    let q = c.find_view.new in lent_lists q.segments q.references q.symbols q.bytes q.masks q.placed q.noted q.lines

abbrev begun : (c : In-Ok) → Lent
begun c =
    let a = c.args in lent_lists a.segments.now a.references.now a.symbols.now a.bytes.now a.masks.now a.placed.now a.noted.now a.lines.now

abbrev cells : (c : In-Ok) → List ℕ
cells c =
    view c.args.file.now (cover c.args.settings)

kept : (c : In-Ok) → SameLengths (after c) (turn c)
kept c = record {
  segments = c.segments-1.given;
  references = c.references-1.given;
  symbols = c.symbols-1.given;
  bytes = c.bytes-1.given;
  masks = c.masks-1.given;
  placed = c.placed-1.given;
  noted = c.noted-1.given;
  lines = c.lines-1.given;
}

on : (c : In-Ok) → let a = c.args in let l = c.loop-k in let next = c.in-Ok.next in Shown (cells c) a.library.now a.settings a.banks (begun c) a.collected (l.k + 1) (after c)
    (joined_counts l.counts next (l.counts.lines + next.lines)) (set l.each l.k next.lines)
on c =
    let a = c.args in
    let l = c.loop-k in
    let has-bank : Has l.k a.file.now = omega (arith, c.loop-k-test.true, c.requires.0) in
    let has-view : Has l.k (cells c) = omega (arith, has-bank, view-length a.file.now (cover a.settings)) in
    let few : l.k < 16 = omega (arith, c.loop-k-test.true, c.requires.2) in
    shown-on (cells c) a.library.now a.settings a.banks (begun c) a.collected l.invariant (omega (arith, c.loop-k-test.true)) (has-view) (kept c)
    (subst (λ x. FindsView (cells c) a.library.now a.settings a.collected l.k (l.counts.lines * 4) (turn c) x (after c)) c.in-Ok.is c.find_view.ensures) (few)

pub overflow_add-counts : goal.overflow_add-counts
overflow_add-counts c =
    let ok = (goal.at.overflow_add-counts c).In-Ok in
    let a = c.args in
    omega (
      arith,
      shown-room (cells ok) a.library.now a.settings a.banks (begun ok) a.collected (on ok),
      (kept ok).lines,
      c.loop-k.invariant.listed.long.lines,
      c.well_formed,
    )

pub loop-k-preserved : goal.loop-k-preserved
loop-k-preserved c =
    on (goal.at.loop-k-preserved c).In-Ok

pub returns : goal.returns
returns c =
    let a = c.args in
    shown-ends (seen (goal.at.returns c).After-without_rows-counts) a.library.now a.settings a.banks
    (lent (goal.at.returns c).After-without_rows-counts) a.collected c.loop-k.invariant (omega (arith, c.loop-k-test.false)) c.requires.1
