-- `follow`: a stop, no room, a return; and the limit. Assumes nothing.
use Prim.Native.Nat.{ℕ}
use mathlib.Core.Path.{◌≡◌, refl, sym, ap, ◌∙◌}
use mathlib.Core.Bool.{Bool, true}
use mathlib.Core.List.{List}
use lib.ListN.{length}
use Rattle.std.proofs.Common.{Ok}
use Rattle.lent.specs.Rows.{has_row, put_row}
use Rattle.image.specs.View.{stretches_in, view}
use Rattle.routine.specs.Step.{step_at}
use Rattle.routine.specs.Outcome.{numbers_in}
use Rattle.routine.proofs.WalkLaws.{at-limit, at-stop, no_room, at_return}
use Rattle.routine.proofs.walk.follow.Goals as goal
use Rattle.routine.proofs.walk.follow.Goals.{In-Ok, After-store}

abbrev cells : (c : In-Ok) → List ℕ
cells c = view c.args.image.now (stretches_in c.args.s.now)

found : (c : In-Ok) (last : Bool) → c.in-Ok.shown.last ≡ last → step_at (cells c) c.loop-i.at ≡ Ok (record { row = c.in-Ok.shown.row; next = c.in-Ok.shown.next; last = last })
found c last e = sym c.step_at.ensures ∙ c.in-Ok.is ∙ ap (λ last. Ok (record { row = c.in-Ok.shown.row; next = c.in-Ok.shown.next; last = last })) e

has : (c : After-store) → has_row 3 c.loop-i.rows c.loop-i.i ≡ c.store.result
has c = sym (ap (λ (p : Bool × List ℕ). p.0) c.store.ensures)

put : (c : After-store) → c.store.new.rows ≡ put_row 3 c.loop-i.rows c.loop-i.i (numbers_in c.in-Ok.shown.row)
put c = ap (λ (p : Bool × List ℕ). p.1) c.store.ensures

pub returns-in-Err : goal.returns-in-Err
returns-in-Err c =
    let a = c.args in
    let l = c.loop-i in
    at-stop (view a.image.now (stretches_in a.s.now)) a.start (length a.rows.now) l.rows l.at l.i l.invariant c.loop-i-test.true c.in-Err.why
    (sym c.step_at.ensures ∙ c.in-Err.is)

pub returns-then-not-store : goal.returns-then-not-store
returns-then-not-store c =
    let at = goal.at.returns-then-not-store c in
    let l = c.loop-i in
    let s = c.in-Ok.shown in
    let left : length c.store.new.rows ≡ length l.rows = c.store.auto.rows in
    rw (c.fill-then-not-store.ensures.after, left)
    (no_room (cells at.In-Ok) c.args.start (length c.args.rows.now) l.rows l.at l.i l.invariant c.loop-i-test.true s.row s.next s.last
    (found at.In-Ok s.last refl) (has at.After-store ∙ c.if-not-store.true))

pub returns-then-shown : goal.returns-then-shown
returns-then-shown c =
    let at = goal.at.returns-then-shown c in
    let l = c.loop-i in
    let s = c.in-Ok.shown in
    rw (put at.After-store)
    (at_return (cells at.In-Ok) c.args.start (length c.args.rows.now) l.rows l.at l.i l.invariant c.loop-i-test.true s.row s.next
    (has at.After-store ∙ c.if-not-store.false) (found at.In-Ok true c.if-shown.true))

pub returns : goal.returns
returns c =
    let a = c.args in
    let l = c.loop-i in
    at-limit (view a.image.now (stretches_in a.s.now)) a.start (length a.rows.now) l.rows l.at l.i l.invariant c.loop-i-test.false
