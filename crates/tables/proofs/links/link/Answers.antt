use Rattle.std.proofs.Common.{◌≡◌, ◌+◌, ◌-◌, ◌<◌, refl, subst, arith, length-set}
use Rattle.tables.specs.links.Index.{LinkedThings}
use Rattle.tables.specs.links.LinkedLaws.{none_yet, small-key, small-link, one-linked}
use Rattle.tables.proofs.links.link.Goals as goal
use Rattle.tables.proofs.links.link.Goals.{After-key_in-key}

so_far : (c : After-key_in-key) → 0 < c.loop-i.i → LinkedThings c.args.things.now c.args.n (c.loop-i.i - 1 + 1) c.loop-i.things c.loop-i.first
so_far c =
    λ h. let a = c.args in let l = c.loop-i in let back : l.i ≡ l.i - 1 + 1 = omega arith in subst (λ i. LinkedThings a.things.now a.n i l.things l.first) back l.invariant.linked

key : (c : After-key_in-key) → c.key_in-key.result < 65536
key c =
    rw c.key_in-key.ensures (small-key c.args.things.now c.args.n c.requires.within (c.loop-i.i - 1) (omega (arith, c.loop-i.invariant.within)) ((so_far c) (omega arith)))

pub loop-i-init : goal.loop-i-init
loop-i-init c =
    record { within = omega arith; things-long = refl; heads-long = refl; linked = none_yet c.args.things.now c.args.n c.requires.within c.args.first.now c.requires }

pub offset_bounds-first-key : goal.offset_bounds-first-key
offset_bounds-first-key c =
    omega (arith, key c)

pub bounds-first-key : goal.bounds-first-key
bounds-first-key c =
    omega (arith, key (goal.at.bounds-first-key c).After-key_in-key, c.loop-i.invariant.heads-long, c.requires.heads)

pub linked_to-requires : goal.linked_to-requires
linked_to-requires c =
    rw c.key_in-key.ensures (small-link c.args.things.now c.args.n c.requires.within (c.loop-i.i - 1)
    (omega (arith, c.loop-i.invariant.within)) ((so_far (goal.at.linked_to-requires c).After-key_in-key) (omega arith)) c.requires.few)

pub offset_bounds-first-key-in-loop-i : goal.offset_bounds-first-key-in-loop-i
offset_bounds-first-key-in-loop-i c =
    omega (arith, key (goal.at.offset_bounds-first-key-in-loop-i c).After-key_in-key)

pub bounds-first-key-in-loop-i : goal.bounds-first-key-in-loop-i
bounds-first-key-in-loop-i c =
    omega (arith, key (goal.at.bounds-first-key-in-loop-i c).After-key_in-key, c.loop-i.invariant.heads-long, c.requires.heads)

pub loop-i-preserved : goal.loop-i-preserved
loop-i-preserved c =
    let l = c.loop-i in
    record {
      within = omega (arith, l.invariant.within);
      things-long = rw length-set l.invariant.things-long;
      heads-long = rw length-set l.invariant.heads-long;
      linked = rw
          (c.linked_to.ensures, c.key_in-key.ensures)
          (one-linked c.args.things.now c.args.n c.requires.within (l.i - 1) (omega (arith, l.invariant.within)) ((so_far (goal.at.loop-i-preserved c).After-key_in-key) (omega arith)) c.requires.few);
    }

pub returns : goal.returns
returns c =
    let a = c.args in
    let l = c.loop-i in
    let end : l.i ≡ 0 = omega arith in
    subst (λ i. LinkedThings a.things.now a.n i l.things l.first) end l.invariant.linked
