use Rattle.std.proofs.Common.{◌-◌, ◌<◌, length, sym, refl, ◌∙◌, arith}
use Rattle.image.specs.View.{stretches_in}
use Rattle.search.specs.matches.StepLaws.{along-end, along-before, along-match, along-other, past-sound, past-less}
use Rattle.search.proofs.matches.step_along.Goals as goal
use Rattle.search.proofs.matches.step_along.Goals.{In-loop-link}

-- where the link leads
here : (c : In-loop-link) → c.loop-link.link - 1 < length c.args.view.image.now
here c =
    c.loop-link.invariant.sound.leads.within c.loop-link-test.true

pub returns-then-match_at : goal.returns-then-match_at
returns-then-match_at c =
    let a = c.args in
    let l = c.loop-link in
    let h = c.loop-link-test.true in
    let n = c.requires.nexts in
    let e = sym c.match_at.ensures ∙ c.if-match_at.true in
    record {
      places = l.invariant.same ∙ along-match a.view.image.now (stretches_in a.view.s.now) a.bytes.now a.masks.now a.next.now a.anchor l.link n
          l.invariant.sound h (omega (arith, c.if-anchor-place.true)) e;
      matched = e;
      sound = past-sound a.view.image.now (stretches_in a.view.s.now) a.bytes.now a.masks.now a.next.now a.anchor l.link n l.invariant.sound h;
    }

pub loop-link-smaller-else-match_at : goal.loop-link-smaller-else-match_at
loop-link-smaller-else-match_at c =
    let a = c.args in
    past-less a.view.image.now (stretches_in a.view.s.now) a.bytes.now a.masks.now a.next.now a.anchor c.loop-link.link
    c.requires.nexts c.loop-link.invariant.sound c.loop-link-test.true

pub loop-link-preserved-else-match_at : goal.loop-link-preserved-else-match_at
loop-link-preserved-else-match_at c =
    let a = c.args in
    let l = c.loop-link in
    let h = c.loop-link-test.true in
    let n = c.requires.nexts in
    record {
      sound = past-sound a.view.image.now (stretches_in a.view.s.now) a.bytes.now a.masks.now a.next.now a.anchor l.link n l.invariant.sound h;
      same = l.invariant.same ∙ along-other a.view.image.now (stretches_in a.view.s.now) a.bytes.now a.masks.now a.next.now a.anchor l.link n l.invariant.sound
          h (omega (arith, c.if-anchor-place.true)) (sym c.match_at.ensures ∙ c.if-match_at.false);
    }

pub loop-link-smaller : goal.loop-link-smaller
loop-link-smaller c =
    let a = c.args in
    past-less a.view.image.now (stretches_in a.view.s.now) a.bytes.now a.masks.now a.next.now a.anchor c.loop-link.link
    c.requires.nexts c.loop-link.invariant.sound c.loop-link-test.true

pub loop-link-preserved : goal.loop-link-preserved
loop-link-preserved c =
    let a = c.args in
    let l = c.loop-link in
    let h = c.loop-link-test.true in
    let n = c.requires.nexts in
    record {
      sound = past-sound a.view.image.now (stretches_in a.view.s.now) a.bytes.now a.masks.now a.next.now a.anchor l.link n l.invariant.sound h;
      same = l.invariant.same ∙ along-before a.view.image.now (stretches_in a.view.s.now) a.bytes.now a.masks.now a.next.now a.anchor
          l.link n l.invariant.sound h (omega (arith, c.if-anchor-place.false));
    }

pub returns : goal.returns
returns c =
    let a = c.args in
    let l = c.loop-link in
    l.invariant.same ∙ along-end a.view.image.now (stretches_in a.view.s.now) a.bytes.now a.masks.now a.next.now a.anchor l.link c.requires.nexts l.invariant.sound c.loop-link-test.false
