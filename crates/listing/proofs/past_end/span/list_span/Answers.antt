use native.Mathlib.Omega.{arith}
use mathlib.Core.Path.{◌≡◌, refl, subst, ◌∙◌}
use Rattle.listing_rules.proofs.FrontLineLaws.{leads-first}
use Rattle.listing.specs.past_end.Beyond.{spanned}
use Rattle.listing.specs.past_end.TargetLaws.{Spans, spans_on, spans_all}
use Rattle.listing.proofs.past_end.span.list_span.Goals as goal

pub loop-t-init : goal.loop-t-init
loop-t-init c =
    let a = c.args in record { within = omega arith; long = refl; spans = λ ns h. leads-first (spanned a.skip ns a.first a.last) a.lines.now a.before }

pub loop-t-preserved : goal.loop-t-preserved
loop-t-preserved c =
    let a = c.args in
    let l = c.loop-t in
    record {
      within = omega (arith, l.invariant.within, c.loop-t-test.true);
      long = c.list_target-f.auto.lines ∙ l.invariant.long;
      spans =
          spans_on a.noted.now a.goals.now a.first a.last a.skip a.lines.now a.before l.lines l.f l.t l.invariant.spans
          c.list_target-f.new.lines c.list_target-f.result c.list_target-f.ensures c.loop-t-test.true;
    }

pub returns : goal.returns
returns c =
    let a = c.args in
    let l = c.loop-t in
    let last : l.t ≡ c.max.result = omega (arith, l.invariant.within, c.max.ensures, c.loop-t.auto.t, c.loop-t-test.false) in
    spans_all a.noted.now a.goals.now a.first a.last a.skip a.lines.now a.before l.lines l.f c.max.result
    (subst (Spans a.noted.now a.goals.now a.first a.last a.skip a.lines.now a.before l.lines l.f) last l.invariant.spans)
    c.list_target.new.lines c.list_target.result c.list_target.ensures (omega (arith, c.max.ensures))
