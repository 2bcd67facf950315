use Prim.Native.Nat.{◌-◌}
use mathlib.Core.Path.{refl, sym, ap, subst, ◌∙◌}
use native.Mathlib.Omega.{arith}
use Rattle.tables.specs.fill.FilledRows.{Adds}
use Rattle.segments.specs.SegmentLayouts.{reference_layout}
use Rattle.library.specs.items.Contents.{next_content}
use Rattle.library.specs.items.ContentSizeLaws.{content-goes}
use Rattle.tables.specs.links.Things.{places_of, next_of}
use Rattle.tables.specs.links.ThingLaws.{next_small}
use Rattle.tables.specs.links.FollowLaws.{follows-step}
use Rattle.module_index.specs.gather.Places.{section_in, SectionIs}
use Rattle.segment_parts.specs.SectionLaws.{section-met, none-met}
use Rattle.segment_parts.specs.AlongLaws.{adding-starts, adding-on, adding-ends}
use Rattle.segment_parts.specs.AddedReferences.{section_leaves}
use Rattle.segment_parts.proofs.references.refer_along.Goals as goal

pub loop-last-init : goal.loop-last-init
loop-last-init c =
    let a = c.args in
    record {
      long = refl;
      small = omega (arith, c.ranges);
      adding = λ ds ss t f. adding-starts (SectionIs a.library.now (places_of a.contents.now)) (next_of a.contents.now) ss a.m.now
          reference_layout (section_leaves ds a.number) a.before f;
    }

pub returns-in_default : goal.returns-in_default
returns-in_default c =
    let a = c.args in
    let l = c.loop-last in
    record {
      long = l.invariant.long;
      adds = λ ds ss t f.
          let w = l.invariant.adding ds ss t f in
          none-met a.library.now (sym c.next_content.ensures ∙ c.in_default.is)
          (ap (λ p. section_in a.library.now (next_content a.library.now p)) c.place_at-place.ensures ∙ (follows-step
          (SectionIs a.library.now (places_of a.contents.now)) (next_of a.contents.now) l.last l.here w.left (omega arith) w.follows).stands);
    }

pub refer-f-requires : goal.refer-f-requires
refer-f-requires c =
    let a = c.args in
    let g = content-goes a.library.now c.place_at-place.result (sym c.next_content.ensures ∙ c.in-Some.is) in
    record { numbers = c.requires.numbers; places = omega (arith, g.offset-small (λ i. omega (arith, c.shared_slice_known-1.given i))) }

pub loop-last-smaller : goal.loop-last-smaller
loop-last-smaller c =
    omega (arith, c.loop-last.invariant.small)

pub loop-last-preserved : goal.loop-last-preserved
loop-last-preserved c =
    let a = c.args in
    let l = c.loop-last in
    let is = SectionIs a.library.now (places_of a.contents.now) in
    let r = c.refer-f in
    let new = r.new.m in
    record {
      long = r.ensures.long ∙ l.invariant.long;
      small = rw c.next_at-here.ensures (omega (arith, next_small a.contents.now (l.here - 1)));
      adding = λ ds ss t f. rw c.next_at-here.ensures
          (adding-on is (next_of a.contents.now) ss a.m.now reference_layout (section_leaves ds a.number) a.before l.last l.here l.m new
          l.f r.result (omega arith) (l.invariant.adding ds ss t f)
          (λ s i. subst (λ x. Adds reference_layout (section_leaves ds a.number x) l.m l.f new r.result)
          (section-met a.library.now (sym c.next_content.ensures ∙
          c.in-Some.is)
          (ap (λ p. section_in a.library.now (next_content a.library.now p)) c.place_at-place.ensures ∙ i)) (r.ensures.adds ds t)));
    }

pub returns : goal.returns
returns c =
    let a = c.args in
    let l = c.loop-last in
    record {
      long = l.invariant.long;
      adds = λ ds ss t f. adding-ends (SectionIs a.library.now (places_of a.contents.now)) (next_of a.contents.now) ss a.m.now reference_layout
          (section_leaves ds a.number) a.before l.last l.here l.m l.f (omega arith) (l.invariant.adding ds ss t f);
    }
