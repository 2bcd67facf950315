use Prim.Native.Nat.{ℕ, ◌-◌}
use mathlib.Core.Path.{◌≡◌, refl, sym, ap, ◌∙◌}
use mathlib.Core.List.{List}
use native.Mathlib.Omega.{arith}
use lib.ListN.{length}
use Rattle.omf51.specs.Module.{Section}
use Rattle.segments.specs.Collect.{data_of, data_masks}
use Rattle.library.specs.items.Contents.{next_content}
use Rattle.library.specs.items.ContentSizeLaws.{content-goes}
use Rattle.tables.specs.links.Things.{places_of, next_of}
use Rattle.tables.specs.links.ThingLaws.{next_small}
use Rattle.tables.specs.links.FollowLaws.{follows-step}
use Rattle.module_index.specs.gather.Places.{section_in, SectionIs}
use Rattle.segment_parts.specs.merge.MergeLaws.{merged-at-length}
use Rattle.segment_parts.specs.SectionLaws.{section_with, section-met, none-met}
use Rattle.segment_parts.specs.Along.{Merging}
use Rattle.segment_parts.specs.AlongLaws.{merging-starts, merging-on, merging-ends}
use Rattle.segment_parts.specs.Patterns.{merged_one}
use Rattle.segment_parts.proofs.patterns.merge_along.Goals as goal
use Rattle.segment_parts.proofs.patterns.merge_along.Goals.{In_default}
use Rattle.segment_parts.proofs.patterns.merge_along.Invariants.{Goes}

-- no content at a place to which a link leads: that can't be
no-content : (c : In_default) (step : List ℕ → Section → List ℕ) (m₀ m : List ℕ) {B : Type 0} (sections : List Section)
    → Merging (SectionIs c.args.library.now
    (places_of c.args.contents.now))
    (next_of c.args.contents.now) step sections m₀
    c.loop-last.last c.loop-last.here m → B
no-content c step m₀ m sections w =
    let a = c.args in
    let l = c.loop-last in
    none-met a.library.now (sym c.next_content.ensures ∙ c.in_default.is)
    (ap (λ p. section_in a.library.now (next_content a.library.now p)) c.place_at-place.ensures ∙ (follows-step
    (SectionIs a.library.now (places_of a.contents.now)) (next_of a.contents.now) l.last l.here w.left (omega arith) w.follows).stands)

pub loop-last-init : goal.loop-last-init
loop-last-init c =
    let a = c.args in
    let is = SectionIs a.library.now (places_of a.contents.now) in
    record {
      bytes-long = refl;
      masks-long = refl;
      apart-long = refl;
      small = omega (arith, c.ranges);
      bytes-go = λ ss f. merging-starts is (next_of a.contents.now) ss a.bytes.now (merged_one a.start a.size (data_of a.library.now)) f;
      masks-go = λ ss f. merging-starts is (next_of a.contents.now) ss a.masks.now (merged_one a.start a.size (data_masks a.library.now)) f;
    }

pub returns-in_default : goal.returns-in_default
returns-in_default c =
    let i = c.loop-last.invariant in
    let a = c.args in
    record {
      bytes-long = i.bytes-long;
      masks-long = i.masks-long;
      apart-long = i.apart-long;
      bytes-are = λ ss f. no-content (goal.at.returns-in_default c).In_default (merged_one a.start a.size (data_of a.library.now)) a.bytes.now c.loop-last.bytes ss (i.bytes-go ss f);
      masks-are = λ ss f. no-content (goal.at.returns-in_default c).In_default (merged_one a.start a.size (data_masks a.library.now)) a.masks.now c.loop-last.masks ss (i.masks-go ss f);
    }

pub merge_content-requires : goal.merge_content-requires
merge_content-requires c =
    let a = c.args in
    let g = content-goes a.library.now c.place_at-place.result
    (sym c.next_content.ensures ∙ c.in-Some.is) in
    (omega (arith, c.requires, c.loop-last.invariant.apart-long), g.data-small (λ i. omega (arith, c.shared_slice_known-1.given i)))

pub loop-last-smaller : goal.loop-last-smaller
loop-last-smaller c =
    omega (arith, c.loop-last.invariant.small)

pub loop-last-preserved : goal.loop-last-preserved
loop-last-preserved c =
    let same-section : (s : Section) → SectionIs c.args.library.now (places_of c.args.contents.now) (c.loop-last.here - 1) s → section_with
    c.args.library.now c.in-Some.field-0.content c.in-Some.field-0.fixups ≡ s = λ s i. let lib = c.args.library.now in
    section-met lib (sym c.next_content.ensures ∙ c.in-Some.is)
    (ap (λ p. section_in lib (next_content lib p)) c.place_at-place.ensures ∙ i) in
    let goes_on : (of : Section → List ℕ) (m₀ m n : List ℕ) → Goes c.args.library.now c.args.link (next_of c.args.contents.now)
    (places_of c.args.contents.now) (merged_one c.args.start c.args.size of) m₀ c.loop-last.last c.loop-last.here m → n ≡ merged_one c.args.start
    c.args.size of m (section_with c.args.library.now c.in-Some.field-0.content c.in-Some.field-0.fixups) → Goes c.args.library.now c.args.link
    (next_of c.args.contents.now) (places_of c.args.contents.now) (merged_one c.args.start c.args.size of) m₀ c.loop-last.here c.next_at-here.result n = λ of m₀ m n g e. λ sections f.
    let a = c.args in
    let l = c.loop-last in
    rw c.next_at-here.ensures (merging-on (SectionIs a.library.now (places_of a.contents.now)) (next_of a.contents.now) sections m₀
    (merged_one a.start a.size of) l.last l.here m (omega arith) (g sections f) (λ s i. e ∙ ap (merged_one a.start a.size of m) (same-section s i))) in
    let a = c.args in
    let l = c.loop-last in
    let m = c.merge_content in
    record {
      bytes-long = ap length m.ensures.bytes-are ∙ merged-at-length l.bytes a.start a.size _ _ ∙ l.invariant.bytes-long;
      masks-long = ap length m.ensures.masks-are ∙ merged-at-length l.masks a.start a.size _ _ ∙ l.invariant.masks-long;
      apart-long = m.ensures.long ∙ l.invariant.apart-long;
      small = rw c.next_at-here.ensures (omega (arith, next_small a.contents.now (l.here - 1)));
      bytes-go = goes_on (data_of a.library.now) a.bytes.now l.bytes m.new.bytes l.invariant.bytes-go m.ensures.bytes-are;
      masks-go = goes_on (data_masks a.library.now) a.masks.now l.masks m.new.masks l.invariant.masks-go m.ensures.masks-are;
    }

pub returns : goal.returns
returns c =
    let a = c.args in
    let l = c.loop-last in
    let is = SectionIs a.library.now (places_of a.contents.now) in
    record {
      bytes-long = l.invariant.bytes-long;
      masks-long = l.invariant.masks-long;
      apart-long = l.invariant.apart-long;
      bytes-are = λ ss f. merging-ends is (next_of a.contents.now) ss a.bytes.now (merged_one a.start a.size (data_of a.library.now)) l.last
          l.here l.bytes (omega arith) (l.invariant.bytes-go ss f);
      masks-are = λ ss f. merging-ends is (next_of a.contents.now) ss a.masks.now (merged_one a.start a.size (data_masks a.library.now)) l.last
          l.here l.masks (omega arith) (l.invariant.masks-go ss f);
    }
