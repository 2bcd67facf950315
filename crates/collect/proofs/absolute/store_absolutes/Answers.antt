use Prim.Native.Nat.{◌-◌}
use mathlib.Core.Path.{◌≡◌, refl, sym, ap, subst, ◌∙◌}
use mathlib.Core.List.{List, ◌++◌}
use native.Mathlib.Omega.{arith}
use Rattle.lent.specs.Lists.{one}
use Rattle.image.specs.declared.fixup.Rules.{Rules}
use Rattle.omf51.specs.Module.{Section, Module}
use Rattle.segments.specs.Collect.{Collected, absolute_id, absolute_segment}
use Rattle.library.specs.items.Left.{fixups_left}
use Rattle.library.specs.items.Contents.{next_content}
use Rattle.library.specs.items.ContentSizeLaws.{content-goes}
use Rattle.tables.specs.links.FollowLaws.{follows-step}
use Rattle.segment_parts.specs.SectionLaws.{section-met, none-met}
use Rattle.omf51.proofs.Exits.{handed_on}
use Rattle.collect.specs.stored.Stores.{CollectLists, Stores, After}
use Rattle.collect.specs.stored.ProgressLaws.{same-lengths, lengths-on}
use Rattle.collect.specs.stored.Segments.{lists, absolute_of, publics_of, own_by}
use Rattle.collect.specs.stored.SegmentLaws.{absolute-by}
use Rattle.collect.specs.absolute.AbsoluteLaws.{flags-clear, flags-many, offered, absolutes-start, absolutes-on, absolutes-lack, absolutes-end}
use Rattle.module_index.specs.gather.Places.{section_in, SectionIs}
use Rattle.tables.specs.links.Things.{places_of, next_of}
use Rattle.tables.specs.links.ThingLaws.{next_small}
use Rattle.collect.specs.absolute.Absolute.{ByOffset, absolute_segments}
use Rattle.collect.proofs.absolute.store_absolutes.Goals as goal
use Rattle.collect.proofs.absolute.store_absolutes.Goals.{After-store_absolute}

-- the lists before a content, and after it
abbrev held : (c : After-store_absolute) → CollectLists
held c =
    let l = c.loop-last in lists l.segments l.references l.symbols l.bytes l.masks

abbrev left : (c : After-store_absolute) → CollectLists
left c =
    let s = c.store_absolute in lists s.new.segments s.new.references s.new.symbols s.new.bytes s.new.masks

stored_here : (c : After-store_absolute) (rules : Rules) (m : Module) (gs : List Collected) → c.args.absolutes.own ≡ own_by rules
    → ByOffset c.args.library.now m c.args.absolutes.link c.args.table.now c.args.contents.now c.args.publics.now c.args.n c.args.heads.now
    → (s : Section) → SectionIs c.args.library.now (places_of c.args.contents.now) (c.loop-last.here - 1) s → Stores gs (held c) c.loop-last.c
    → After (gs ++ one (absolute_segment rules c.args.library.now m c.args.absolutes.number s)) (left c) c.store_absolute.result
stored_here c rules m gs o x s i stores =
    let a = c.args in
    let lib = a.library.now in
    let r = c.store_absolute in
    let same = section-met lib (sym c.next_content.ensures ∙ c.in-Some.is) (ap (λ p. section_in lib (next_content lib p)) c.place_at-place.ensures ∙ i) in
    subst (λ g. After (gs ++ one g) (left c) r.result)
    (ap (λ own. absolute_of lib m.definitions a.absolutes.number own c.in-Some.field-0.content (fixups_left lib c.in-Some.field-0.fixups)
    (publics_of m absolute_id)) o ∙ sym (absolute-by rules lib m a.absolutes.number _) ∙ ap (absolute_segment rules lib m a.absolutes.number) same)
    (r.ensures.extends m.definitions (publics_of m absolute_id) x.tells
    (offered c.loop-last.flags c.loop-last.invariant.flags_long c.requires.1.1 x) gs stores)

pub loop-last-init : goal.loop-last-init
loop-last-init c =
    let a = c.args in
    let lib = a.library.now in
    let l = lists a.segments.now a.references.now a.symbols.now a.bytes.now a.masks.now in
    record {
      long = same-lengths l;
      apart-long = refl;
      flags_long = flags-many c.zeros-flags.ensures;
      clear = flags-clear c.zeros-flags.ensures;
      small = omega (arith, c.ranges);
      storing = λ rules m gs o x s. absolutes-start (SectionIs lib (places_of a.contents.now)) (next_of a.contents.now) rules lib m a.absolutes.number gs
          x.sections s;
    }

pub returns-in_default : goal.returns-in_default
returns-in_default c =
    let a = c.args in
    let lib = a.library.now in
    let l = c.loop-last in
    record {
      long = l.invariant.long;
      apart-long = l.invariant.apart-long;
      extends = λ rules m o x gs s.
          let w = l.invariant.storing rules m gs o x s in
          none-met lib (sym c.next_content.ensures ∙ c.in_default.is)
          (ap (λ p. section_in lib (next_content lib p)) c.place_at-place.ensures ∙ (follows-step
          (SectionIs lib (places_of a.contents.now)) (next_of a.contents.now) l.last l.here w.left (omega arith) w.follows).stands);
    }

pub slice_bounds-store_absolute-end : goal.slice_bounds-store_absolute-end
slice_bounds-store_absolute-end c =
    sym c.loop-last.invariant.flags_long

pub store_absolute-requires : goal.store_absolute-requires
store_absolute-requires c =
    let a = c.args in
    let l = c.loop-last in
    let g = content-goes a.library.now c.place_at-place.result (sym c.next_content.ensures ∙ c.in-Some.is) in (
      c.requires.0,
      (
        omega (arith, l.invariant.apart-long, c.requires.1.0),
        (
          record {
            within = g.data-inside;
            short = g.data-small (λ i. omega (arith, c.shared_slice_known-1.given i));
            low = g.offset-small (λ i. omega (arith, c.shared_slice_known-1.given i));
          },
          l.invariant.clear,
        ),
      ),
    )

pub returns-in_err-c : goal.returns-in_err-c
returns-in_err-c c =
    let a = c.args in
    let lib = a.library.now in
    let l = c.loop-last in
    let s = c.store_absolute in
    record {
      long = lengths-on l.invariant.long s.ensures.long;
      apart-long = s.ensures.apart-long ∙ l.invariant.apart-long;
      extends = λ rules m o x gs stores. subst (After (gs ++ absolute_segments rules lib m a.absolutes.number) (left (goal.at.returns-in_err-c c).After-store_absolute)) (sym (handed_on c.from_residual.result c.from_residual.ensures.1))
          (absolutes-lack (SectionIs lib (places_of a.contents.now)) (next_of a.contents.now) rules lib m a.absolutes.number gs l.last
          l.here (held (goal.at.returns-in_err-c c).After-store_absolute) (left (goal.at.returns-in_err-c c).After-store_absolute) l.c s.result (omega (arith, c.loop-last-test.true)) (l.invariant.storing rules m gs o x stores)
          (λ section i hs t. stored_here (goal.at.returns-in_err-c c).After-store_absolute rules m hs o x section i t) c.in_err-c.was);
    }

pub overflow_sub-here-in-loop-last : goal.overflow_sub-here-in-loop-last
overflow_sub-here-in-loop-last c =
    omega (arith, c.loop-last-test.true)

pub loop-last-smaller : goal.loop-last-smaller
loop-last-smaller c =
    omega (arith, c.loop-last.invariant.small, c.loop-last-test.true)

pub loop-last-preserved : goal.loop-last-preserved
loop-last-preserved c =
    let a = c.args in
    let lib = a.library.now in
    let l = c.loop-last in
    let s = c.store_absolute in
    record {
      long = lengths-on l.invariant.long s.ensures.long;
      apart-long = s.ensures.apart-long ∙ l.invariant.apart-long;
      flags_long = s.ensures.flags_long ∙ l.invariant.flags_long;
      clear = s.ensures.clear;
      small = rw c.next_at-here.ensures (omega (arith, next_small a.contents.now (l.here - 1)));
      storing = λ rules m gs o x stores. rw c.next_at-here.ensures
          (absolutes-on (SectionIs lib (places_of a.contents.now)) (next_of a.contents.now) rules lib m a.absolutes.number gs l.last l.here
          (held (goal.at.loop-last-preserved c).After-store_absolute) (left (goal.at.loop-last-preserved c).After-store_absolute) l.c
          s.result (omega (arith, c.loop-last-test.true)) (l.invariant.storing rules m gs o x stores)
          (λ section i hs t. stored_here (goal.at.loop-last-preserved c).After-store_absolute rules m hs o x section i t) c.in_ok-c.was);
    }

pub returns : goal.returns
returns c =
    let a = c.args in
    let l = c.loop-last in
    record {
      long = l.invariant.long;
      apart-long = l.invariant.apart-long;
      extends = λ rules m o x gs s. absolutes-end (SectionIs a.library.now (places_of a.contents.now)) (next_of a.contents.now) rules a.library.now m a.absolutes.number
          gs l.last l.here (omega arith) (l.invariant.storing rules m gs o x s);
    }
