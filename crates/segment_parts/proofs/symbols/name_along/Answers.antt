use Prim.Native.Nat.{◌-◌}
use mathlib.Core.Path.{refl, ap, subst, ◌∙◌}
use native.Mathlib.Omega.{arith}
use Rattle.tables.specs.fill.FilledRows.{Adds}
use Rattle.segments.specs.Ids.{id_of}
use Rattle.segments.specs.SegmentLayouts.{symbol_layout}
use Rattle.tables.specs.links.Things.{places_of, next_of}
use Rattle.tables.specs.links.ThingLaws.{place-small, next_small}
use Rattle.module_index.specs.gather.Places.{public_at, PublicIs}
use Rattle.segment_parts.specs.AlongLaws.{adding-starts, adding-on, adding-ends}
use Rattle.segment_parts.specs.AddedSymbols.{symbol_by}
use Rattle.segment_parts.proofs.symbols.name_along.Goals as goal

pub loop-last-init : goal.loop-last-init
loop-last-init c =
    let a = c.args in
    record {
      long = refl;
      small = omega (arith, c.ranges);
      adding = λ publics f. adding-starts (PublicIs a.library.now (places_of a.publics.now)) (next_of a.publics.now) publics a.m.now symbol_layout (symbol_by a.c) a.before f;
    }

pub append_public-f-requires : goal.append_public-f-requires
append_public-f-requires c =
    rw c.place_at-place.ensures
    (omega (arith, place-small c.args.publics.now (c.loop-last.here - 1)))

pub loop-last-smaller : goal.loop-last-smaller
loop-last-smaller c =
    omega (arith, c.loop-last.invariant.small)

pub loop-last-preserved : goal.loop-last-preserved
loop-last-preserved c =
    let a = c.args in
    let l = c.loop-last in
    let is = PublicIs a.library.now (places_of a.publics.now) in
    let new = c.append_public-f.new.m in
    record {
      long = c.append_public-f.ensures.long ∙ l.invariant.long;
      small = rw c.next_at-here.ensures (omega (arith, next_small a.publics.now (l.here - 1)));
      adding = λ publics f. rw c.next_at-here.ensures
          (adding-on is (next_of a.publics.now) publics a.m.now symbol_layout (symbol_by a.c) a.before l.last l.here l.m new l.f
          c.append_public-f.result (omega arith) (l.invariant.adding publics f)
          (λ d s. subst (λ x. Adds symbol_layout (symbol_by a.c x) l.m l.f new c.append_public-f.result)
          (ap (public_at a.library.now (id_of d)) c.place_at-place.ensures ∙ s) (c.append_public-f.ensures.adds (id_of d))));
    }

pub returns : goal.returns
returns c =
    let a = c.args in
    let l = c.loop-last in
    record {
      long = l.invariant.long;
      adds = λ publics f. adding-ends (PublicIs a.library.now (places_of a.publics.now)) (next_of a.publics.now) publics a.m.now symbol_layout (symbol_by a.c)
          a.before l.last l.here l.m l.f (omega arith) (l.invariant.adding publics f);
    }
