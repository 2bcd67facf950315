-- `name_place` tests the key, and appends the symbol. Assumes nothing.
use mathlib.Core.Path.{refl, sym, ap, subst, ◌∙◌}
use mathlib.Core.Bool.{◌&&◌}
use Prim.Native.Nat.{◌+◌}
use native.Mathlib.Omega.{arith}
use lib.Dec.{leb, ltb}
use Rattle.tables.specs.fill.FilledRows.{Adds}
use Rattle.tables.specs.fill.AddedRowLaws.{adds_none}
use Rattle.tables.specs.links.ThingLaws.{place-small}
use Rattle.segments.specs.Ids.{id_of}
use Rattle.segments.specs.SegmentLayouts.{symbol_layout}
use Rattle.module_index.specs.gather.Places.{public_at}
use Rattle.segment_parts.specs.declared.carried.Carried.TheVariants.{Inside}
use Rattle.segment_parts.specs.AddedSymbols.{symbol_by}
use Rattle.segment_parts.specs.symbols_by_offset.InsideLaws.{not-inside}
use Rattle.segment_parts.proofs.symbols_by_offset.names.name_place.Goals as goal

pub append_public-requires : goal.append_public-requires
append_public-requires c =
    let a = c.args in rw c.place_at-place.ensures (omega (arith, place-small a.publics.now a.j))

pub returns-then-contains : goal.returns-then-contains
returns-then-contains c =
    let a = c.args in
    record {
      long = c.append_public.ensures.long;
      adds = λ d e s. subst (λ x. Adds symbol_layout (symbol_by (Inside a.window) x) a.m.now a.f
          c.append_public.new.m c.append_public.result)
          (ap (public_at a.library.now (id_of d)) c.place_at-place.ensures ∙ s) (c.append_public.ensures.adds (id_of d));
    }

pub returns : goal.returns
returns c =
    let a = c.args in
    let left = ap (λ v. leb a.window.at v && ltb v (a.window.at + a.window.len)) (sym c.key_at.ensures) ∙ sym c.contains.ensures ∙ c.if-contains.false in
    record { long = refl; adds = λ d e s. rw (not-inside a.window.at a.window.len a.window.own d e left) (adds_none symbol_layout a.m.now a.f) }
