use Prim.Native.Nat.{ℕ, ◌+◌, ◌*◌, ◌≤◌, ◌<◌}
use mathlib.Core.Path.{◌≡◌, refl, sym, ap, subst, ◌∙◌}
use mathlib.Core.List.{List, [], ◌++◌, append_assoc}
use native.Mathlib.Omega.{arith}
use lib.ListN.{length, length-set}
use Rattle.lent.specs.Lists.{one}
use Rattle.omf51.specs.Module.{Section}
use Rattle.std.specs.Prelude.{Some}
use Rattle.library.specs.items.Contents.{next_content}
use Rattle.library.specs.items.Left.{fixups_left}
use Rattle.library.specs.items.Yields.{sections_after, next-content-yields}
use Rattle.library.specs.items.Fewer.{fewer-sections}
use Rattle.library.specs.items.ContentSizeLaws.{ContentGoes, content-goes}
use Rattle.module_index.specs.gather.Places.{section_in, SectionIs, section_key, no_section}
use Rattle.module_index.specs.gather.Into.{Held}
use Rattle.module_index.specs.gather.GatherLaws.{none-gathered, gather-turn, all_done}
use Rattle.module_index.proofs.gather.sections.gather_sections.Goals as goal
use Rattle.module_index.proofs.gather.sections.gather_sections.Goals.{In-Some}

abbrev Read : List ℕ → ℕ → Section → Type 0
Read library p s = section_in library (next_content library p) ≡ one s

step : (c : In-Some) → next_content c.args.library.now c.loop-content.at ≡ Some c.in-Some.field-0
step c =
    sym c.next_content.ensures ∙ c.in-Some.is

goes : (c : In-Some) → ContentGoes c.args.library.now c.loop-content.at c.in-Some.field-0.content c.in-Some.field-0.rest
goes c =
    content-goes c.args.library.now c.loop-content.at (step c)

early : (c : In-Some) → c.loop-content.at < 1048576
early c =
    omega (arith, ((goes c)).later, ((goes c)).inside, c.requires.short)

below : (c : In-Some) → 7 * c.loop-content.n + 7 ≤ 1048576
below c =
    omega (arith, c.loop-content.invariant.few, ((goes c)).later, ((goes c)).inside, c.requires.short)

room : (c : In-Some) → c.loop-content.n < length c.loop-content.things
room c =
    let i = c.loop-content.invariant in let g = (goes c) in omega (arith, i.few, g.later, g.inside, c.requires.room, i.long)

pub loop-content-init : goal.loop-content-init
loop-content-init c =
    record {
      long = refl;
      done = [];
      whole = refl;
      gathered = none-gathered section_key (Read c.args.library.now) no_section c.args.things.now;
      few = omega arith;
    }

pub thing-requires : goal.thing-requires
thing-requires c =
    (early c)

pub offset_bounds-things-n : goal.offset_bounds-things-n
offset_bounds-things-n c =
    omega (arith, below (goal.at.offset_bounds-things-n c).In-Some)

pub bounds-things-n : goal.bounds-things-n
bounds-things-n c =
    (room (goal.at.bounds-things-n c).In-Some)

pub overflow_add-n : goal.overflow_add-n
overflow_add-n c =
    omega (arith, below (goal.at.overflow_add-n c).In-Some)

pub loop-content-smaller : goal.loop-content-smaller
loop-content-smaller c =
    fewer-sections c.args.library.now c.loop-content.at (step (goal.at.loop-content-smaller c).In-Some)

pub loop-content-preserved : goal.loop-content-preserved
loop-content-preserved c =
    let lib = c.args.library.now in
    let l = c.loop-content in
    let i = l.invariant in
    let s : Section = record { content = c.in-Some.field-0.content; fixups = fixups_left lib c.in-Some.field-0.fixups } in
    record {
      long = length-set l.things l.n _ ∙ i.long;
      done = i.done ++ one s;
      whole = append_assoc i.done (one s) _ ∙ ap (λ xs. i.done ++ xs) (sym (next-content-yields lib l.at ∙ ap (sections_after lib) (step (goal.at.loop-content-preserved c).In-Some))) ∙ i.whole;
      gathered = rw
          c.thing.ensures.0
          (gather-turn section_key (Read lib) no_section i.done l.things l.n s l.at (room (goal.at.loop-content-preserved c).In-Some) c.thing.ensures.1
          (early (goal.at.loop-content-preserved c).In-Some) (ap (section_in lib) (step (goal.at.loop-content-preserved c).In-Some)) i.gathered);
      few = omega (arith, i.few, ((goes (goal.at.loop-content-preserved c).In-Some)).later);
    }

pub returns : goal.returns
returns c =
    let lib = c.args.library.now in
    let l = c.loop-content in
    let none = next-content-yields lib l.at ∙ ap (sections_after lib) (sym c.next_content.ensures ∙ c.in_default.is) in
    record {
      gathered = subst (λ xs. Held section_key (SectionIs lib) no_section xs l.things l.n) (all_done l.invariant.whole none) l.invariant.gathered;
      long = l.invariant.long;
    }
