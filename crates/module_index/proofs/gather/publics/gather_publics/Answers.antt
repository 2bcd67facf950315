use Prim.Native.Nat.{ℕ, ◌+◌, ◌-◌, ◌*◌, ◌≤◌, ◌<◌}
use mathlib.Core.Path.{◌≡◌, refl, sym, ap, subst, ◌∙◌}
use mathlib.Core.Bool.{false}
use mathlib.Core.List.{List, [], ◌++◌, append_assoc}
use native.Mathlib.Omega.{arith}
use lib.ListN.{length, length-set}
use Rattle.omf51.specs.declared.ModuleId.{ModuleId}
use Rattle.lent.specs.declared.part.Part.{Part}
use Rattle.lent.specs.Lists.{one}
use Rattle.omf51.specs.declared.Definition.{Definition}
use Rattle.omf51.specs.declared.Definition.TheVariants.{Segment, Public, External}
use Rattle.std.specs.Prelude.{Some}
use Rattle.library.specs.items.Items.{next_definition}
use Rattle.library.specs.items.Yields.{definitions_after, next-definition-yields, definitions-start}
use Rattle.library.specs.items.Fewer.{fewer-definitions}
use Rattle.library.specs.items.ContentSizeLaws.{word_small}
use Rattle.library.specs.items.ForwardLaws.{Sized, definition-sized}
use Rattle.library.specs.items.EntrySizeLaws.{PublicAgain, public-again}
use Rattle.library.specs.items.PublicSizeLaws.{public-sized}
use Rattle.segments.specs.Ids.{id_of}
use Rattle.module_index.specs.gather.Places.{public_at, no_definition, is_public_definition}
use Rattle.module_index.specs.gather.GatherLaws.{none-gathered, gather-turn, all_done}
use Rattle.module_index.specs.gather.PublicLaws.{not-public-passed, keyed-gathered, apart-passed, none_kept, read_again}
use Rattle.module_index.specs.gather.Publics.{key_by, publics_by}
use Rattle.module_index.proofs.gather.publics.gather_publics.Goals as goal
use Rattle.module_index.proofs.gather.publics.gather_publics.Goals.{In-Some, In-Public}
use Rattle.module_index.proofs.gather.publics.gather_publics.Invariants.{Inv, Some-held}

abbrev Read : List ℕ → ℕ → Definition → Type 0
Read library p d = public_at library (id_of d) p ≡ d

not-public : (d : Definition) → ((id : ModuleId) (offset : ℕ) (name : Part) → d ≡ Public id offset name → ⊥) → is_public_definition d ≡ false
not-public (Segment id info relocation size name) never = refl
not-public (Public id offset name) never = absurd (never id offset name refl)
not-public (External id info name) never = refl

abbrev this : (c : In-Public) → Definition
this c =
    Public c.in-Public.id c.in-Public.offset c.in-Public.name

step : (c : In-Some) → next_definition c.args.library.now c.loop-definition.c ≡ Some c.in-Some.field-0
step c =
    sym c.next_definition.ensures ∙ c.in-Some.is

goes : (c : In-Some) → Sized c.args.library.now 5 c.loop-definition.c c.in-Some.field-0.rest
goes c =
    definition-sized c.args.library.now c.loop-definition.c c.loop-definition.invariant.ordered (step c)

-- the invariant behind one more definition, once it is said what is held then
goes-on : (c : In-Some) (n : ℕ) (things : List ℕ) (d : Definition) → d ≡ c.in-Some.field-0.definition → length things ≡ length c.args.things.now → 6 * n ≤ c.in-Some.field-0.rest.at
    → Some-held c.args.by c.args.library.now (c.loop-definition.invariant.done ++ one d) things n
    → Inv c.args.library.now c.args.from c.args.by c.args.things.now things c.in-Some.field-0.rest n
goes-on c n things d e k few held =
    let lib = c.args.library.now in
    let l = c.loop-definition in
    let same : next_definition lib l.c ≡ Some (record { definition = d; rest = c.in-Some.field-0.rest }) = step c ∙ ap (λ x. Some (record { definition = x; rest = c.in-Some.field-0.rest })) (sym e) in
    record {
      long = k;
      done = l.invariant.done ++ one d;
      whole = append_assoc l.invariant.done (one d) _ ∙ ap (λ xs. l.invariant.done ++ xs) (sym (next-definition-yields lib l.c ∙ ap (definitions_after lib) same)) ∙ l.invariant.whole;
      gathered = held;
      few = few;
      ordered = (goes c).forward.ordered;
    }

again : (c : In-Public) → PublicAgain c.args.library.now c.in-Public.offset c.in-Public.name
again c =
    public-again c.args.library.now c.loop-definition.c (sym c.next_definition.ensures ∙ c.in-Some.is) c.in-Public.is

sized : (c : In-Public) → Sized c.args.library.now 6 c.loop-definition.c c.in-Some.field-0.rest
sized c =
    public-sized c.args.library.now c.loop-definition.c c.loop-definition.invariant.ordered (sym c.next_definition.ensures ∙ c.in-Some.is) c.in-Public.is

early : (c : In-Public) → c.in-Public.name.at - 4 < 1048576
early c =
    omega (arith, (again c).front, (again c).inside, c.requires.short)

below : (c : In-Public) → 6 * c.loop-definition.n + 6 ≤ 1048576
below c =
    omega (arith, c.loop-definition.invariant.few, (sized c).size-later, (sized c).forward.inside, c.requires.short)

room : (c : In-Public) → c.loop-definition.n < length c.loop-definition.things
room c =
    let i = c.loop-definition.invariant in
    let g = sized c in
    omega (arith, i.few, g.size-later, g.forward.inside, c.requires.room, i.long)

pub loop-definition-init : goal.loop-definition-init
loop-definition-init c =
    let a = c.args in
    rw
    c.start-c.ensures
    (record {
      long = refl;
      done = [];
      whole = definitions-start a.library.now a.from;
      gathered = rw (none_kept a.by) (none-gathered (key_by a.by) (Read a.library.now) no_definition a.things.now);
      few = omega arith;
      ordered = record { before = omega arith; body-before = omega arith };
    })

pub key-requires : goal.key-requires
key-requires c =
    omega (
      arith,
      (again c).offset-is,
      word_small c.args.library.now
          (λ i. omega (arith, c.shared_slice_known-1.given i)) (c.in-Public.name.at - 4),
    )

pub overflow_sub-name : goal.overflow_sub-name
overflow_sub-name c =
    omega (arith, (again (goal.at.overflow_sub-name c).In-Public).front)

pub thing-requires : goal.thing-requires
thing-requires c =
    early (goal.at.thing-requires c).In-Public

pub offset_bounds-things-n : goal.offset_bounds-things-n
offset_bounds-things-n c =
    omega (arith, below (goal.at.offset_bounds-things-n c).In-Public)

pub bounds-things-n : goal.bounds-things-n
bounds-things-n c =
    room (goal.at.bounds-things-n c).In-Public

pub overflow_add-n : goal.overflow_add-n
overflow_add-n c =
    omega (arith, below (goal.at.overflow_add-n c).In-Public)

pub loop-definition-smaller-in-Some-key : goal.loop-definition-smaller-in-Some-key
loop-definition-smaller-in-Some-key c =
    fewer-definitions c.args.library.now c.loop-definition.c (step (goal.at.loop-definition-smaller-in-Some-key c).In-Some)

pub loop-definition-preserved-in-Some-key : goal.loop-definition-preserved-in-Some-key
loop-definition-preserved-in-Some-key c =
    let some = (goal.at.loop-definition-preserved-in-Some-key c).In-Some in
    let public = (goal.at.loop-definition-preserved-in-Some-key c).In-Public in
    let a = c.args in
    let lib = a.library.now in
    let l = c.loop-definition in
    let name = c.in-Public.name in
    let k = keyed-gathered a.by l.invariant.done _ _ name (sym c.key.ensures ∙ c.in-Some-key.is) in
    goes-on some (l.n + 1) _ (this public) (sym c.in-Public.is) (length-set l.things l.n _ ∙ l.invariant.long)
    (omega (arith, l.invariant.few, (sized public).size-later))
    (rw (c.thing.ensures.0, k.0, ← k.1)
    (gather-turn (key_by a.by) (Read lib) no_definition (publics_by a.by l.invariant.done) l.things l.n (this public) (name.at - 4)
    (room public) (rw k.1 c.thing.ensures.1)
    (early public) (read_again lib _ _ name (again public)) l.invariant.gathered))

pub loop-definition-smaller-in_default-key : goal.loop-definition-smaller-in_default-key
loop-definition-smaller-in_default-key c =
    fewer-definitions c.args.library.now c.loop-definition.c (step (goal.at.loop-definition-smaller-in_default-key c).In-Some)

pub loop-definition-preserved-in_default-key : goal.loop-definition-preserved-in_default-key
loop-definition-preserved-in_default-key c =
    let some = (goal.at.loop-definition-preserved-in_default-key c).In-Some in
    let public = (goal.at.loop-definition-preserved-in_default-key c).In-Public in
    let l = c.loop-definition in
    goes-on some l.n l.things (this public) (sym c.in-Public.is) l.invariant.long (omega (arith, l.invariant.few, (sized public).size-later))
    (rw (apart-passed c.args.by l.invariant.done _ _ _ (sym c.key.ensures ∙ c.in_default-key.is)) l.invariant.gathered)

pub loop-definition-smaller : goal.loop-definition-smaller
loop-definition-smaller c =
    fewer-definitions c.args.library.now c.loop-definition.c (step (goal.at.loop-definition-smaller c).In-Some)

pub loop-definition-preserved : goal.loop-definition-preserved
loop-definition-preserved c =
    let some = (goal.at.loop-definition-preserved c).In-Some in
    let l = c.loop-definition in
    let d = c.in-Some.field-0.definition in
    goes-on some l.n l.things d refl l.invariant.long (omega (arith, l.invariant.few, (goes some).size-later))
    (rw (not-public-passed l.invariant.done d c.args.by (not-public d c.in_default-definition.not-Public)) l.invariant.gathered)

pub returns : goal.returns
returns c =
    let lib = c.args.library.now in
    let l = c.loop-definition in
    let none = next-definition-yields lib l.c ∙ ap (definitions_after lib) (sym c.next_definition.ensures ∙ c.in_default.is) in
    record {
      gathered = subst (λ ds. Some-held c.args.by lib ds l.things l.n) (all_done l.invariant.whole none) l.invariant.gathered;
      long = l.invariant.long;
    }
