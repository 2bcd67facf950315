use Prim.Native.Nat.{◌-◌, ◌<◌}
use mathlib.Core.Path.{◌≡◌, refl, sym, ap, subst, ◌∙◌}
use mathlib.Core.Bool.{true}
use mathlib.Core.List.{◌∷◌, ◌++◌}
use native.Mathlib.Omega.{arith}
use lib.ListN.{length}
use Rattle.lent.specs.declared.part.Part.{Part}
use Rattle.lent.specs.Lists.{one}
use Rattle.omf51.specs.Module.{Module}
use Rattle.library.specs.items.Left.{definitions_left}
use Rattle.library.specs.items.Yields.{definitions_after, next-definition-yields, definitions-start}
use Rattle.segments.specs.Ids.{is_kept, kept}
use Rattle.segments.specs.Collect.{kept_segment}
use Rattle.module_index.specs.Indexed.{Indexed}
use Rattle.omf51.proofs.Exits.{handed_on}
use Rattle.collect.specs.stored.Stores.{CollectLists, Extends, After}
use Rattle.collect.specs.stored.StoreLaws.{stored-count}
use Rattle.collect.specs.stored.Progress.{Progress}
use Rattle.collect.specs.stored.ProgressLaws.{progress-starts, progress-ends, same-lengths, lengths-on}
use Rattle.collect.specs.stored.Segments.{lists}
use Rattle.collect.specs.kept.Kept.{kept_from, kept_segments}
use Rattle.collect.specs.kept.KeptLaws.{definition-stored, kept_rest, rest-passed, rest-none, keeps_on, keeps-lack, keeps-start}
use Rattle.collect.proofs.kept.store_keeps.Goals as goal
use Rattle.collect.proofs.kept.store_keeps.Goals.{After-store_kept, In-Some}

yields : (c : In-Some) → definitions_left c.args.library.now c.loop-definition.at ≡ c.in-Some.field-0.definition
    ∷ definitions_left c.args.library.now c.in-Some.field-0.rest
yields c =
    let lib = c.args.library.now in next-definition-yields lib c.loop-definition.at ∙ ap (definitions_after lib)
    (sym c.next_definition.ensures ∙ c.in-Some.is)

-- the lists before a segment, and after it
abbrev held : (c : After-store_kept) → CollectLists
held c =
    let l = c.loop-definition in lists l.segments l.references l.symbols l.bytes l.masks

abbrev left : (c : After-store_kept) → CollectLists
left c =
    let s = c.store_kept in lists s.new.segments s.new.references s.new.symbols s.new.bytes s.new.masks

kept_here : (c : After-store_kept) → is_kept c.in-Some.field-0.definition ≡ true
kept_here c =
    sym c.is_kept.ensures ∙ c.if-is_kept.true

extended : (c : After-store_kept) (m : Module) → Indexed c.args.library.now m c.args.table.now c.args.first.now c.args.contents.now c.args.heads.now c.args.publics.now
    → c.loop-definition.c.segments - c.args.before.segments < length (kept m)
    → Extends (one (kept_segment c.args.library.now m c.args.before.segments (c.loop-definition.c.segments - c.args.before.segments, c.in-Some.field-0.definition))) (held c) c.loop-definition.c (left c) c.store_kept.result
extended c m x h =
    let a = c.args in
    let d = c.in-Some.field-0.definition in
    let from = c.kept_from-kept in
    definition-stored a.library.now m d x (c.loop-definition.c.segments - a.before.segments) h from.ensures.1 a.before.segments
    (from.ensures.0 ∙ ap (λ (p : Part). kept_from d p.len a.table.now a.first.now a.heads.now) c.since-place.ensures) c.store_kept.ensures

pub loop-definition-init : goal.loop-definition-init
loop-definition-init c =
    let a = c.args in
    let lib = a.library.now in
    let l = lists a.segments.now a.references.now a.symbols.now a.bytes.now a.masks.now in
    let n = a.before.segments in
    record {
      long = same-lengths l;
      apart-long = refl;
      progress = λ m gs e x s.
          let z : 0 ≡ n - n = omega arith in
          subst (λ rest. Progress gs (kept_segments lib m n) rest l a.before)
          (keeps-start lib m n (ap (definitions_left lib) c.start-at.ensures ∙ definitions-start lib a.from ∙ sym e) ∙ ap
          (λ j. kept_rest lib m n j (definitions_left lib c.start-at.result)) z) (progress-starts gs (kept_segments lib m n) s);
    }

pub store_kept-requires : goal.store_kept-requires
store_kept-requires c =
    let l = c.loop-definition in
    (c.requires.0, omega (arith, l.invariant.apart-long, c.requires.1))

pub returns-in_err-c : goal.returns-in_err-c
returns-in_err-c c =
    let a = c.args in
    let l = c.loop-definition in
    record {
      long = lengths-on l.invariant.long c.store_kept.ensures.long;
      apart-long = c.store_kept.ensures.apart-long ∙ l.invariant.apart-long;
      extends = λ m e x gs stores.
          subst (After (gs ++ kept_segments a.library.now m a.before.segments) (left (goal.at.returns-in_err-c c).After-store_kept)) (sym (handed_on c.from_residual.result c.from_residual.ensures.1))
          (keeps-lack a.library.now m a.before.segments gs (held (goal.at.returns-in_err-c c).After-store_kept) (left (goal.at.returns-in_err-c c).After-store_kept) l.c
          c.store_kept.result (yields (goal.at.returns-in_err-c c).In-Some) (kept_here (goal.at.returns-in_err-c c).After-store_kept)
          (stored-count stores) (l.invariant.progress m gs e x stores) (extended (goal.at.returns-in_err-c c).After-store_kept m x) c.in_err-c.was);
    }

pub loop-definition-smaller-in_ok-c : goal.loop-definition-smaller-in_ok-c
loop-definition-smaller-in_ok-c c =
    rw (yields (goal.at.loop-definition-smaller-in_ok-c c).In-Some) (omega arith)

pub loop-definition-preserved-in_ok-c : goal.loop-definition-preserved-in_ok-c
loop-definition-preserved-in_ok-c c =
    let a = c.args in
    let l = c.loop-definition in
    record {
      long = lengths-on l.invariant.long c.store_kept.ensures.long;
      apart-long = c.store_kept.ensures.apart-long ∙ l.invariant.apart-long;
      progress = λ m gs e x stores.
          keeps_on a.library.now m a.before.segments gs (held (goal.at.loop-definition-preserved-in_ok-c c).After-store_kept) (left (goal.at.loop-definition-preserved-in_ok-c c).After-store_kept) l.c
          c.store_kept.result (yields (goal.at.loop-definition-preserved-in_ok-c c).In-Some) (kept_here (goal.at.loop-definition-preserved-in_ok-c c).After-store_kept)
          (stored-count stores) (l.invariant.progress m gs e x stores) (extended (goal.at.loop-definition-preserved-in_ok-c c).After-store_kept m x) c.in_ok-c.was;
    }

pub loop-definition-smaller : goal.loop-definition-smaller
loop-definition-smaller c =
    rw (yields (goal.at.loop-definition-smaller c).In-Some) (omega arith)

pub loop-definition-preserved : goal.loop-definition-preserved
loop-definition-preserved c =
    let number = c.args.before.segments in
    let lib = c.args.library.now in
    let l = c.loop-definition in
    let now-lists = lists l.segments l.references l.symbols l.bytes l.masks in
    record {
      long = l.invariant.long;
      apart-long = l.invariant.apart-long;
      progress = λ m gs e x s. subst (λ rest. Progress gs (kept_segments lib m number) rest now-lists l.c)
          (rest-passed lib m number (l.c.segments - number) (yields (goal.at.loop-definition-preserved c).In-Some) (sym c.is_kept.ensures ∙ c.if-is_kept.false)) (l.invariant.progress m gs e x s);
    }

pub returns : goal.returns
returns c =
    let number = c.args.before.segments in
    let lib = c.args.library.now in
    let l = c.loop-definition in
    let none = next-definition-yields lib l.at ∙ ap (definitions_after lib) (sym c.next_definition.ensures ∙ c.in_default.is) in
    record {
      long = l.invariant.long;
      apart-long = l.invariant.apart-long;
      extends = λ m e x gs s. progress-ends gs (kept_segments lib m number) (rest-none lib m number (l.c.segments - number) none) (l.invariant.progress m gs e x s);
    }
