-- `both_parts` stores one part behind the other. Assumes nothing.
use mathlib.Core.Path.{sym, subst, ◌∙◌}
use native.Mathlib.Omega.{arith}
use Rattle.omf51.proofs.Exits.{handed_on}
use Rattle.segments.specs.Collect.{module_segments}
use Rattle.collect.specs.stored.Stores.{Extends}
use Rattle.collect.specs.stored.ProgressLaws.{lengths-on}
use Rattle.collect.specs.stored.Segments.{lists}
use Rattle.collect.specs.one_module.PartLaws.{both_stored, first-lacks}
use Rattle.collect.proofs.one_module.both.both_parts.Goals as goal

pub returns-in_err-more : goal.returns-in_err-more
returns-in_err-more c =
    let a = c.args in
    let p = c.first_part in
    let l = lists a.segments.now a.references.now a.symbols.now a.bytes.now a.masks.now in
    let middle = lists p.new.segments p.new.references p.new.symbols
    p.new.bytes p.new.masks in
    record {
      blank = p.ensures.blank;
      long = p.ensures.long;
      apart-long = p.ensures.apart-long;
      extends = λ rules m o k. subst (Extends (module_segments rules a.library.now a.c.segments m) l a.c middle) (sym (handed_on c.from_residual.result c.from_residual.ensures.1))
          (first-lacks rules a.library.now m a.c.segments l middle a.c p.result (p.ensures.extends m k) c.in_err-more.was);
    }

pub second_part-requires : goal.second_part-requires
second_part-requires c =
    let p = c.first_part.ensures in
    let r = c.requires in
    (r.0, (omega (arith, r.1.0, p.apart-long), (p.blank, omega (arith, r.1.1.1, c.publics-1.given))))

pub returns : goal.returns
returns c =
    let a = c.args in
    let p = c.first_part in
    let q = c.second_part in
    let l = lists a.segments.now a.references.now a.symbols.now a.bytes.now a.masks.now in
    let middle = lists p.new.segments p.new.references p.new.symbols
    p.new.bytes p.new.masks in
    let after = lists q.new.segments q.new.references q.new.symbols
    q.new.bytes q.new.masks in
    record {
      blank = q.ensures.blank;
      long = lengths-on {a = l} {b = middle} {c = after} p.ensures.long q.ensures.long;
      apart-long = q.ensures.apart-long ∙ p.ensures.apart-long;
      extends = λ rules m o k. both_stored rules a.library.now m a.c.segments l middle after a.c p.result q.result
          (p.ensures.extends m k) c.in_ok-more.was (q.ensures.extends rules m a.first.now o c.head_of.ensures k);
    }
