-- `take_in`, case by case. Assumes nothing.
use Prim.Native.Nat.{◌+◌}
use mathlib.Core.Path.{subst, sym}
use mathlib.Core.List.{◌∷◌}
use native.Mathlib.Omega.{arith}
use Rattle.listing.specs.position.Bests.{Bests}
use Rattle.listing.specs.position.BestLaws.{takes-lower, takes-higher, takes-equal}
use Rattle.listing.proofs.position.best_lines.take_in.Goals as goal

pub returns-then-line-b : goal.returns-then-line-b
returns-then-line-b c =
    record { few = omega arith; met = λ lines all e h. takes-lower lines all c.args.m.now c.args.b c.args.line h c.if-line-b.true }

pub returns-then-b-line : goal.returns-then-b-line
returns-then-b-line c =
    record {
      few = omega arith;
      met = λ lines all e h.
          subst (λ m. Bests lines (c.args.line ∷ all) m (record { count = 1; grade = c.args.line.grade })) (sym c.put_line.ensures)
          (takes-higher lines all c.args.m.now c.args.b c.args.line h c.if-b-line.true c.args.from e);
    }

pub overflow_add-from : goal.overflow_add-from
overflow_add-from c =
    omega (arith, c.requires)

pub overflow_add-result : goal.overflow_add-result
overflow_add-result c =
    omega (arith, c.requires)

pub returns : goal.returns
returns c =
    let a = c.args in
    record {
      few = omega arith;
      met = λ lines all e h.
          subst (λ m. Bests lines (a.line ∷ all) m (record { count = a.b.count + 1; grade = a.b.grade })) (sym c.put_line-2.ensures)
          (takes-equal lines all a.m.now a.b a.line h
          (λ l. omega (arith, l, c.if-line-b.false))
          (λ l. omega (arith, l, c.if-b-line.false)) a.from e);
    }
