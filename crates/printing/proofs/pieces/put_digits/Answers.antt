use Prim.Native.Nat.{◌+◌, ◌-◌, ◌/◌}
use mathlib.Core.Path.{refl, sym, ap, ◌∙◌}
use native.Mathlib.Omega.{arith}
use lib.ListN.{length-set, set}
use lib.Seq.{sets}
use Rattle.listing_rules.specs.Print.{digits}
use Rattle.printing.specs.StoreLaws.{digits-length, digits_more, digits-all}
use Rattle.printing.proofs.pieces.put_digits.Goals as goal

pub loop-j-init : goal.loop-j-init
loop-j-init c =
    let a = c.args in record { within = omega arith; long = refl; same = refl }

pub loop-j-preserved : goal.loop-j-preserved
loop-j-preserved c =
    let a = c.args in
    let l = c.loop-j in
    record {
      within = omega arith;
      long = simp length-set l.invariant.long;
      same = ap (λ d. sets (set l.out (a.at + (l.j - 1)) d) a.at (digits (l.j - 1) (l.rest / 16))) c.digit.ensures ∙ digits_more
          a.at l.j l.rest l.out c.loop-j-test.true ∙ l.invariant.same;
    }

pub returns : goal.returns
returns c =
    let a = c.args in
    let l = c.loop-j in
    record { ends = ap (λ k. a.at + k) (sym (digits-length a.n a.number)); stored = digits-all a.at l.j l.rest l.out (omega arith) ∙ l.invariant.same }
