-- `write_name`, by its tests. Assumes nothing.
use native.Mathlib.Omega.{arith}
use mathlib.Core.Path.{refl, sym, ◌∙◌}
use mathlib.Core.Bool.{false≢true}
use Rattle.listing.proofs.past_end.bucket.write_name.Goals as goal

pub returns-then-k-eq0 : goal.returns-then-k-eq0
returns-then-k-eq0 c =
    record {
      one_less = λ e l. absurd (omega (arith, l, c.if-k-eq0.true));
      written = λ e l. absurd (omega (arith, l, c.if-k-eq0.true));
      none-less = λ e. omega (arith, c.if-k-eq0.true);
      unchanged = λ e. refl;
    }

pub returns-then-is_sought : goal.returns-then-is_sought
returns-then-is_sought c =
    record {
      one_less = λ e l. omega (arith, l);
      written = λ e l. c.put_line.ensures;
      none-less = λ e. absurd (false≢true (sym e ∙ sym c.is_sought.ensures ∙ c.if-is_sought.true));
      unchanged = λ e. absurd (false≢true (sym e ∙ sym c.is_sought.ensures ∙ c.if-is_sought.true));
    }

pub returns : goal.returns
returns c =
    record {
      one_less = λ e l. absurd (false≢true (sym c.if-is_sought.false ∙ c.is_sought.ensures ∙ e));
      written = λ e l. absurd (false≢true (sym c.if-is_sought.false ∙ c.is_sought.ensures ∙ e));
      none-less = λ e. refl;
      unchanged = λ e. refl;
    }
