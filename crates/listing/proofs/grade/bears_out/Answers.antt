-- `bears_out`, case by case. Assumes nothing.
use mathlib.Core.Path.{sym, ap, ◌∙◌}
use Rattle.listing.specs.grade.Grades.{is_found, asks_of}
use Rattle.listing.proofs.grade.bears_out.Goals as goal

pub returns-in_default : goal.returns-in_default
returns-in_default c =
    rw (sym c.target_of.ensures ∙ c.in-At.is, c.in_default.is)

pub returns-in-PastEnd : goal.returns-in-PastEnd
returns-in-PastEnd c =
    ap (asks_of (is_found c.args.found.now.library.now 8 c.args.found.now.placed.now c.args.found.now.positions.now) c.args.r.goal)
    (sym (sym c.target_of.ensures ∙ c.in-PastEnd.is))

pub returns-in-Withheld : goal.returns-in-Withheld
returns-in-Withheld c =
    ap (asks_of (is_found c.args.found.now.library.now 8 c.args.found.now.placed.now c.args.found.now.positions.now) c.args.r.goal)
    (sym (sym c.target_of.ensures ∙ c.in-Withheld.is))

pub returns-in-Name : goal.returns-in-Name
returns-in-Name c =
    c.is_found.ensures ∙ sym (rw (
      sym c.target_of.ensures ∙
          c.in-At.is,
      c.in-Name.is,
    ))
