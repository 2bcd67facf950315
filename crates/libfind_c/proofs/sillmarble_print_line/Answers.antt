-- `sillmarble_print_line` prints the line that a row holds. Assumes nothing.
use mathlib.Core.Path.{ap, ◌∙◌}
use Rattle.listing_rules.specs.declared.Line.{Line}
use Rattle.listing_rules.specs.Print.{printed_line}
use Rattle.printing.specs.PrintedText.{fitted_text}
use Rattle.exported.specs.Exported.{written_in}
use Rattle.libfind_c.proofs.sillmarble_print_line.Goals as goal

pub returns : goal.returns
returns c =
    let a = c.args in
    rw c.size_of.ensures
    (ap written_in (c.print_line.ensures ∙ ap (λ (l : Line). fitted_text (printed_line a.library.now l) a.out.now)
    c.line_at.ensures))
