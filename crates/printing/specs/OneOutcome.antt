-- Each of the three print functions has one outcome, the answer and the buffer afterwards,
-- by its contract alone; so has each length by which they measure. Assumes nothing.
use Rattle.std.specs.Prelude.{ℕ, ◌+◌, ◌-◌, ◌/◌, ◌≡◌, List, length}
use Rattle.lent.specs.OneOutcome.{Determines, by-equation}
use Rattle.describe.specs.Described.{Put}
use Rattle.listing_rules.specs.declared.Line.{Line}
use Rattle.listing_rules.specs.Print.{heading, more_digits, printed_line, printed}
use Rattle.printing.specs.PrintedText.{fitted_text, stored_lines}

pub print-heading-one : (out : List ℕ) → Determines (λ o. o ≡ fitted_text heading out)
print-heading-one out = by-equation (fitted_text heading out)

pub print-line-one : (library : List ℕ) (line : Line) (out : List ℕ) → Determines (λ o. o ≡ fitted_text (printed_line library line) out)
print-line-one library line out = by-equation (fitted_text (printed_line library line) out)

pub print-one : (library lines : List ℕ) (n : ℕ) (out : List ℕ) → Determines (λ o. o ≡ fitted_text (printed library (stored_lines lines n)) out)
print-one library lines n out = by-equation (fitted_text (printed library (stored_lines lines n)) out)

-- `blanks`, `digits` and `line` of the lengths
pub blanks-one : (width len : ℕ) → Determines (λ r. r ≡ width - len)
blanks-one width len = by-equation (width - len)

pub digits-one : (address : ℕ) → Determines (λ r. r ≡ 4 + more_digits 12 (address / 65536))
digits-one address = by-equation (4 + more_digits 12 (address / 65536))

pub line-one : (library : List ℕ) (l : Line) → Determines (λ r. r ≡ length (printed_line library l))
line-one library l = by-equation (length (printed_line library l))

-- `put` and `put_line`: memory afterwards, and where the text ends
pub put_one : (before : List ℕ) (at : ℕ) (t : List ℕ) → Determines (λ (o : List ℕ × ℕ). Put before at t o.0 o.1)
put_one before at t a b p q = rw (p.stored, p.ends, q.stored, q.ends)
