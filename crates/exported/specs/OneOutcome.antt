-- Each exported function has one outcome, the number and what is left in lent memory, by its contract alone. Assumes nothing.
use Rattle.std.specs.Prelude.{ℕ, ◌≡◌, Bool, List}
use Rattle.lent.specs.OneOutcome.{Determines, by-equation}
use Rattle.describe.specs.Described.{Answer as Described, described}
use Rattle.printing.specs.PrintedText.{Printed, fitted_text}
use Rattle.run.specs.declared.Settings.{Settings}
use Rattle.run.specs.Run.{Lent, number_of, Answer}
use Rattle.exported.specs.Exported.{settings_of, counts_in, handed_run, size_of, written_in, length_of, said_in, width_of}

pub find-one : (image library : List ℕ) (s : Settings) (counts : List ℕ) (lent : Lent) → Determines (λ o. o ≡ handed_run image library s counts lent)
find-one image library s counts lent = by-equation (handed_run image library s counts lent)

-- the three that print, each with its text
pub print-one : (text out : List ℕ) → Determines (λ o. o ≡ written_in (fitted_text text out))
print-one text out = by-equation (written_in (fitted_text text out))

pub describe-one : (name out : List ℕ) → Determines (λ o. o ≡ said_in (described name out))
describe-one name out = by-equation (said_in (described name out))

pub row-width-one : (list : ℕ) → Determines (λ (r : ℕ). r ≡ width_of list)
row-width-one list = by-equation (width_of list)

-- and the four functions on plain numbers inside them
pub settings-of-one : (rules edition depth minimum : ℕ) (skips : Bool) (amount : ℕ) (numbers : List ℕ)
    → Determines (λ r. r ≡ settings_of rules edition depth minimum skips amount numbers)
settings-of-one rules edition depth minimum skips amount numbers = by-equation (settings_of rules edition depth minimum skips amount numbers)

-- `hand_over`: the number, and the counts afterwards
abbrev pub HandsOver : Answer → List ℕ → ℕ × List ℕ → Type 0
HandsOver answer counts out = (out.0 ≡ number_of answer) × (out.1 ≡ counts_in counts answer)

pub hand-over-one : (answer : Answer) (counts : List ℕ) → Determines (HandsOver answer counts)
hand-over-one answer counts a b p q = rw (p.0, p.1, q.0, q.1)

pub size-of-one : (printed : Printed) → Determines (λ r. r ≡ size_of printed)
size-of-one printed = by-equation (size_of printed)

pub length-of-one : (d : Described) → Determines (λ r. r ≡ length_of d)
length-of-one d = by-equation (length_of d)
