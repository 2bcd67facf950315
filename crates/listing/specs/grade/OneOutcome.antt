-- The grade of a row has one outcome, by its contract alone. Assumes nothing.
use Rattle.std.specs.Prelude.{ℕ, ◌≡◌, List}
use Rattle.lent.specs.OneOutcome.{Determines, by-equation}
use Rattle.image.specs.declared.fixup.Rules.{Rules}
use Rattle.search_rules.specs.declared.Placed.{Placed}
use Rattle.listing.specs.grade.Grades.{row_grade}

pub grade-one : (cells library : List ℕ) (rules : Rules) (segments references : List ℕ) (n : ℕ) (placed positions noted goals : List ℕ) (row : Placed)
    → Determines (λ r. r ≡ row_grade cells library rules segments references n placed positions noted goals row)
grade-one cells library rules segments references n placed positions noted goals row =
    by-equation (row_grade cells library rules segments references n placed positions noted goals row)
