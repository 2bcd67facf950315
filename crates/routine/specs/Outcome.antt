-- What a walk comes to: its answer, and what it leaves in the lent rows.
use Rattle.std.specs.Prelude.{ℕ, ◌*◌, Bool, List, ◌∷◌, leb, ltb, length, Result, Ok, Err, if◌then◌else◌}
use Rattle.lent.specs.Lists.{one, joined}
use Rattle.lent.specs.Rows.{zeros, padded, has_row, put_row}
use Rattle.image.specs.View.{view}
use Rattle.image.specs.Cover.{too_many_stretches, cover_of, passes_end}
use Rattle.image.specs.declared.cover.Stretches.{Stretches}
use Rattle.routine.specs.declared.Row.{Row}
use Rattle.routine.specs.declared.What.{What}
use Rattle.routine.specs.declared.What.TheVariants.{Neither, Call, Jump}
use Rattle.routine.specs.declared.Why.{Why}
use Rattle.routine.specs.declared.Why.TheVariants.{Return, Limit, Reserved, End, Withheld}
use Rattle.routine.specs.declared.WalkRefusal.{WalkRefusal}
use Rattle.routine.specs.declared.WalkRefusal.TheVariants.{ImageTooLong, TooManyStretches, StretchPastEnd, StartPastEnd, NoRoom}
use Rattle.routine.specs.declared.Walked.{Walked}
use Rattle.routine.specs.Walk.{Steps, walked}

-- the number of each refusal: those of document 01, and 19 of change request W-211
abbrev pub walk_number : WalkRefusal → ℕ
walk_number ImageTooLong = 2
walk_number TooManyStretches = 16
walk_number StretchPastEnd = 4
walk_number StartPastEnd = 19
walk_number NoRoom = 9

-- why a walk stopped, as a number for callers
abbrev pub why_number : Why → ℕ
why_number Return = 0
why_number Limit = 1
why_number Reserved = 2
why_number End = 3
why_number Withheld = 4

-- the numbers of a row: its address; 1 for a call, 2 for a jump, 0 for neither; and the target, or 0
abbrev pub what_number : What → ℕ
what_number Neither = 0
what_number (Call target) = 1
what_number (Jump target) = 2

abbrev pub target_in : What → ℕ
target_in Neither = 0
target_in (Call target) = target
target_in (Jump target) = target

abbrev pub numbers_in : Row → List ℕ
numbers_in r = r.address ∷ what_number r.what ∷ one (target_in r.what)

-- row i of the lent rows, if there is room for it
abbrev pub stored : List ℕ → ℕ → Row → Bool × List ℕ
stored lent i row = (has_row 3 lent i, put_row 3 lent i (numbers_in row))

-- the answer and the lent rows, where room for so many numbers is lent: those of the walk and then zeros; zeros alone if
-- there are too few
abbrev pub laid : Steps → ℕ → Result Walked WalkRefusal × List ℕ
laid w room =
    if ltb room (length w.rows * 3) then (Err NoRoom, zeros room)
    else (Ok (record { steps = length w.rows; why = w.why }), padded room (joined numbers_in w.rows))

-- the refusals in their order: 2, 16, 4 and 19 leave the lent rows as they were; then the walk over the view
abbrev pub seen : List ℕ → Stretches → ℕ → List ℕ → Result Walked WalkRefusal × List ℕ
seen cells w start lent =
    if ltb 65536 (length cells) then (Err ImageTooLong, lent)
    else if too_many_stretches w then (Err TooManyStretches, lent)
    else if passes_end (length cells) (cover_of w) then (Err StretchPastEnd, lent)
    else if leb (length cells) start then (Err StartPastEnd, lent)
    else laid (walked cells start) (length lent)

unfoldable pub outcome : List ℕ → Stretches → ℕ → List ℕ → Result Walked WalkRefusal × List ℕ
outcome image w start lent = seen (view image (cover_of w)) w start lent
