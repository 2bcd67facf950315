-- The answers that the check of references remembers, one a place, and what an answer says to a question.
use Rattle.std.specs.Prelude.{ℕ, ◌+◌, ◌*◌, ◌/◌, ◌%◌, Bool, true, false, leb, List, length, ◌==◌, nat_eq, nat_le, slice_set, if◌then◌else◌, Option, Some, None}
use Rattle.lent.specs.Rows.{flag}

-- an answer as a number: 8 times the segment's number, twice the depth, and 1 where the match holds
abbrev pub answer_of : ℕ → ℕ → Bool → ℕ
answer_of number depth holds = number * 8 + depth * 2 + flag holds

-- what an answer at a depth says to a question at another: what holds there holds at a smaller one, what fails fails at a greater one
abbrev pub settles : Bool → ℕ → ℕ → Option Bool
settles true known depth = if nat_le depth known then Some true else None
settles false known depth = if nat_le known depth then Some false else None

-- what an answer says of the match of a segment to a depth: nothing, if it is of depth 0 or of another segment
abbrev pub recall_of : ℕ → ℕ → ℕ → Option Bool
recall_of answer number depth =
    if answer / 2 % 4 == 0 then None else (if nat_eq (answer / 8) number then settles (answer % 2 == 1) (answer / 2 % 4) depth else None)

-- a table after one more answer, if it is of one of the first 8,192 segments, a depth below 4 and a place within the table
abbrev pub remembered : List ℕ → ℕ → ℕ → ℕ → Bool → List ℕ
remembered told number at depth holds =
    if nat_le 8192 number then told else (if leb 4 depth then told else (if leb (length told) at then told else slice_set told at (answer_of number depth holds)))
