-- A thing under a test, and the first thing in a list of things that may be missing. The choice itself is the library's.
use Rattle.std.specs.Prelude.{Bool, true, false, List, [], ◌∷◌}
use Rattle.std.proofs.Math.Option.{Option, none, some}

-- a thing if the test passes, else nothing
abbrev pub when : {A : Type 0} → Bool → A → Option A
when true a = some a
when false a = none

-- the first thing if there is one, else the second
abbrev pub or_else : {A : Type 0} → Option A → Option A → Option A
or_else none b = b
or_else (some a) b = some a

-- the first element of the list that is not missing
unfoldable pub leading : {A : Type 0} → List (Option A) → Option A
leading [] = none
leading (a ∷ rest) = or_else a (leading rest)
