-- Readers: their three outcomes, one reader after another, and repetition.
use Rattle.std.specs.Prelude.{ℕ, zero, suc, List, [], ◌∷◌, ◌++◌, length}
use Rattle.lent.specs.declared.refusal.Refusal.{Refusal}

-- the outcome of a reader: what was read, and the place after it; a stop, before which a repetition ends; or a refusal,
-- which ends the reading of the whole file
pub data ReadOutcome (A : Type 0) : Type 0 where
  read : A → ℕ → ReadOutcome A
  stop : ReadOutcome A
  refused : Refusal → ReadOutcome A

-- a reader starts at a place of the library
abbrev pub Reader : Type 0 → Type 0
Reader A = ℕ → ReadOutcome A

-- the reader f goes on after an outcome if something was read; a stop or a refusal stays
abbrev pub and_then : {A B : Type 0} → ReadOutcome A → (A → Reader B) → ReadOutcome B
and_then (read a next) f = f a next
and_then stop f = stop
and_then (refused r) f = refused r

-- one reader after another; `do` puts `◌>>=◌` between its lines
infixl 20 ◌>>=◌
abbrev pub ◌>>=◌ : {A B : Type 0} → Reader A → (A → Reader B) → Reader B
◌>>=◌ p f = λ at. and_then (p at) f

-- the reader that takes no byte and gives a
abbrev pub give : {A : Type 0} → A → Reader A
give a = λ at. read a at

-- the reader that refuses
abbrev pub refuse : {A : Type 0} → Refusal → Reader A
refuse r = λ at. refused r

-- one turn of a repetition: go on with what was read, or end well at the place `at` before the stop, or refuse
abbrev pub after : {A : Type 0} → (List A → Reader (List A)) → List A → ℕ → ReadOutcome (List A) → ReadOutcome (List A)
after rest found at (read more next) = rest (found ++ more) next
after rest found at stop = read found at
after rest found at (refused r) = refused r

-- a repetition: `each` again and again, at most n times, until it stops
unfoldable pub repeat : {A : Type 0} → ℕ → Reader (List A) → List A → Reader (List A)
repeat zero each found at = read found at
repeat (suc n) each found at = after (repeat n each) found at (each at)

-- a repetition as long as the library allows: the count is large enough, since each turn takes at least one byte
abbrev pub many : {A : Type 0} → List ℕ → Reader (List A) → Reader (List A)
many library each = repeat (suc (length library)) each []

-- the reader that stops on an empty list
abbrev pub not_empty : {A : Type 0} → List A → Reader (List A)
not_empty [] = λ at. stop
not_empty (x ∷ xs) = give (x ∷ xs)

-- a repetition that stops if it read nothing
abbrev pub at_least_one : {A : Type 0} → List ℕ → Reader (List A) → Reader (List A)
at_least_one library each = many library each >>= not_empty
