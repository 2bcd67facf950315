-- The items that a repetition reads from a place on, whatever ends it: for code that goes over a module again.
use Rattle.std.specs.Prelude.{ℕ, zero, suc, List, [], ◌++◌, length}
use Rattle.omf51.specs.Reader.{ReadOutcome, read, stop, refused, Reader}

abbrev pub followed : {A : Type 0} → (ℕ → List A) → ReadOutcome (List A) → List A
followed rest (read more next) = more ++ rest next
followed rest stop = []
followed rest (refused r) = []

unfoldable pub gather : {A : Type 0} → ℕ → Reader (List A) → ℕ → List A
gather zero each at = []
gather (suc n) each at = followed (gather n each) (each at)

-- the count is large enough, as in `many`
abbrev pub items_at : {A : Type 0} → List ℕ → Reader (List A) → ℕ → List A
items_at library each at = gather (suc (length library)) each at
