-- The newest thing that passes a test, among things that came one after another, as a link: one more than its number, or 0.
use Rattle.std.specs.Prelude.{ℕ, ◌+◌, Bool, List, [], ◌∷◌, if◌then◌else◌}

-- the newest among n earlier things and these, where `newest` is the link to the newest among the n earlier things
unfoldable pub newest_from : {A : Type 0} → (A → Bool) → ℕ → ℕ → List A → ℕ
newest_from p n newest [] = newest
newest_from p n newest (x ∷ rest) = newest_from p (n + 1) (if p x then n + 1 else newest) rest

-- the newest of all things in the list
abbrev pub newest : {A : Type 0} → (A → Bool) → List A → ℕ
newest p xs = newest_from p 0 0 xs
