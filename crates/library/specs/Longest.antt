-- The longest library that a run takes.
use Rattle.std.specs.Prelude.{ℕ, ◌≤◌, List, length}

-- so long at most: what stands in a table by the library's length then fits its numbers
abbrev pub Short : List ℕ → Type 0
Short library = length library ≤ 1048576
