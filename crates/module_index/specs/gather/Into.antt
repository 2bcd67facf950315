-- Gathering into lent memory: the room that it takes, and what it leaves.
use Rattle.std.specs.Prelude.{ℕ, ◌*◌, ◌≤◌, ◌≡◌, List, length}
use Rattle.tables.specs.links.Things.{keys_of, places_of}
use Rattle.module_index.specs.gather.Places.{Gathered}

-- room for everything that takes at least `size` bytes of the library each; its places fit their bits
pub record Roomy (size : ℕ) (library things : List ℕ) : Type 0 where
  pub room : length library ≤ size * length things
  pub short : length library ≤ 1048576

-- the first n things of a table are these
abbrev pub Held : {A : Type 0} → (A → ℕ) → (List ℕ → ℕ → A → Type 0) → A → List A → List ℕ → ℕ → Type 0
Held key is none xs things n = Gathered key (is (places_of things)) none xs (keys_of things) n

-- these things are gathered, and the memory is as long as before
pub record GatheredInto {A : Type 0} (key : A → ℕ) (is : List ℕ → ℕ → A → Type 0) (none : A) (xs : List A) (things₀ things : List ℕ) (n : ℕ) : Type 0 where
  pub gathered : Held key is none xs things n
  pub long : length things ≡ length things₀
