-- What indexing a module's contents or public definitions leaves in the tables.
use Rattle.std.specs.Prelude.{ℕ, ◌<◌, ◌≤◌, ◌≡◌, List, map, length, get_or, take}
use Rattle.tables.specs.links.Things.{keys_of, places_of, next_of}
use Rattle.tables.specs.links.Index.{Linked}
use Rattle.module_index.specs.Indexed.{Meets}

-- these n things stand at their places and are met by their keys; their keys are the linked ones, so that they can be forgotten again; and the memory is as long as before
pub record IndexedInto {A : Type 0} (is : List ℕ → ℕ → A → Type 0) (key : A → ℕ) (xs : List A) (things₀ first₀ things first : List ℕ) (n : ℕ) : Type 0 where
  pub number : n ≡ length xs
  pub keyed : take n (keys_of things) ≡ map key xs
  pub stand : (j : ℕ) → j < n → (none : A) → is (places_of things) j (get_or xs j none)
  pub meets : Meets (is (places_of things)) key xs first (next_of things)
  pub linked : Linked (take n (keys_of things)) 0 first (next_of things)
  pub within : n ≤ length things
  pub things-long : length things ≡ length things₀
  pub first-long : length first ≡ length first₀
