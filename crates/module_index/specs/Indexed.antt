-- The tables of a module: by them the contents and public definitions of an id are met without looking at those of other ids.
use Rattle.std.specs.Prelude.{ℕ, ◌<◌, ◌≤◌, ◌≡◌, List, eqb, length, get_or}
use Rattle.lent.specs.Lists.{keep}
use Rattle.omf51.specs.Module.{Module}
use Rattle.tables.specs.links.Things.{places_of, next_of}
use Rattle.tables.specs.links.Follow.{Follows}
use Rattle.module_index.specs.gather.Places.{SectionIs, section_key, PublicIs, public_key, is_public_definition}
use Rattle.module_index.specs.gather.Into.{Roomy}
use Rattle.module_ids.specs.Noted.{Tells}

-- tables in which nothing stands: room for all that a library can hold, `size` bytes being the least that one takes, and heads of 0
pub record Blank (size : ℕ) (library things first : List ℕ) : Type 0 where
  pub roomy : Roomy size library things
  pub few : length things < 268435456
  pub heads : 65536 ≤ length first
  pub clear : (key : ℕ) → key < 65536 → get_or first key 0 ≡ 0

-- following the links from the head of a key meets exactly the things of that key, in order
abbrev pub Meets : {A : Type 0} → (ℕ → A → Type 0) → (A → ℕ) → List A → List ℕ → List ℕ → Type 0
Meets is key xs first next = (k : ℕ) → k < 65536 → Follows is next 0 (get_or first k 0) (keep (λ x. eqb (key x) k) xs)

-- all tables of a module: what its ids lead to, its contents with their heads, and its public definitions with theirs
pub record Indexed (library : List ℕ) (m : Module) (table first contents heads definitions : List ℕ) : Type 0 where
  pub tells : Tells m.definitions table
  pub sections : Meets (SectionIs library (places_of contents)) section_key m.sections first (next_of contents)
  pub publics : Meets (PublicIs library (places_of definitions)) public_key (keep is_public_definition m.definitions) heads (next_of definitions)
