-- How many things are indexed, and which links are followed, has one outcome, by the contract alone. Assumes nothing.
use Rattle.std.specs.Prelude.{ℕ, ◌<◌, ◌≡◌, List, map, length, get_or}
use Rattle.std.proofs.Common.{sym, subst, ◌∙◌}
use Rattle.tables.specs.links.Things.{next_of}
use Rattle.tables.specs.links.Index.{Linked}
use Rattle.tables.specs.links.OneOutcome.{link-one}
use Rattle.module_index.specs.IndexedTables.{IndexedInto}

module _ {A : Type 0} (is : List ℕ → ℕ → A → Type 0) (key : A → ℕ) (xs : List A) (things₀ first₀ : List ℕ) where
  abbrev Outcome : List ℕ → List ℕ → ℕ → Type 0
  Outcome = IndexedInto is key xs things₀ first₀

  by-keys : {things first : List ℕ} {n : ℕ} → Outcome things first n → Linked (map key xs) 0 first (next_of things)
  by-keys {things = things} {first = first} p = subst (λ ks. Linked ks 0 first (next_of things)) p.keyed p.linked

  -- `index_sections` and `index_publics`; the places are open as they are in gathering
  pub index-one : {things first things' first' : List ℕ} {a b : ℕ} → Outcome things first a → Outcome things' first' b
      → (a ≡ b) × (((k : ℕ) → k < 65536 → get_or first k 0 ≡ get_or first' k 0) × ((j : ℕ) → j < length (map key xs) → get_or (next_of things) j 0 ≡ get_or (next_of things') j 0))
  index-one {things = things} {first = first} {things' = things'} {first' = first'} p q =
      (p.number ∙ sym q.number, link-one (map key xs) first (next_of things) first' (next_of things') (by-keys p) (by-keys q))
