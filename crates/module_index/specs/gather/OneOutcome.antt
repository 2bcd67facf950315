-- How many things are gathered, and their keys, has one outcome, by the contract alone. The place of a thing is any at
-- which it is read again, and what stands in memory behind all of them is open. Assumes nothing.
use Rattle.std.specs.Prelude.{ℕ, ◌≡◌, List, take}
use Rattle.std.proofs.Common.{sym, ◌∙◌}
use Rattle.tables.specs.links.Things.{keys_of}
use Rattle.module_index.specs.gather.Into.{GatheredInto}

-- `gather_sections` and `gather_publics`
pub gather-one : {A : Type 0} {key : A → ℕ} {is : List ℕ → ℕ → A → Type 0} {none : A} {xs : List A} {things₀ things things' : List ℕ} {a b : ℕ}
    → GatheredInto key is none xs things₀ things a → GatheredInto key is none xs things₀ things' b → (a ≡ b) × (take a (keys_of things) ≡ take b (keys_of things'))
gather-one p q = (p.gathered.number ∙ sym q.gathered.number, p.gathered.keyed ∙ sym q.gathered.keyed)
