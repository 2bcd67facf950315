-- A contract determines its outcome: all that it allows is one thing. Assumes nothing.
use Rattle.std.specs.Prelude.{◌≡◌}
use Rattle.std.proofs.Common.{sym, ◌∙◌}

abbrev pub Determines : {O : Type 0} → (O → Type 0) → Type 0
Determines {O} C = (a b : O) → C a → C b → a ≡ b

-- one that says what the outcome is does
pub by-equation : {O : Type 0} (d : O) → Determines (λ o. o ≡ d)
by-equation d a b p q = p ∙ sym q

-- and so does one that says what a map makes of it, if the map keeps outcomes apart
pub by_map : {O D : Type 0} (m : O → D) → ((a b : O) → m a ≡ m b → a ≡ b) → (d : D) → Determines (λ o. m o ≡ d)
by_map m apart d a b p q = apart a b (p ∙ sym q)
