-- Which of two things stands before the other in a list.
use Rattle.std.specs.Prelude.{◌≡◌, ◌⊎◌, Bool, true, false, List, [], ◌∷◌}
use Rattle.lent.specs.Members.{◌among◌}

-- x stands before y in a list: x is the first and y among the rest, or so it is in the rest
abbrev pub Earlier : {A : Type 0} → A → A → List A → Type 0
Earlier x y [] = ⊥
Earlier x y (z ∷ zs) = ((x ≡ z) × (y among zs)) ⊎ Earlier x y zs

-- an order in which different things may be equal: of two at most one is less, and what is not less than something is
-- not less than all that this is not less than
pub record Weak {A : Type 0} (less : A → A → Bool) : Type 0 where
  pub turned : (x y : A) → less x y ≡ true → less y x ≡ false
  pub through : (x y z : A) → less x y ≡ false → less y z ≡ false → less x z ≡ false
