-- A target that is past the end or withheld, as the code tells it apart, is no address. Assumes nothing.
use Rattle.std.specs.Prelude.{◌≡◌, ℕ, [], ◌∷◌, ◌≢◌}
use Rattle.std.proofs.Common.{inl, inr, arith}
use denote.Enum.Declared.{tag_of}
use types.Run.{OneOf}
use Rattle.image.specs.declared.fixup.Target.{Target}
use Rattle.image.specs.declared.fixup.Target.TheVariants.{At, PastEnd, Withheld}
use Rattle.image.specs.contracts.fixup.Target.{the_type}

pub nowhere : (t : Target) → OneOf (1 ∷ 2 ∷ []) (tag_of the_type t) → (at : ℕ) → t ≢ At at
nowhere (At x) (inl z) at e = absurd (omega arith)
nowhere (At x) (inr z) at e = absurd (omega arith)
nowhere PastEnd h at e = let z : ◌≡◌ {A = ℕ} 0 1 = cc in absurd (omega arith)
nowhere Withheld h at e = let z : ◌≡◌ {A = ℕ} 0 1 = cc in absurd (omega arith)
