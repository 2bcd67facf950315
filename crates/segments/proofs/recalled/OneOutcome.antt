-- Whether a part lies within a list has one answer, by the contract alone. Assumes nothing.
use Rattle.std.specs.Prelude.{ℕ, ◌+◌, ◌≡◌, leb}
use Rattle.lent.specs.declared.part.Part.{Part}
use Rattle.lent.specs.OneOutcome.{Determines, by-equation}

pub lies-within-one : (p : Part) (n : ℕ) → Determines (λ r. r ≡ leb (p.at + p.len) n)
lies-within-one p n = by-equation (leb (p.at + p.len) n)
