-- Whether an offset is inside a window has one outcome, by the contract alone. Assumes nothing.
use Rattle.std.specs.Prelude.{ℕ, ◌≡◌, ◌+◌, ◌&&◌, leb, ltb}
use Rattle.lent.specs.OneOutcome.{Determines, by-equation}
use Rattle.segment_parts.specs.declared.carried.Window.{Window}

pub contains-one : (w : Window) (offset : ℕ) → Determines (λ r. r ≡ (leb w.at offset && ltb offset (w.at + w.len)))
contains-one w offset = by-equation (leb w.at offset && ltb offset (w.at + w.len))
