-- The functions have one outcome each, by their contracts alone. Assumes nothing.
use Rattle.std.specs.Prelude.{ℕ, ◌≡◌, List}
use Rattle.lent.specs.OneOutcome.{Determines, by-equation}
use Rattle.intel_hex.specs.declared.HexRefusal.{HexRefusal}
use Rattle.intel_hex.specs.Outcome.{hex_number, stored}
use Rattle.intel_hex.specs.Import.{imported}
use Rattle.intel_hex.specs.Export.{exported}

pub import-text-one : (text out : List ℕ) → Determines (λ o. o ≡ stored (imported text) out)
import-text-one text out = by-equation (stored (imported text) out)

pub export-image-one : (image out : List ℕ) → Determines (λ o. o ≡ stored (exported image) out)
export-image-one image out = by-equation (stored (exported image) out)

pub number-one : (r : HexRefusal) → Determines (λ n. n ≡ hex_number r)
number-one r = by-equation (hex_number r)
