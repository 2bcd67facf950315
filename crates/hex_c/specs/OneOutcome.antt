-- The exported functions have one outcome each, by their contracts alone. Assumes nothing.
use Rattle.std.specs.Prelude.{ℕ, ◌≡◌, List}
use Rattle.lent.specs.OneOutcome.{Determines, by-equation}
use Rattle.intel_hex.specs.Outcome.{stored}
use Rattle.intel_hex.specs.Import.{imported}
use Rattle.intel_hex.specs.Export.{exported}
use Rattle.hex_c.specs.Exported.{handed}

pub hex-import-one : (text out counts : List ℕ) → Determines (λ h. h ≡ handed (stored (imported text) out) counts)
hex-import-one text out counts = by-equation (handed (stored (imported text) out) counts)

pub hex-export-one : (image out counts : List ℕ) → Determines (λ h. h ≡ handed (stored (exported image) out) counts)
hex-export-one image out counts = by-equation (handed (stored (exported image) out) counts)
