-- Settings that differ in the edition alone.
use Rattle.std.specs.Prelude.{ℕ}
use Rattle.run.specs.declared.Settings.{Settings}

-- the same settings, but for the edition
abbrev pub in_edition : ℕ → Settings → Settings
in_edition n s = record { rules = s.rules; edition = n; depth = s.depth; minimum = s.minimum; skip = s.skip; withheld = s.withheld }
