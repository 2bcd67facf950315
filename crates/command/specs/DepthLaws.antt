-- What --no-check asks for, and what is asked for where nothing is said of the depth. Assumes nothing.
use Rattle.std.specs.Prelude.{◌≡◌, true, None, Ok}
use Rattle.command.specs.Options.{with_depth, unchecked_of}
use Rattle.command.specs.SettingsOf.{settings_of}
use Rattle.command.specs.declared.options.Options.{Options}

-- nothing is said of the depth
module _ (o : Options) (checked : o.check ≡ true) (absent : o.depth ≡ None) where
  -- --no-check is --depth 0
  pub no-check-is-0 : settings_of (unchecked_of o) ≡ settings_of (with_depth o (Ok 0))
  unfolding settings_of
  no-check-is-0 = rw (checked, absent)

  -- and saying nothing is --depth 1
  pub nothing-is-1 : settings_of o ≡ settings_of (with_depth o (Ok 1))
  unfolding settings_of
  nothing-is-1 = rw (checked, absent)
