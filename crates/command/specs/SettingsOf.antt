-- The settings that the options ask for.
use Rattle.std.specs.Prelude.{ℕ, Bool, true, false, Option, Some, None, Result, Ok, Err}
use Rattle.image.specs.declared.cover.Stretches as cover
use Rattle.run.specs.declared.Settings as settings
use Rattle.command.specs.Words.{mistake, unless_wrong}
use Rattle.command.specs.declared.mistake.Fault.TheVariants.{BothDepths}
use Rattle.command.specs.declared.mistake.Mistake.{Mistake}
use Rattle.command.specs.declared.options.Options.{Options}
use Rattle.command.specs.declared.settings.Plain.{Plain}

-- an option's value, or what holds where the option is not given
abbrev pub number_or : Option (Result ℕ Mistake) → ℕ → Result ℕ Mistake
number_or None otherwise = Ok otherwise
number_or (Some read) otherwise = read

-- to what depth references are checked: 0 where --no-check is given, beside which there may be no --depth
abbrev pub depth_of : Bool → Option (Result ℕ Mistake) → Result ℕ Mistake
depth_of true value = number_or value 1
depth_of false None = Ok 0
depth_of false (Some read) = Err (mistake BothDepths 0)

-- no address is left out, where no skip amount is given
abbrev pub skip_read : Option (Result ℕ Mistake) → Result (Option ℕ) Mistake
skip_read None = Ok None
skip_read (Some read) = unless_wrong read λ n. Ok (Some n)

-- as documented, edition 1, depth 1, and three bytes, where nothing is said; of several values that are wrong the rules' is told first, then the edition,
-- the depth, the minimum, the first stretch that is, and the skip amount
unfoldable pub settings_of : Options → Result Plain Mistake
settings_of o =
    unless_wrong (number_or o.rules 1) λ rules. unless_wrong (number_or o.edition 1) λ edition.
    unless_wrong (depth_of o.check o.depth) λ depth. unless_wrong (number_or o.minimum 3) λ minimum.
    unless_wrong o.withheld λ held. unless_wrong (skip_read o.skip) λ skip.
    Ok (record { rules = rules; edition = edition; depth = depth; minimum = minimum; skip = skip })

-- the settings with what is withheld
abbrev pub settings_with : Plain → cover.Stretches → settings.Settings
settings_with s w =
    record { rules = s.rules; edition = s.edition; depth = s.depth; minimum = s.minimum; skip = s.skip; withheld = w }
