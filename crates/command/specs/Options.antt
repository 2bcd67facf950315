-- The options of the command line, and what is known of them.
use Rattle.std.specs.Prelude.{ℕ, Bool, true, false, List, [], ◌∷◌, Some, None, Result, Ok, Err, is_some, eqb, length, get_or, if◌then◌else◌}
use Prim.Native.String.{String}
use Rattle.lent.specs.Parts.{same}
use Rattle.describe.specs.Describe.{text}
use Rattle.command.specs.Values.{number_value, rules_value}
use Rattle.command.specs.Stretches.{stretch_value}
use Rattle.image.specs.declared.Stretch.{Stretch}
use Rattle.command.specs.declared.mistake.Mistake.{Mistake}
use Rattle.command.specs.declared.options.Valued as valued
use Rattle.command.specs.declared.options.Valued.TheVariants.{Rules, Edition, Depth, Minimum, Skip, Withhold}
use Rattle.command.specs.declared.options.Kind.{Kind}
use Rattle.command.specs.declared.options.Kind.TheVariants.{NoCheck, Valued, Unknown, File}
use Rattle.command.specs.declared.options.Options.{Options}

-- the options by their words
abbrev pub options : List (String × Kind)
options =
    ("--no-check", NoCheck)
    ∷ ("--depth", Valued Depth)
    ∷ ("--min-fn-length", Valued Minimum)
    ∷ ("--skip-multiple", Valued Skip)
    ∷ ("--rules", Valued Rules)
    ∷ ("--edition", Valued Edition)
    ∷ ("--withhold", Valued Withhold)
    ∷ []

-- the first of some options that has this word
unfoldable pub option_in : List (String × Kind) → List ℕ → Kind
option_in [] word = Unknown
option_in (o ∷ rest) word = if same word (text o.0) then o.1 else option_in rest word

abbrev pub option_of : List ℕ → Kind
option_of word = option_in options word

-- what a word is that is no option's value: an option, if it begins with -, and else a file
unfoldable pub kind_of : List ℕ → Kind
kind_of word =
    if eqb (length word) 0 then File
    else if eqb (get_or word 0 0) 0x2D then option_of word
    else File

-- where no option is given: references are checked, and nothing else is said
abbrev pub no_options : Options
no_options = record { rules = None; edition = None; check = true; depth = None; minimum = None; skip = None; withheld = Ok tt }

-- whether an option has its value already; there may be several stretches
abbrev pub is_given : Options → valued.Valued → Bool
is_given o Rules = is_some o.rules
is_given o Edition = is_some o.edition
is_given o Depth = is_some o.depth
is_given o Minimum = is_some o.minimum
is_given o Skip = is_some o.skip
is_given o Withhold = false

-- an option's value is put in; the others stay
abbrev pub with_rules : Options → Result ℕ Mistake → Options
with_rules o read =
    record { rules = Some read; edition = o.edition; check = o.check; depth = o.depth; minimum = o.minimum; skip = o.skip; withheld = o.withheld }

abbrev pub with_edition : Options → Result ℕ Mistake → Options
with_edition o read =
    record { rules = o.rules; edition = Some read; check = o.check; depth = o.depth; minimum = o.minimum; skip = o.skip; withheld = o.withheld }

abbrev pub with_depth : Options → Result ℕ Mistake → Options
with_depth o read =
    record { rules = o.rules; edition = o.edition; check = o.check; depth = Some read; minimum = o.minimum; skip = o.skip; withheld = o.withheld }

abbrev pub with_minimum : Options → Result ℕ Mistake → Options
with_minimum o read =
    record { rules = o.rules; edition = o.edition; check = o.check; depth = o.depth; minimum = Some read; skip = o.skip; withheld = o.withheld }

abbrev pub with_skip : Options → Result ℕ Mistake → Options
with_skip o read =
    record { rules = o.rules; edition = o.edition; check = o.check; depth = o.depth; minimum = o.minimum; skip = Some read; withheld = o.withheld }

-- one value more of --withhold; of several values that are wrong the first is told
abbrev pub held_with : Result Unit Mistake → Result Stretch Mistake → Result Unit Mistake
held_with (Ok u) (Ok s) = Ok tt
held_with (Ok u) (Err m) = Err m
held_with (Err m) read = Err m

abbrev pub with_withheld : Options → Result Stretch Mistake → Options
with_withheld o read =
    record { rules = o.rules; edition = o.edition; check = o.check; depth = o.depth; minimum = o.minimum; skip = o.skip; withheld = held_with o.withheld read }

abbrev pub unchecked_of : Options → Options
unchecked_of o =
    record { rules = o.rules; edition = o.edition; check = false; depth = o.depth; minimum = o.minimum; skip = o.skip; withheld = o.withheld }

abbrev pub with_value : Options → valued.Valued → List ℕ → ℕ → Options
with_value o Rules word i = with_rules o (rules_value word i)
with_value o Edition word i = with_edition o (number_value word i)
with_value o Depth word i = with_depth o (number_value word i)
with_value o Minimum word i = with_minimum o (number_value word i)
with_value o Skip word i = with_skip o (number_value word i)
with_value o Withhold word i = with_withheld o (stretch_value word i)
