-- Command lines, and what they ask for.
use Rattle.std.specs.Prelude.{ℕ, ◌≡◌, refl, Ok, Err, List, [], ◌∷◌, map, Some, None}
use Prim.Native.String.{String}
use Rattle.lent.specs.Parts.{same}
use Rattle.describe.specs.Describe.{text}
use Rattle.image.specs.declared.cover.Stretches.{Stretches}
use Rattle.image.specs.Cover.{no_stretches, one_more}
use Rattle.listing_rules.specs.Listing.{SkipAmount}
use Rattle.command.specs.Words.{mistake}
use Rattle.command.specs.Numbers.{digit_of, digits_from, number_of}
use Rattle.command.specs.Values.{number_read, number_value, rules_value}
use Rattle.command.specs.Stretches.{colon_in, stretch_read, stretch_value}
use Rattle.command.specs.Options.{option_in, kind_of}
use Rattle.command.specs.SettingsOf.{settings_of}
use Rattle.command.specs.Arguments.{free_taken, taken, request_of, ended, settings_from, settings_in}
use Rattle.command.specs.declared.mistake.Fault.TheVariants.{Twice, NoValue, NoLibrary, NotAStretch, NumberTooLarge, BothDepths}
use Rattle.command.specs.declared.mistake.Fault.{Fault}
use Rattle.command.specs.declared.arguments.Asked.{Asked}

asked : List String → Asked
asked words = settings_in (map text words)

-- the image is word `image`, the library word `library`
for : ℕ → ℕ → ℕ → ℕ → ℕ → ℕ → SkipAmount → Stretches → Asked
for image library rules edition depth minimum skip withheld =
    record {
      requested = Ok (record {
        image = image;
        library = library;
        settings = record { rules = rules; edition = edition; depth = depth; minimum = minimum; skip = skip };
      });
      withheld = withheld;
    }

-- the words up to this fault withhold nothing
faulty : Fault → ℕ → Asked
faulty fault i = record { requested = Err (mistake fault i); withheld = no_stretches }

plain : asked ("aid.img" ∷ "routines.lib" ∷ []) ≡ for 1 2 1 1 1 3 None no_stretches
unfolding asked for same kind_of settings_of free_taken taken request_of ended settings_from
plain = refl

withheld : asked ("aid.img" ∷ "routines.lib" ∷ "--withhold" ∷ "0x1204:8" ∷ []) ≡ for 1 2 1 1 1 3 None (one_more no_stretches 0x1204 8)
unfolding asked for same digit_of digits_from number_of number_read colon_in stretch_read stretch_value option_in kind_of settings_of free_taken taken request_of ended settings_from
withheld = refl

all-options : asked ("--rules" ∷ "found" ∷ "aid.img" ∷ "--no-check" ∷ "--min-fn-length" ∷ "0xF" ∷ "routines.lib" ∷ "--skip-multiple" ∷ "2" ∷ "--edition" ∷ "2" ∷ [])
    ≡ for 3 7 0 2 0 15 (Some 2) no_stretches
unfolding asked for same digit_of digits_from number_of number_read number_value rules_value option_in kind_of settings_of free_taken taken request_of ended settings_from
all-options = refl

deep : asked ("aid.img" ∷ "routines.lib" ∷ "--depth" ∷ "4" ∷ []) ≡ for 1 2 1 1 4 3 None no_stretches
unfolding asked for same digit_of digits_from number_of number_read number_value option_in kind_of settings_of free_taken taken request_of ended settings_from
deep = refl

-- --no-check is --depth 0, and not beside it, whichever stands first
both : asked ("--no-check" ∷ "aid.img" ∷ "routines.lib" ∷ "--depth" ∷ "0" ∷ []) ≡ faulty BothDepths 0
unfolding asked faulty same digit_of digits_from number_of number_read number_value option_in kind_of settings_of free_taken taken request_of ended settings_from
both = refl

other-first : asked ("--depth" ∷ "x" ∷ "aid.img" ∷ "routines.lib" ∷ "--no-check" ∷ []) ≡ faulty BothDepths 0
unfolding asked faulty same digit_of digits_from number_of number_read number_value option_in kind_of settings_of free_taken taken request_of ended settings_from
other-first = refl

several : asked ("--withhold" ∷ "0:1" ∷ "aid.img" ∷ "routines.lib" ∷ "--withhold" ∷ "2:3" ∷ []) ≡ for 3 4 1 1 1 3 None (one_more (one_more no_stretches 0 1) 2 3)
unfolding asked for same digit_of digits_from number_of number_read colon_in stretch_read stretch_value option_in kind_of settings_of free_taken taken request_of ended settings_from
several = refl

twice : asked ("--rules" ∷ "found" ∷ "aid.img" ∷ "routines.lib" ∷ "--rules" ∷ "found" ∷ []) ≡ faulty Twice 5
unfolding asked faulty same rules_value option_in kind_of free_taken taken settings_from
twice = refl

no_value : asked ("aid.img" ∷ "--rules" ∷ []) ≡ faulty NoValue 2
unfolding asked faulty same option_in kind_of free_taken taken ended settings_from
no_value = refl

no-library : asked ("aid.img" ∷ "--min-fn-length" ∷ "x" ∷ []) ≡ faulty NoLibrary 0
unfolding asked faulty same digit_of digits_from number_of number_read number_value option_in kind_of free_taken taken ended settings_from
no-library = refl

-- of two wrong values the minimum is told before the stretch
too_large : asked ("aid.img" ∷ "routines.lib" ∷ "--withhold" ∷ "5" ∷ "--min-fn-length" ∷ "18446744073709551616" ∷ []) ≡ faulty NumberTooLarge 6
unfolding asked faulty same digit_of digits_from number_of number_read number_value colon_in stretch_read stretch_value option_in kind_of settings_of free_taken taken request_of ended settings_from
too_large = refl

-- and of two wrong stretches the first
first-wrong : asked ("aid.img" ∷ "routines.lib" ∷ "--withhold" ∷ "5" ∷ "--withhold" ∷ "6" ∷ []) ≡ faulty NotAStretch 4
unfolding asked faulty same digit_of digits_from number_of number_read colon_in stretch_read stretch_value option_in kind_of settings_of free_taken taken request_of ended settings_from
first-wrong = refl
