-- What a whole command line asks for, word by word.
use Rattle.std.specs.Prelude.{ℕ, ◌+◌, ◌-◌, ◌≡◌, List, [], ◌∷◌, Option, Some, None, Result, Ok, Err, is_none, if◌then◌else◌}
use Rattle.std.specs.Option.{ok_or}
use Rattle.image.specs.declared.cover.Stretches.{Stretches}
use Rattle.image.specs.Cover.{no_stretches}
use Rattle.command.specs.Words.{too_long, mistake, unless_wrong}
use Rattle.command.specs.Stretches.{stretch_value, stretch_added}
use Rattle.command.specs.Options.{kind_of, no_options, is_given, with_value, unchecked_of}
use Rattle.command.specs.SettingsOf.{settings_of}
use Rattle.command.specs.declared.mistake.Fault.TheVariants.{TooLong, Unknown, Twice, NoValue, ThirdFile, NoImage, NoLibrary}
use Rattle.command.specs.declared.options.Options.{Options}
use Rattle.command.specs.declared.options.Valued as valued
use Rattle.command.specs.declared.options.Valued.TheVariants.{Rules, Edition, Depth, Minimum, Skip, Withhold}
use Rattle.command.specs.declared.options.Kind.{Kind}
use Rattle.command.specs.declared.options.Kind.TheVariants.{NoCheck, Valued, Unknown as NoOption, File}
use Rattle.command.specs.declared.mistake.Mistake.{Mistake}
use Rattle.command.specs.declared.arguments.Given.{Given}
use Rattle.command.specs.declared.arguments.Reached.{Reached}
use Rattle.command.specs.declared.arguments.Request.{Request}
use Rattle.command.specs.declared.arguments.Asked.{Asked}

-- before the first word: no file is named, and no option given
abbrev pub begun : Given
begun = record { image = None; library = None; options = no_options; expected = None }

-- word i is a file: the first is the image, the second the library, and there is no third
abbrev pub file_taken : Given → ℕ → Result Given Mistake
file_taken g i =
    if is_none g.image then Ok (record { image = Some i; library = g.library; options = g.options; expected = g.expected })
    else if is_none g.library then Ok (record { image = g.image; library = Some i; options = g.options; expected = g.expected })
    else Err (mistake ThirdFile i)

-- word i is an option, which may not be given already; its value is expected next
abbrev pub option_taken : Given → valued.Valued → ℕ → Result Given Mistake
option_taken g option i =
    if is_given g.options option then Err (mistake Twice i)
    else Ok (record { image = g.image; library = g.library; options = g.options; expected = Some option })

-- word i is --no-check, which has no value
abbrev pub unchecked_taken : Given → ℕ → Result Given Mistake
unchecked_taken g i =
    if g.options.check
    then Ok (record { image = g.image; library = g.library; options = unchecked_of g.options; expected = None })
    else Err (mistake Twice i)

abbrev pub kind_taken : Given → Kind → ℕ → Result Given Mistake
kind_taken g NoCheck i = unchecked_taken g i
kind_taken g (Valued option) i = option_taken g option i
kind_taken g NoOption i = Err (mistake Unknown i)
kind_taken g File i = file_taken g i

-- word i is no option's value
unfoldable pub free_taken : Given → List ℕ → ℕ → Result Given Mistake
free_taken g word i = if too_long word then Err (mistake TooLong i) else kind_taken g (kind_of word) i

abbrev pub expected_taken : Option valued.Valued → Given → List ℕ → ℕ → Result Given Mistake
expected_taken None g word i = free_taken g word i
expected_taken (Some option) g word i =
    Ok (record { image = g.image; library = g.library; options = with_value g.options option word i; expected = None })

-- one word more; a value that is wrong is told only behind the last word
unfoldable pub taken : Given → List ℕ → ℕ → Result Given Mistake
taken g word i = expected_taken g.expected g word i

unfoldable pub request_of : ℕ → ℕ → Options → Result Request Mistake
request_of image library o = unless_wrong (settings_of o) λ s. Ok (record { image = image; library = library; settings = s })

abbrev pub expected_ended : Option valued.Valued → Given → ℕ → Result Request Mistake
expected_ended (Some option) g last = Err (mistake NoValue last)
expected_ended None g last =
    unless_wrong (ok_or g.image (mistake NoImage 0)) λ image. unless_wrong (ok_or g.library (mistake NoLibrary 0)) λ library. request_of image library g.options

-- behind the last word: the last option has its value, and both files are named
unfoldable pub ended : Given → ℕ → Result Request Mistake
ended g last = expected_ended g.expected g last

-- one stretch more is withheld, where the word is the value of --withhold
abbrev pub value_withheld : valued.Valued → Stretches → List ℕ → ℕ → Stretches
value_withheld Rules w word i = w
value_withheld Edition w word i = w
value_withheld Depth w word i = w
value_withheld Minimum w word i = w
value_withheld Skip w word i = w
value_withheld Withhold w word i = stretch_added w (stretch_value word i)

abbrev pub withheld_after : Option valued.Valued → Stretches → List ℕ → ℕ → Stretches
withheld_after None w word i = w
withheld_after (Some option) w word i = value_withheld option w word i

-- one word more, and what is withheld by then
abbrev pub after : Given → Stretches → List ℕ → ℕ → Reached
after g w word i = record { step = taken g word i; withheld = withheld_after g.expected w word i }

abbrev pub and_then : Result Given Mistake → Stretches → (Given → Asked) → Asked
and_then (Ok g) w rest = rest g
and_then (Err m) w rest = record { requested = Err m; withheld = w }

-- the words from word i on
unfoldable pub settings_from : Given → Stretches → ℕ → List (List ℕ) → Asked
settings_from g w i [] = record { requested = ended g (i - 1); withheld = w }
settings_from g w i (word ∷ rest) =
    and_then (after g w word i).step (after g w word i).withheld (λ next. settings_from next (after g w word i).withheld (i + 1) rest)

-- what the words of a command line, without the program's own name, ask for
abbrev pub settings_in : List (List ℕ) → Asked
settings_in words = settings_from begun no_stretches 1 words

-- what the program came to is what some word makes of what was known, and what some words ask for: no contract can say which words were read
pub record FromWord (g : Given) (w : Stretches) (i : ℕ) (r : Reached) : Type 0 where
  pub word : List ℕ
  pub same : r ≡ after g w word i

pub record FromWords (r : Asked) : Type 0 where
  pub words : List (List ℕ)
  pub same : r ≡ settings_in words
