-- The beginning of a run, before anything is written: the first refusal, and where the library's modules start.
use Rattle.std.specs.Prelude.{ℕ, ◌≡◌, List, [], ◌∷◌, ltb, length, Result, Ok, Err}
use Rattle.std.proofs.Math.Option.{Option, none, some}
use Rattle.lent.specs.declared.refusal.Refusal.{Refusal}
use Rattle.lent.specs.declared.refusal.Refusal.TheVariants.{RuleSet, OtherEdition, TooDeep, LibraryTooLong, TooManyStretches, StretchPastEnd}
use Rattle.lent.specs.Choice.{when, or_else, leading}
use Rattle.image.specs.Cover.{too_many_stretches, passes_end}
use Rattle.omf51.specs.Module.{module_at}
use Rattle.omf51.specs.File.{file_refusal, modules_in}
use Rattle.library.specs.Gathered.{items_at}
use Rattle.library.specs.Reading.{first_at}
use Rattle.run.specs.declared.Settings.{Settings}
use Rattle.run.specs.Run.{library_read, other_edition, too_deep, cover}
use Rattle.run.specs.Given.{AcceptedBy}

-- refusals 1, 30, 17, the image's own, 3, 16 and 4 in their order, by the lengths of the image and of the library
abbrev pub settings_refusals : Option Refusal → ℕ → ℕ → Settings → List (Option Refusal)
settings_refusals own size library s =
    when (ltb 1 s.rules) RuleSet
    ∷ when (other_edition s.edition) OtherEdition
    ∷ when (too_deep s.depth) TooDeep
    ∷ own
    ∷ when (ltb 1048576 library) LibraryTooLong
    ∷ when (too_many_stretches s.withheld) TooManyStretches
    ∷ when (passes_end size (cover s)) StretchPastEnd
    ∷ []

-- the first of them that applies
unfoldable pub settings_refusal : Option Refusal → ℕ → ℕ → Settings → Option Refusal
settings_refusal own size library s = leading (settings_refusals own size library s)

-- the code's answer for such a refusal
abbrev pub checked : Option Refusal → Result Unit Refusal
checked none = Ok tt
checked (some r) = Err r

-- the refusal in such an answer
abbrev pub refusal_in : Result Unit Refusal → Option Refusal
refusal_in (Ok u) = none
refusal_in (Err r) = some r

-- the code's answer: a refusal, or the place of the first module
abbrev pub begins_at : ℕ → Option Refusal → Result ℕ Refusal
begins_at first none = Ok first
begins_at first (some r) = Err r

-- the first refusal of the settings, the lengths or the reading that applies, or the place of the first module
unfoldable pub beginning : Option Refusal → ℕ → List ℕ → Settings → Result ℕ Refusal
beginning own size library s = begins_at (first_at library) (or_else (settings_refusal own size (length library) s) (file_refusal (library_read library s)))

-- none of these applies, and the modules start at the place `first`
pub record Begun (own : Option Refusal) (size : ℕ) (library : List ℕ) (s : Settings) (first : ℕ) : Type 0 where
  pub accepted : AcceptedBy (own ≡ none) size library s
  pub is_read : file_refusal (library_read library s) ≡ none
  pub there : modules_in (library_read library s) ≡ items_at library (module_at library) first
