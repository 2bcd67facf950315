-- The functions from the words of the command line to the settings have one outcome each, by their contracts alone. Assumes nothing.
use Rattle.std.specs.Prelude.{ℕ, ◌≡◌, List, Result, replicate}
use Rattle.lent.specs.OneOutcome.{Determines, by-equation}
use Rattle.image.specs.declared.cover.Stretches.{Stretches}
use Rattle.image.specs.declared.Stretch.{Stretch}
use Rattle.command.specs.declared.mistake.Fault.{Fault}
use Rattle.command.specs.declared.mistake.Mistake.{Mistake}
use Rattle.command.specs.declared.number.NumberError.{NumberError}
use Rattle.command.specs.declared.settings.Plain.{Plain}
use Rattle.command.specs.declared.options.Valued.{Valued}
use Rattle.command.specs.declared.options.Options.{Options}
use Rattle.command.specs.Words.{too_long, number_fault}
use Rattle.command.specs.Numbers.{number_of}
use Rattle.command.specs.Values.{number_read, number_value, rules_value}
use Rattle.command.specs.Stretches.{stretch_value, stretch_added}
use Rattle.command.specs.Options.{kind_of, no_options, is_given, with_value, unchecked_of}
use Rattle.command.specs.SettingsOf.{settings_of, settings_with}

pub is-too-long-one : (word : List ℕ) → Determines (λ r. r ≡ too_long word)
is-too-long-one word = by-equation (too_long word)

pub number-in-one : (text : List ℕ) → Determines (λ r. r ≡ number_of text)
number-in-one text = by-equation (number_of text)

pub read-number-one : (text : List ℕ) (i : ℕ) → Determines (λ r. r ≡ number_read text i)
read-number-one text i = by-equation (number_read text i)

pub number-value-one : (word : List ℕ) (i : ℕ) → Determines (λ r. r ≡ number_value word i)
number-value-one word i = by-equation (number_value word i)

pub rules-value-one : (word : List ℕ) (i : ℕ) → Determines (λ r. r ≡ rules_value word i)
rules-value-one word i = by-equation (rules_value word i)

pub stretch-value-one : (word : List ℕ) (i : ℕ) → Determines (λ r. r ≡ stretch_value word i)
stretch-value-one word i = by-equation (stretch_value word i)

pub with-stretch-one : (known : Stretches) (read : Result Stretch Mistake) → Determines (λ r. r ≡ stretch_added known read)
with-stretch-one known read = by-equation (stretch_added known read)

pub kind-of-one : (word : List ℕ) → Determines (λ r. r ≡ kind_of word)
kind-of-one word = by-equation (kind_of word)

pub no-options-one : Determines (λ r. r ≡ no_options)
no-options-one = by-equation no_options

pub is-given-one : (o : Options) (option : Valued) → Determines (λ r. r ≡ is_given o option)
is-given-one o option = by-equation (is_given o option)

pub with-value-one : (o : Options) (option : Valued) (word : List ℕ) (i : ℕ) → Determines (λ r. r ≡ with_value o option word i)
with-value-one o option word i = by-equation (with_value o option word i)

pub unchecked-one : (o : Options) → Determines (λ r. r ≡ unchecked_of o)
unchecked-one o = by-equation (unchecked_of o)

pub settings-of-one : (o : Options) → Determines (λ r. r ≡ settings_of o)
settings-of-one o = by-equation (settings_of o)

pub settings-with-one : (plain : Plain) (withheld : Stretches) → Determines (λ r. r ≡ settings_with plain withheld)
settings-with-one plain withheld = by-equation (settings_with plain withheld)

-- a fault and its word; the fault of a number that can't be read
pub fault-at-one : (fault : Fault) (i : ℕ) → Determines (λ (m : Mistake). m ≡ record { fault = fault; word = i })
fault-at-one fault i = by-equation (record { fault = fault; word = i })

pub fault-from-one : (e : NumberError) → Determines (λ fault. fault ≡ number_fault e)
fault-from-one e = by-equation (number_fault e)

-- a list to lend, of any items
pub filled-one : {T : Type 0} (n : ℕ) (item : T) → Determines (λ list. list ≡ replicate n item)
filled-one n item = by-equation (replicate n item)
