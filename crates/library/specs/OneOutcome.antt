-- The functions that pass over records, modules and the file have one outcome each, by their contracts alone. Assumes nothing.
use Rattle.std.specs.Prelude.{Option, Some, None, Result, Ok, Err}
use Rattle.std.specs.Prelude.{ℕ, ◌≡◌, List}
use Rattle.lent.specs.OneOutcome.{Determines, by-equation, by_map}
use Rattle.lent.specs.declared.refusal.Refusal.{Refusal}
use Rattle.omf51.specs.declared.Edition.{Edition}
use Rattle.omf51.specs.declared.entry.Entries.{Entries}
use Rattle.omf51.specs.Reader.{many}
use Rattle.omf51.specs.Module.{sections_by, module_by}
use Rattle.omf51.specs.Ends.{end_of, reached}
use Rattle.library.specs.declared.Places.{Places}
use Rattle.library.specs.Passes.{allowed_for, holds, record_end, record_end_by, all_end_by, sections_end_by, places_by, places_read}
use Rattle.library.specs.Reading.{count_of, reading}

pub allowed-for-one : (what : Entries) → Determines (λ r. r ≡ allowed_for what)
allowed-for-one what = by-equation (allowed_for what)

pub holds-one : (what : Entries) (kind : ℕ) → Determines (λ r. r ≡ holds what kind)
holds-one what kind = by-equation (holds what kind)

pub record-end-one : (library : List ℕ) (what : Entries) (at : ℕ) → Determines (λ r. r ≡ record_end what library at)
record-end-one library what at = by-equation (record_end what library at)

-- and in either edition
pub record-end-by-one : (library : List ℕ) (edition : Edition) (what : Entries) (at : ℕ) → Determines (λ r. r ≡ record_end_by edition what library at)
record-end-by-one library edition what at = by-equation (record_end_by edition what library at)

reached-apart : (a b : Result ℕ Refusal) → reached a ≡ reached b → a ≡ b
reached-apart (Ok n) (Ok m) e = cc
reached-apart (Ok n) (Err s) e = cc
reached-apart (Err r) (Ok m) e = cc
reached-apart (Err r) (Err s) e = cc

pub skip-one : (library : List ℕ) (edition : Edition) (what : Entries) (from : ℕ) → Determines (λ r. reached r ≡ all_end_by edition what library from)
skip-one library edition what from = by_map reached reached-apart (all_end_by edition what library from)

pub section-end-one : (library : List ℕ) (edition : Edition) (at : ℕ) → Determines (λ r. r ≡ end_of (sections_by edition library at))
section-end-one library edition at = by-equation (end_of (sections_by edition library at))

pub skip-sections-one : (library : List ℕ) (edition : Edition) (from : ℕ) → Determines (λ r. reached r ≡ sections_end_by edition library from)
skip-sections-one library edition from = by_map reached reached-apart (sections_end_by edition library from)

places-apart : (a b : Result (Option Places) Refusal) → places_read a ≡ places_read b → a ≡ b
places-apart (Ok (Some p)) (Ok (Some q)) e = cc
places-apart (Ok (Some p)) (Ok None) e = cc
places-apart (Ok (Some p)) (Err s) e = cc
places-apart (Ok None) (Ok (Some q)) e = cc
places-apart (Ok None) (Ok None) e = cc
places-apart (Ok None) (Err s) e = cc
places-apart (Err r) (Ok (Some q)) e = cc
places-apart (Err r) (Ok None) e = cc
places-apart (Err r) (Err s) e = cc

pub module-at-one : (library : List ℕ) (edition : Edition) (at : ℕ) → Determines (λ r. places_read r ≡ places_by edition library at)
module-at-one library edition at = by_map places_read places-apart (places_by edition library at)

pub count-one : (library : List ℕ) (edition : Edition) (from : ℕ) → Determines (λ r. r ≡ count_of (many library (module_by edition library) from))
count-one library edition from = by-equation (count_of (many library (module_by edition library) from))

pub read_one : (library : List ℕ) (edition : Edition) → Determines (λ r. r ≡ reading edition library)
read_one library edition = by-equation (reading edition library)
