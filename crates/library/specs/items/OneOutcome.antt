-- The steps of a walk have one outcome each, by their contracts alone. Assumes nothing.
use Rattle.std.specs.Prelude.{ℕ, ◌≡◌, List}
use Rattle.lent.specs.OneOutcome.{Determines, by-equation}
use Rattle.lent.specs.Parts.{word_at}
use Rattle.omf51.specs.declared.Frame.{Frame}
use Rattle.omf51.specs.declared.entry.Entries.{Entries}
use Rattle.omf51.specs.Entry.{id_at}
use Rattle.library.specs.declared.items.Cursor.{Cursor}
use Rattle.library.specs.items.Walk.{start_at, next_entry}
use Rattle.library.specs.items.Items.{past, next_definition, next_fixup}
use Rattle.library.specs.items.Contents.{next_content}

pub start-one : (at : ℕ) → Determines (λ r. r ≡ start_at at)
start-one at = by-equation (start_at at)

pub moved-one : (c : Cursor) (at : ℕ) → Determines (λ r. r ≡ past c at)
moved-one c at = by-equation (past c at)

pub next-entry-one : (library : List ℕ) (what : Entries) (from : Cursor) → Determines (λ r. r ≡ next_entry what library from)
next-entry-one library what from = by-equation (next_entry what library from)

pub word-one : (library : List ℕ) (at : ℕ) → Determines (λ r. r ≡ word_at library at)
word-one library at = by-equation (word_at library at)

pub id-at-one : (library : List ℕ) (f : Frame) (at : ℕ) → Determines (λ r. r ≡ id_at library f at)
id-at-one library f at = by-equation (id_at library f at)

pub next-definition-one : (library : List ℕ) (from : Cursor) → Determines (λ r. r ≡ next_definition library from)
next-definition-one library from = by-equation (next_definition library from)

pub next-fixup-one : (library : List ℕ) (from : Cursor) → Determines (λ r. r ≡ next_fixup library from)
next-fixup-one library from = by-equation (next_fixup library from)

pub next-content-one : (library : List ℕ) (from : ℕ) → Determines (λ r. r ≡ next_content library from)
next-content-one library from = by-equation (next_content library from)
