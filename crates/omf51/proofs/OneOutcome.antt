-- The functions on records and entries have one outcome each, by their contracts alone. Assumes nothing.
use Rattle.std.specs.Prelude.{ℕ, ◌≤◌, ◌≡◌, List, Option, Some, None, Result, Ok, Err}
use Rattle.lent.specs.declared.refusal.Refusal.{Refusal}
use Rattle.std.proofs.Common.{sym, ap, ◌∙◌}
use Rattle.lent.specs.OneOutcome.{Determines, by-equation, by_map}
use Rattle.lent.specs.Parts.{byte_at, word_at, bytes_of}
use Rattle.omf51.specs.declared.Edition.{Edition}
use Rattle.omf51.specs.declared.Frame.{Frame}
use Rattle.omf51.specs.declared.types.Allowed.{Allowed}
use Rattle.omf51.specs.declared.entry.Entries.{Entries}
use Rattle.omf51.specs.declared.entry.Named.{Named}
use Rattle.omf51.specs.Record.{edition_of, expected, expected_by, leaves_over, record_by}
use Rattle.omf51.specs.Entry.{name_part, segment_size, id_size, is_segment, is_public, name_offset, name_with}
use Rattle.omf51.specs.Module.{defines, fills}
use Rattle.omf51.specs.Expected.{one_type, allows, frame_read}
use Rattle.omf51.specs.Ends.{entry_end, name_read}

pub segment-size-one : (info stored : ℕ) → Determines (λ r. r ≡ segment_size info stored)
segment-size-one info stored = by-equation (segment_size info stored)

-- types
pub defines-one : (kind : ℕ) → Determines (λ r. r ≡ defines kind)
defines-one kind = by-equation (defines kind)

pub fills_one : (kind : ℕ) → Determines (λ r. r ≡ fills kind)
fills_one kind = by-equation (fills kind)

pub allows-one : (what : Allowed) (kind : ℕ) → Determines (λ r. r ≡ allows what kind)
allows-one what kind = by-equation (allows what kind)

-- records
pub byte-at-one : (library : List ℕ) (at : ℕ) → Determines (λ r. r ≡ byte_at library at)
byte-at-one library at = by-equation (byte_at library at)

pub word-at-one : (library : List ℕ) (at : ℕ) → Determines (λ r. r ≡ word_at library at)
word-at-one library at = by-equation (word_at library at)

frames-apart : (a b : Result (Option Frame) Refusal) → frame_read a ≡ frame_read b → a ≡ b
frames-apart (Ok (Some f)) (Ok (Some g)) e = cc
frames-apart (Ok (Some f)) (Ok None) e = cc
frames-apart (Ok (Some f)) (Err s) e = cc
frames-apart (Ok None) (Ok (Some g)) e = cc
frames-apart (Ok None) (Ok None) e = cc
frames-apart (Ok None) (Err s) e = cc
frames-apart (Err r) (Ok (Some g)) e = cc
frames-apart (Err r) (Ok None) e = cc
frames-apart (Err r) (Err s) e = cc

pub record-at-one : (library : List ℕ) (what : Allowed) (at : ℕ) → Determines (λ r. frame_read r ≡ expected library (allows what) at)
record-at-one library what at = by_map frame_read frames-apart (expected library (allows what) at)

pub record-by-one : (library : List ℕ) (edition : Edition) (what : Allowed) (at : ℕ) → Determines (λ r. frame_read r ≡ expected_by edition library (allows what) at)
record-by-one library edition what at = by_map frame_read frames-apart (expected_by edition library (allows what) at)

pub edition-of-one : (number : ℕ) → Determines (λ r. r ≡ edition_of number)
edition-of-one number = by-equation (edition_of number)

pub leaves-over-one : (edition : Edition) (left end : ℕ) → Determines (λ r. r ≡ leaves_over edition left end)
leaves-over-one edition left end = by-equation (leaves_over edition left end)

-- names
pub read-name-one : (library : List ℕ) (at : ℕ) → Determines (λ r. r ≡ bytes_of library (name_part library at))
read-name-one library at = by-equation (bytes_of library (name_part library at))

pub name-at-one : (library : List ℕ) (at : ℕ) → Determines (λ r. r ≡ name_part library at)
name-at-one library at = by-equation (name_part library at)

-- entries
pub is-segment-one : (f : Frame) → Determines (λ r. r ≡ is_segment f)
is-segment-one f = by-equation (is_segment f)

pub is-public-one : (f : Frame) → Determines (λ r. r ≡ is_public f)
is-public-one f = by-equation (is_public f)

pub id-size-one : (f : Frame) → Determines (λ r. (r ≡ id_size f) × (r ≤ 2))
id-size-one f a b p q = p.0 ∙ sym q.0

pub name-offset-one : (f : Frame) → Determines (λ r. (r ≡ name_offset f) × (r ≤ 9))
name-offset-one f a b p q = p.0 ∙ sym q.0

pub entry-end-one : (library : List ℕ) (what : Entries) (f : Frame) (at : ℕ) → Determines (λ r. Ok r ≡ entry_end what library f at)
entry-end-one library what f at = by_map Ok (λ a b e. cc) (entry_end what library f at)

names_apart : (a b : Result (Option Named) Refusal) → name_read a ≡ name_read b → a ≡ b
names_apart (Ok (Some n)) (Ok (Some m)) e =
    let name : n.name ≡ m.name = cc in
    let next : n.next ≡ m.next = cc in
    ap (λ k. Ok (Some (record { name = k; next = n.next }))) name ∙ ap (λ k. Ok (Some (record { name = m.name; next = k }))) next
names_apart (Ok (Some n)) (Ok None) e = cc
names_apart (Ok (Some n)) (Err s) e = cc
names_apart (Ok None) (Ok (Some m)) e = cc
names_apart (Ok None) (Ok None) e = cc
names_apart (Ok None) (Err s) e = cc
names_apart (Err r) (Ok (Some m)) e = cc
names_apart (Err r) (Ok None) e = cc
names_apart (Err r) (Err s) e = cc

pub named-at-one : (library : List ℕ) (edition : Edition) (kind more at : ℕ)
    → Determines (λ r. name_read r ≡ record_by edition library (one_type kind) (name_with more library) at)
named-at-one library edition kind more at = by_map name_read names_apart (record_by edition library (one_type kind) (name_with more library) at)
