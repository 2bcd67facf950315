-- The two kinds of segments, kept and absolute, put together from what is met along links.
use Rattle.std.specs.Prelude.{ℕ, ◌+◌, ◌≤◌, ◌<◌, ◌≡◌, Bool, true, false, List, [], eqb, length, if◌then◌else◌}
use Rattle.lent.specs.Lists.{one, keep, joined}
use Rattle.lent.specs.Parts.{bytes_of}
use Rattle.image.specs.declared.Seat.TheVariants.{Anywhere, Only}
use Rattle.image.specs.declared.fixup.Rules.{Rules}
use Rattle.image.specs.declared.fixup.Rules.TheVariants.{AsFound, Documented}
use Rattle.omf51.specs.declared.ModuleId.{ModuleId}
use Rattle.omf51.specs.declared.Definition.{Definition}
use Rattle.omf51.specs.declared.Content.{Content}
use Rattle.omf51.specs.declared.Fixup.{Fixup}
use Rattle.omf51.specs.Module.{Section, Module}
use Rattle.segments.specs.Masks.{masks_of, filled}
use Rattle.segments.specs.Ids.{kept_place}
use Rattle.segments.specs.Collect.{Collected, data_of, data_masks, sections_of}
use Rattle.library.specs.items.Left.{fixups_left}
use Rattle.tables.specs.links.Things.{keys_of, places_of, next_of}
use Rattle.tables.specs.links.Follow.{Follows}
use Rattle.module_index.specs.gather.Places.{SectionIs, PublicIs, public_key, is_public_definition}
use Rattle.module_ids.specs.Noted.{Tells}
use Rattle.segment_parts.specs.declared.carried.Carried.TheVariants.{All, Inside}
use Rattle.segment_parts.specs.AddedReferences.{leaves_in, section_leaves}
use Rattle.segment_parts.specs.AddedSymbols.{symbol_by}
use Rattle.segment_parts.specs.symbols_by_offset.Flags.{Clear}
use Rattle.segment_parts.specs.symbols_by_offset.Inside.{Offered}
use Rattle.collect.specs.declared.kept.one.KeptFrom.{KeptFrom}
use Rattle.collect.specs.declared.absolute.one.AbsoluteFrom.{AbsoluteFrom}
use Rattle.collect.specs.declared.stored.CollectCounts.{CollectCounts}
use Rattle.collect.specs.stored.Rows.{Stored}
use Rattle.collect.specs.stored.Stores.{CollectLists, Extends, SameLengths}

abbrev pub lists : List ℕ → List ℕ → List ℕ → List ℕ → List ℕ → CollectLists
lists segments references symbols bytes masks = record { segments = segments; references = references; symbols = symbols; bytes = bytes; masks = masks }

abbrev pub kept_of : List ℕ → List Definition → ℕ → ℕ → List Section → List Definition → Collected
kept_of library definitions number size sections publics = record {
  seat = Anywhere;
  bytes = filled size (data_of library) sections;
  masks = filled size (data_masks library) sections;
  references = joined (section_leaves definitions number) sections;
  symbols = joined (symbol_by All) publics;
}

abbrev pub absolute_of : List ℕ → List Definition → ℕ → Bool → Content → List Fixup → List Definition → Collected
absolute_of library definitions number own content fixups publics = record {
  seat = Only content.offset;
  bytes = bytes_of library content.part;
  masks = masks_of (length (bytes_of library content.part)) fixups;
  references = joined (leaves_in definitions number 0) fixups;
  symbols = joined (symbol_by (Inside (record { at = content.offset; len = content.part.len; own = own }))) publics;
}

-- the public definitions of an id, as they are gathered
abbrev pub publics_of : Module → ModuleId → List Definition
publics_of m id = keep (λ d. eqb (public_key d) id.0) (keep is_public_definition m.definitions)

-- the contents that go to the kept segment at a place: those of its id, if it is the first of it
abbrev pub sections_for : Module → ModuleId → ℕ → List Section
sections_for m id place = if eqb (kept_place m id) place then sections_of m id else []

-- as documented, a symbol of an absolute content stands at its own address: its offset counts from the content's start
abbrev pub own_by : Rules → Bool
own_by AsFound = false
own_by Documented = true

-- a content whose data lie within the library
pub record WholeContent (library : List ℕ) (content : Content) : Type 0 where
  pub within : content.part.at + content.part.len ≤ length library
  pub short : content.part.len < 65536
  pub low : content.offset < 65536

pub record StoresKept (library table : List ℕ) (number : ℕ) (from : KeptFrom) (contents definitions : List ℕ) (c : CollectCounts) (l : CollectLists) (apart : List ℕ) (after : CollectLists) (apart' : List ℕ) (w : Stored) : Type 0 where
  pub long : SameLengths l after
  pub apart-long : length apart' ≡ length apart
  pub extends : (ds : List Definition) (sections : List Section) (publics : List Definition) → Tells ds table
      → Follows (SectionIs library (places_of contents)) (next_of contents) 0 from.content sections → Follows (PublicIs library (places_of definitions)) (next_of definitions) 0 from.public publics
      → Extends (one (kept_of library ds number from.size sections publics)) l c after w

pub record StoresAbsolute (library table : List ℕ) (number : ℕ) (from : AbsoluteFrom) (definitions heads : List ℕ) (c : CollectCounts) (l : CollectLists)
    (apart flags : List ℕ) (after : CollectLists) (apart' flags' : List ℕ) (w : Stored) : Type 0 where
  pub long : SameLengths l after
  pub apart-long : length apart' ≡ length apart
  pub flags_long : length flags' ≡ length flags
  pub clear : Clear flags'
  pub extends : (ds : List Definition) (publics : List Definition) → Tells ds table
      → Offered library (keys_of definitions) from.n (places_of definitions) heads (next_of definitions) flags publics
      → Extends (one (absolute_of library ds number from.own from.content (fixups_left library from.fixups) publics)) l c after w
