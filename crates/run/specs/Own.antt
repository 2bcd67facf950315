-- What is promised of an address beside a name: of a line graded 1 to 3, under rule set 1, that it is the name's own; of a
-- line of grade 0 that the name is referred to there. A pattern that matches in several places is listed at each.
use Rattle.std.specs.Prelude.{ℕ, suc, ◌-◌, ◌≤◌, ◌≡◌, ◌⊎◌, true, List}
use Rattle.std.proofs.Math.Option.{some}
use Rattle.lent.specs.declared.part.Part.{Part}
use Rattle.lent.specs.Lists.{numbered}
use Rattle.lent.specs.Members.{◌among◌}
use Rattle.lent.specs.Parts.{bytes_of}
use Rattle.image.specs.Match.{matches_at}
use Rattle.image.specs.fixup.Target.{kind_of}
use Rattle.omf51.specs.declared.ModuleId.{ModuleId}
use Rattle.omf51.specs.declared.Definition.{Definition}
use Rattle.omf51.specs.declared.Definition.TheVariants.{External}
use Rattle.omf51.specs.declared.Fixup.{Fixup}
use Rattle.omf51.specs.Module.{Section, Module}
use Rattle.segments.specs.declared.Reference.{Reference}
use Rattle.segments.specs.Ids.{kept, id_of}
use Rattle.segments.specs.Collect.{Collected, data_of, data_masks, kept_segment, absolute_id, absolute_segment, collect}
use Rattle.segments.proofs.CollectLaws.{Source, Defined, Within}
use Rattle.search_rules.specs.declared.Asked.{Asked}
use Rattle.search_rules.specs.Search.{is_valid, target_of, holds_to}
use Rattle.search_rules.proofs.SearchLaws.{Held}
use Rattle.search_rules.proofs.NotedLaws.{NotedBy, NotedAs}

-- why a match of a segment at a position counts for a name at an address: the segment is one of those collected; at a depth
-- above 0 each of its references holds, those to segments by matches that hold to one depth less; and the match is valid, or
-- some match notes that name at that address
pub record Reason (library cells : List ℕ) (a : Asked) (segments : List Collected) (g : Collected) (position : ℕ) (name : Part) (address : ℕ) : Type 0 where
  pub collected : g among segments
  pub checked : (d : ℕ) → a.depth ≡ suc d → (r : Reference) → r among g.references
      → Held cells segments (λ h at. holds_to cells a.rules segments d h at) r.goal (target_of cells a position r)
  pub counts : (is_valid a g ≡ true) ⊎ NotedAs library cells a segments name address

-- a public definition of that very name, of a kept segment (d, at its place among the kept ones) whose pattern matches at address - offset
pub record OfKept (library cells : List ℕ) (a : Asked) (modules : List Module) (name : Part) (address : ℕ) : Type 0 where
  pub m : Module
  pub is_read : m among modules
  pub number : ℕ
  pub place : ℕ
  pub d : Definition
  pub is-kept : (place, d) among numbered 0 (kept m)
  pub offset : ℕ
  pub defined : Defined m (id_of d) name offset
  pub after : offset ≤ address
  pub matching : matches_at cells (kept_segment library m number (place, d)).bytes (kept_segment library m number (place, d)).masks (address - offset) ≡ true
  pub reason : Reason library cells a (collect a.rules library modules) (kept_segment library m number (place, d)) (address - offset) name address

-- or of an absolute content that matches at its own address; then the address is the definition's own offset
pub record OfAbsolute (library cells : List ℕ) (a : Asked) (modules : List Module) (name : Part) (address : ℕ) : Type 0 where
  pub m : Module
  pub is_read : m among modules
  pub number : ℕ
  pub content-of : Section
  pub is-there : content-of among m.sections
  pub absolute : content-of.content.id.0 ≡ 0
  pub defined : Defined m absolute_id name address
  pub inside : Within content-of.content address
  pub matching : matches_at cells (data_of library content-of) (data_masks library content-of) content-of.content.offset ≡ true
  pub reason : Reason library cells a (collect a.rules library modules) (absolute_segment a.rules library m number content-of) content-of.content.offset name address

abbrev pub Own : List ℕ → List ℕ → Asked → List Module → Part → ℕ → Type 0
Own library cells a modules name address = OfKept library cells a modules name address ⊎ OfAbsolute library cells a modules name address

-- a reference to a name comes from a fixup, of block 2, of a content of the module: the module has an external of that
-- name and of the fixup's id
pub record ByFixup (m : Module) (name : Part) (r : Reference) : Type 0 where
  pub content-of : Section
  pub content-there : content-of among m.sections
  pub fixup : Fixup
  pub fixup-there : fixup among content-of.fixups
  pub block-is : fixup.block ≡ 2
  pub own : ModuleId
  pub info : ℕ
  pub external : External own info name among m.definitions
  pub same : own.0 ≡ fixup.id.0
  pub kind-is : kind_of fixup.kind ≡ some r.kind
  pub offset-is : r.offset ≡ fixup.offset

-- a match refers to a name at an address: it is a match of a segment of a module, and a reference of it, which comes from
-- a fixup that names an external of that name, leads to the address
pub record RefersTo (library cells : List ℕ) (a : Asked) (modules : List Module) (name : Part) (address : ℕ) : Type 0 where
  pub by : NotedBy cells a (collect a.rules library modules) name address
  pub m : Module
  pub is_read : m among modules
  pub number : ℕ
  pub its-segment : Source a.rules library m number by.m.segment
  pub its-fixup : ByFixup m name by.reference

-- some match refers to that very name at the address, and a valid match to a name of the same bytes
pub record Referred (library cells : List ℕ) (a : Asked) (modules : List Module) (name : Part) (address : ℕ) : Type 0 where
  pub noted-first : RefersTo library cells a modules name address
  pub own : Part
  pub same_bytes : bytes_of library own ≡ bytes_of library name
  pub noted-validly : RefersTo library cells a modules own address
  pub is-valid : is_valid a noted-validly.by.m.segment ≡ true
