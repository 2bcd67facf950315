-- READING, PLACE BY PLACE: to which places of the file reading comes, what is expected there, and where it ends. Each
-- constructor stands beside the words of document 01, "Reading the file", that it says, and beside document 02's W-205 for
-- edition 2. This file states them; ReachesLaws.antt and OnePath.antt prove that `file_by` ends exactly so.
use Rattle.std.specs.Prelude.{ℕ, zero, suc, ◌+◌, ◌≤◌, ◌<◌, ◌≡◌, Bool, true, false, not, ◌||◌, List, eqb, leb, length, if◌then◌else◌}
use Rattle.std.proofs.Math.Option.{Option, none, some}
use Rattle.lent.specs.declared.part.Part.{Part}
use Rattle.lent.specs.declared.refusal.Refusal.{Refusal}
use Rattle.lent.specs.declared.refusal.Refusal.TheVariants.{RuleSet, ImageTooLong, LibraryTooLong, StretchPastEnd, NoModule, BodyPastEnd, LengthZero, NamesDiffer, TooFewRows, UnknownKind}
use Rattle.lent.specs.declared.refusal.Refusal.TheVariants.{UnknownBlock, ContentPastSegment, NoKeptSegment, WrongSum, LeftOver, TooManyStretches, TooDeep, NotBanked, OtherEdition}
use Rattle.lent.specs.Parts.{byte_at, word_at, same_name}
use Rattle.omf51.specs.declared.Edition.{Edition}
use Rattle.omf51.specs.declared.Edition.TheVariants.{One, Two}
use Rattle.omf51.specs.declared.Frame.{Frame}
use Rattle.omf51.specs.Record.{record_sum}
use Rattle.omf51.specs.Entry.{id_size, name_offset}
use Rattle.omf51.specs.Module.{is_known, defines, fills, fixes, is_idle}

-- a module that is being read: how many modules were read before it, where it starts, and the name in its header
pub record Begun : Type 0 where
  pub before : ℕ
  pub start : ℕ
  pub name : Part

-- what is expected at a place: the 2Ch record; a header, after so many modules; definitions, contents, fixups or
-- the end of a module; the closing records 28h, 26h, 2Ah
pub data State : Type 0 where
  opening : State
  header : ℕ → State
  definitions : Begun → State
  contents : Begun → State
  fixups : Begun → State
  ending : Begun → State
  closing28 : State
  closing26 : State
  closing_2a : State

-- "at each point the type byte alone decides": the types that are allowed there
abbrev pub expects : State → ℕ → Bool
expects opening = eqb 0x2c
expects (header k) = eqb 0x02
expects (definitions m) = λ type. defines type || not (is_known type)
expects (contents m) = λ type. fills type || is_idle type
expects (fixups m) = fixes
expects (ending m) = eqb 0x04
expects closing28 = eqb 0x28
expects closing26 = eqb 0x26
expects closing_2a = eqb 0x2a

-- where the entries of a body end: whole ones follow one another, up to a place where no further one fits; the count
-- only bounds them, since each takes a byte at least (OutcomeLaws.antt, `definitions-last`, `fixups-last`)
unfoldable pub entries_end : (ℕ → ℕ) → ℕ → ℕ → ℕ → ℕ
entries_end entry end zero k = k
entries_end entry end (suc n) k = if leb (entry k) end then entries_end entry end n (entry k) else k

module _ (library : List ℕ) where
  -- "a record is type byte, two-byte little-endian length, body, one checksum byte": the length at a place, the record
  -- as it would stand there (its body has length - 1 bytes), and the place behind the checksum byte
  abbrev pub length_at : ℕ → ℕ
  length_at at = word_at library (at + 1)

  abbrev pub frame_of : ℕ → Frame
  frame_of at = record { kind = byte_at library at; body = at + 3; end = at + 2 + length_at at }

  abbrev pub behind : ℕ → ℕ
  behind at = at + 3 + length_at at

  -- the name with which the body of the record at a place begins: "a length byte and that many bytes"
  abbrev pub name_in : ℕ → Part
  name_in at = record { at = at + 3 + 1; len = byte_at library (at + 3) }

  -- where the definition, or the fixup, at a place of a body would end
  abbrev pub definition_end : Frame → ℕ → ℕ
  definition_end f k = let p = k + name_offset f in p + 1 + byte_at library p

  abbrev pub fixup_end : Frame → ℕ → ℕ
  fixup_end f k = k + 4 + id_size f + 2 + (if eqb (byte_at library (k + 3)) 3 then 1 else 0)

  -- where the least that a body must hold ends: a name and two bytes in a header, a name and four in an end, id and
  -- offset in a content; "definition and fixup bodies hold at least one whole entry"; any other body may be empty
  abbrev pub least : State → Frame → ℕ
  least opening f = f.body
  least (header k) f = f.body + 1 + byte_at library f.body + 2
  least (definitions m) f = if defines f.kind then definition_end f f.body else f.body
  least (contents m) f = if fills f.kind then f.body + id_size f + 2 else f.body
  least (fixups m) f = fixup_end f f.body
  least (ending m) f = f.body + 1 + byte_at library f.body + 4
  least closing28 f = f.body
  least closing26 f = f.body
  least closing_2a f = f.body

  -- where what is read of a body ends: definitions and fixups, the name in a header or an end with the bytes behind it;
  -- the data of a content and "bodies of skipped records and of 2Ch, 28h, 26h and 2Ah" are "taken whole"
  abbrev pub used : State → Frame → ℕ
  used opening f = f.end
  used (header k) f = least (header k) f
  used (definitions m) f = if defines f.kind then entries_end (definition_end f) f.end (suc (length library)) f.body else f.end
  used (contents m) f = f.end
  used (fixups m) f = entries_end (fixup_end f) f.end (suc (length library)) f.body
  used (ending m) f = least (ending m) f
  used closing28 f = f.end
  used closing26 f = f.end
  used closing_2a f = f.end

module _ (library : List ℕ) (s : State) (at : ℕ) where
  abbrev len : ℕ
  len = length_at library at

  -- an allowed type, both length bytes
  pub record Expected : Type 0 where
    pub allowed : expects s (byte_at library at) ≡ true
    pub lengths : at + 3 ≤ length library

  -- 7: "a record expected here has length 0"
  pub record HasLengthZero : Type 0 where
    pub expected : Expected
    pub zero-length : len ≡ 0

  -- 6: "the body (length - 1 bytes) of a record expected here passes the file's end"
  pub record HasBodyPastEnd : Type 0 where
    pub expected : Expected
    pub long : len ≡ 0 → ⊥
    pub past : length library < at + 2 + len

  -- a whole record, its checksum byte too
  pub record Whole : Type 0 where
    pub expected : Expected
    pub long : len ≡ 0 → ⊥
    pub closed : at + 3 + len ≤ length library

-- edition 1: "the checksum is not examined"; edition 2: "all bytes of a record, its checksum included, sum to 0 modulo 256"
abbrev pub Summed : Edition → List ℕ → ℕ → Type 0
Summed One library at = Unit
Summed Two library at = record_sum library at (behind library at) ≡ 0

-- edition 2 "wants" what was read to be used up: it ends where it should
abbrev pub UsedUp : Edition → ℕ → ℕ → Type 0
UsedUp One last end = Unit
UsedUp Two last end = end ≤ last

module _ (e : Edition) (library : List ℕ) where
  module _ (s : State) (at : ℕ) where
    abbrev f : Frame
    f = frame_of library at

    -- 14: "wrong record sum, tested once the checksum byte is reached and before the body is looked at"
    pub record HasWrongSum : Type 0 where
      pub second : e ≡ Two
      pub whole : Whole library s at
      pub wrong : record_sum library at (behind library at) ≡ 0 → ⊥

    -- 15: "bytes left over, in a body after its entries are read"
    pub record HasLeftOver : Type 0 where
      pub second : e ≡ Two
      pub whole : Whole library s at
      pub summed : Summed e library at
      pub body : least library s f ≤ f.end
      pub left : used library s f < f.end

    -- a whole record with a body that its reader takes; in edition 2 it sums to 0, and its body is used up
    pub record Taken : Type 0 where
      pub whole : Whole library s at
      pub summed : Summed e library at
      pub body : least library s f ≤ f.end
      pub used-up : UsedUp e (used library s f) f.end

    -- "type not allowed here, or fewer than two length bytes, or no checksum byte, or a body its reader rejects"
    pub data Stops : Type 0 where
      other-type : expects s (byte_at library at) ≡ false → Stops
      no_lengths : expects s (byte_at library at) ≡ true → length library < at + 3 → Stops
      no-checksum : Expected library s at → (length_at library at ≡ 0 → ⊥) → length library ≡ at + 2 + length_at library at → Stops
      rejected : Whole library s at → Summed e library at → f.end < least library s f → Stops

  -- READING COMES TO THIS PLACE, expecting this
  pub data ComesTo : State → ℕ → Type 0 where
    -- a file that begins with 2Ch is a library; any other is a file of bare modules
    is-library : byte_at library 0 ≡ 0x2c → ComesTo opening 0
    is-bare : (byte_at library 0 ≡ 0x2c → ⊥) → ComesTo (header 0) 0
    opened : (at : ℕ) → ComesTo opening at → Taken opening at → ComesTo (header 0) (behind library at)
    -- "module: header 02h;"
    headed : (k at : ℕ) → ComesTo (header k) at → Taken (header k) at
        → ComesTo (definitions (record { before = k; start = at; name = name_in library at })) (behind library at)
    -- "definitions 0Eh/0Fh segment, 16h/17h public, 18h/19h external, or any type outside `KNOWN_TYPES`, skipped;"
    defined : (m : Begun) (at : ℕ) → ComesTo (definitions m) at → Taken (definitions m) at → ComesTo (definitions m) (behind library at)
    all-defined : (m : Begun) (at : ℕ) → ComesTo (definitions m) at → Stops (definitions m) at → ComesTo (contents m) at
    -- "then contents 06h/07h, each followed at once by any number of 08h/09h fixup records,"
    filled : (m : Begun) (at : ℕ) → ComesTo (contents m) at → Taken (contents m) at → fills (byte_at library at) ≡ true → ComesTo (fixups m) (behind library at)
    fixed : (m : Begun) (at : ℕ) → ComesTo (fixups m) at → Taken (fixups m) at → ComesTo (fixups m) (behind library at)
    all-fixed : (m : Begun) (at : ℕ) → ComesTo (fixups m) at → Stops (fixups m) at → ComesTo (contents m) at
    -- "mixed with skipped records of unknown type or 10h, 12h, 13h;"
    skipped : (m : Begun) (at : ℕ) → ComesTo (contents m) at → Taken (contents m) at → fills (byte_at library at) ≡ false → ComesTo (contents m) (behind library at)
    -- "end 04h": where the names are the same a further module may follow
    all-filled : (m : Begun) (at : ℕ) → ComesTo (contents m) at → Stops (contents m) at → ComesTo (ending m) at
    ended : (m : Begun) (at : ℕ) → ComesTo (ending m) at → Taken (ending m) at → same_name library m.name (name_in library at) ≡ true
        → ComesTo (header (suc m.before)) (behind library at)
    -- "a 2Ch library must go on to its three closing records", from the place before the module that can't be read
    no_header : (k at : ℕ) → byte_at library 0 ≡ 0x2c → ComesTo (header (suc k)) at → Stops (header (suc k)) at → ComesTo closing28 at
    no_end : (m : Begun) (at : ℕ) → byte_at library 0 ≡ 0x2c → ComesTo (ending m) at → Stops (ending m) at → 0 < m.before
        → ComesTo closing28 m.start
    closed28 : (at : ℕ) → ComesTo closing28 at → Taken closing28 at → ComesTo closing26 (behind library at)
    closed26 : (at : ℕ) → ComesTo closing26 at → Taken closing26 at → ComesTo closing_2a (behind library at)

  -- 6, 7, 14 and 15 "end the whole reading at once"
  pub record BodyPasses : Type 0 where
    pub state : State
    pub at : ℕ
    pub comes : ComesTo state at
    pub here : HasBodyPastEnd library state at

  pub record LengthIsZero : Type 0 where
    pub state : State
    pub at : ℕ
    pub comes : ComesTo state at
    pub here : HasLengthZero library state at

  -- 8: "a whole module's header and end names differ"
  pub record NamesApart : Type 0 where
    pub begun : Begun
    pub at : ℕ
    pub comes : ComesTo (ending begun) at
    pub taken : Taken (ending begun) at
    pub differ : same_name library begun.name (name_in library at) ≡ false

  -- 5: "no first module can be read, or a 2Ch library lacks its 28h, 26h, 2Ah records in that order after its modules"
  pub data NothingRead : Type 0 where
    no-opening : (at : ℕ) → ComesTo opening at → Stops opening at → NothingRead
    no-first-header : (at : ℕ) → ComesTo (header 0) at → Stops (header 0) at → NothingRead
    no-first-end : (m : Begun) (at : ℕ) → ComesTo (ending m) at → Stops (ending m) at → m.before ≡ 0 → NothingRead
    lacks-28 : (at : ℕ) → ComesTo closing28 at → Stops closing28 at → NothingRead
    lacks-26 : (at : ℕ) → ComesTo closing26 at → Stops closing26 at → NothingRead
    lacks-2a : (at : ℕ) → ComesTo closing_2a at → Stops closing_2a at → NothingRead

  -- all modules are read, up to a place: behind the three closing records; or, in "a file of bare modules", before a
  -- later module that can't be read, which "keeps the modules read so far and ignores the rest"
  pub data AllRead : ℕ → Type 0 where
    closed_2a : (at : ℕ) → ComesTo closing_2a at → Taken closing_2a at → AllRead (behind library at)
    bare-header : (k at : ℕ) → (byte_at library 0 ≡ 0x2c → ⊥) → ComesTo (header (suc k)) at → Stops (header (suc k)) at → AllRead at
    bare-end : (m : Begun) (at : ℕ) → (byte_at library 0 ≡ 0x2c → ⊥) → ComesTo (ending m) at → Stops (ending m) at → 0 < m.before → AllRead m.start

  -- 14
  pub record SumIsWrong : Type 0 where
    pub state : State
    pub at : ℕ
    pub comes : ComesTo state at
    pub here : HasWrongSum state at

  -- 15: in a body, or "in the file at its end"
  pub data LeavesOver : Type 0 where
    in_body : (s : State) (at : ℕ) → ComesTo s at → HasLeftOver s at → LeavesOver
    in-file : (last : ℕ) → e ≡ Two → AllRead last → last < length library → LeavesOver

  -- none of them; edition 2 "wants the file used up"
  pub record FileRead : Type 0 where
    pub last : ℕ
    pub all : AllRead last
    pub used-up : UsedUp e last (length library)

  -- how reading ends: with one of 5 to 8, 14 and 15, or with none
  abbrev pub Ends : Option Refusal → Type 0
  Ends none = FileRead
  Ends (some RuleSet) = ⊥
  Ends (some ImageTooLong) = ⊥
  Ends (some LibraryTooLong) = ⊥
  Ends (some StretchPastEnd) = ⊥
  Ends (some NoModule) = NothingRead
  Ends (some BodyPastEnd) = BodyPasses
  Ends (some LengthZero) = LengthIsZero
  Ends (some NamesDiffer) = NamesApart
  Ends (some TooFewRows) = ⊥
  Ends (some UnknownKind) = ⊥
  Ends (some UnknownBlock) = ⊥
  Ends (some ContentPastSegment) = ⊥
  Ends (some NoKeptSegment) = ⊥
  Ends (some WrongSum) = SumIsWrong
  Ends (some LeftOver) = LeavesOver
  Ends (some TooManyStretches) = ⊥
  Ends (some TooDeep) = ⊥
  Ends (some NotBanked) = ⊥
  Ends (some OtherEdition) = ⊥
