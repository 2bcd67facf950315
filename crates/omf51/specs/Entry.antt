-- The entries of bodies. The fields of an entry stand one after another, so an entry is whole
-- if its last field ends within the body.
use Rattle.std.specs.Prelude.{ℕ, ◌+◌, ◌%◌, Bool, ◌||◌, List, eqb, leb, if◌then◌else◌}
use Rattle.std.specs.Int.Bits.{bit_and}
use Rattle.lent.specs.declared.part.Part.{Part}
use Rattle.lent.specs.Lists.{one}
use Rattle.lent.specs.Parts.{byte_at, word_at}
use Rattle.omf51.specs.declared.Frame.{Frame}
use Rattle.omf51.specs.declared.ModuleId.{ModuleId}
use Rattle.omf51.specs.declared.Definition.{Definition}
use Rattle.omf51.specs.declared.Definition.TheVariants.{Segment, Public, External}
use Rattle.omf51.specs.declared.Fixup.{Fixup}
use Rattle.omf51.specs.Reader.{read, stop, Reader, and_then, give}

-- a is read if its end `next` lies within the body, else the reader stops
unfoldable pub ending : {A : Type 0} → Frame → A → Reader A
ending f a next = if leb next f.end then read a next else stop

-- a name: a length byte and that many bytes, given as that part of the library
abbrev pub name_part : List ℕ → ℕ → Part
name_part library at = record { at = at + 1; len = byte_at library at }

-- the name at a place, if it ends within the body
abbrev pub name_at : List ℕ → Frame → Reader Part
name_at library f at = let n = byte_at library at in ending f (name_part library at) (at + 1 + n)

-- the name in the body of a header (2 bytes follow it) or of an end (4 bytes follow it); further bytes are dropped
abbrev pub name_with : ℕ → List ℕ → Frame → Reader Part
name_with more library f at = and_then (name_at library f at) λ name next. ending f name (next + more)

-- how many bytes an id has: two in records of odd type, otherwise one
abbrev pub id_size : Frame → ℕ
id_size f = 1 + f.kind % 2

-- the id at a place
abbrev pub id_at : List ℕ → Frame → ℕ → ModuleId
id_at library f at = record { 0 = if eqb (id_size f) 2 then word_at library at else byte_at library at }

-- the size of a segment: 0 if bit 80h of info is set, else the size in the file, where 0 means 65,536
abbrev pub segment_size : ℕ → ℕ → ℕ
segment_size info stored = if eqb (bit_and info 0x80) 0x80 then 0 else if eqb stored 0 then 65536 else stored

-- the record holds segments (with ids of one byte, or of two)
abbrev pub is_segment : Frame → Bool
is_segment f = eqb f.kind 0x0e || eqb f.kind 0x0f

-- the record holds public names; a definition record that holds neither segments nor these holds externals
abbrev pub is_public : Frame → Bool
is_public f = eqb f.kind 0x16 || eqb f.kind 0x17

-- how many bytes of an entry stand before its name: a segment is id, info, relocation, a byte, base (2), size (2),
-- name; a public name is id, info, offset (2), a byte, name; an external is block, id, info, a byte, name
abbrev pub name_offset : Frame → ℕ
name_offset f = id_size f + (if is_segment f then 7 else if is_public f then 4 else 3)

-- the definition that the entry at `at` says; a segment's base, a public name's info and an external's block are not looked at
unfoldable pub definition_of : List ℕ → Frame → ℕ → Part → Definition
definition_of library f at name =
    let w = at + id_size f in
    if is_segment f
    then Segment (id_at library f at) (byte_at library w) (byte_at library (w + 1)) (segment_size (byte_at library w) (word_at library (w + 5))) name
    else if is_public f then Public (id_at library f at) (word_at library (w + 1)) name
    else External (id_at library f (at + 1)) (byte_at library (w + 1)) name

-- the definition at a place, if its name, which comes last, ends within the body
unfoldable pub definition_at : List ℕ → Frame → Reader (List Definition)
definition_at library f at = and_then (name_at library f (at + name_offset f)) λ name. give (one (definition_of library f at name))

-- a fixup: location (2), kind, block, id, offset (2), and for block 3 a byte more
unfoldable pub fixup_at : List ℕ → Frame → Reader (List Fixup)
fixup_at library f at =
    let block = byte_at library (at + 3) in
    let w = at + 4 + id_size f in
    let next = w + 2 + (if eqb block 3 then 1 else 0) in
    let fixup : Fixup = record {
      location = word_at library at;
      kind = byte_at library (at + 2);
      block = block;
      id = id_at library f (at + 4);
      offset = word_at library w;
    } in
    ending f (one fixup) next
