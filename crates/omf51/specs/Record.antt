-- One record: a type byte, two bytes of length, a body of length - 1 bytes, and a checksum byte. Edition 1 does not
-- examine the checksum, nor what is left of a body; edition 2 does.
use Rattle.std.specs.Prelude.{ℕ, ◌+◌, ◌-◌, ◌%◌, Bool, false, List, eqb, ltb, length, take, drop, if◌then◌else◌}
use Rattle.lent.specs.declared.refusal.Refusal.TheVariants.{BodyPastEnd, LengthZero, WrongSum, LeftOver}
use Rattle.lent.specs.Lists.{total}
use Rattle.lent.specs.Parts.{byte_at, word_at}
use Rattle.omf51.specs.declared.Edition.{Edition}
use Rattle.omf51.specs.declared.Edition.TheVariants.{One, Two}
use Rattle.omf51.specs.declared.Frame.{Frame}
use Rattle.omf51.specs.Reader.{read, stop, refused, Reader, and_then}

-- the record at a place, whatever its type; the reader stops where a length byte or the checksum byte is missing
unfoldable pub frame_at : List ℕ → Reader Frame
frame_at library at =
    let len = word_at library (at + 1) in
    if ltb (length library) (at + 3) then stop
    else if eqb len 0 then refused LengthZero
    else if ltb (length library) (at + 2 + len) then refused BodyPastEnd
    else if ltb (length library) (at + 3 + len) then stop
    else read (record { kind = byte_at library at; body = at + 3; end = at + 2 + len }) (at + 3 + len)

-- the record at a place if its type is allowed there, else a stop: the type byte alone decides
unfoldable pub expected : List ℕ → (ℕ → Bool) → Reader Frame
expected library allowed at = if allowed (byte_at library at) then frame_at library at else stop

-- the edition of a number: 2, or else 1 (any other number is refused before anything is read)
abbrev pub edition_of : ℕ → Edition
edition_of n = if eqb n 2 then Two else One

-- the sum, modulo 256, of all bytes of the record from `at` up to `next`, its checksum included
unfoldable pub record_sum : List ℕ → ℕ → ℕ → ℕ
record_sum library at next = total (λ byte. byte) (take (next - at) (drop at library)) % 256

-- 14: edition 2 refuses a record that does not sum to 0, before its body is looked at
abbrev pub summed : List ℕ → ℕ → Frame → Reader Frame
summed library at f next = if eqb (record_sum library at next) 0 then read f next else refused WrongSum

-- the record that is expected at a place, in an edition
unfoldable pub expected_by : Edition → List ℕ → (ℕ → Bool) → Reader Frame
expected_by One library allowed at = expected library allowed at
expected_by Two library allowed at = and_then (expected library allowed at) (summed library at)

-- bytes are left over behind what was read up to `left`, which should have gone up to `end`; edition 1 passes them over
abbrev pub leaves_over : Edition → ℕ → ℕ → Bool
leaves_over One left end = false
leaves_over Two left end = ltb left end

-- 15: edition 2 refuses bytes that are left over
abbrev pub used_up : {A : Type 0} → Edition → ℕ → A → ℕ → Reader A
used_up e end a left next = if leaves_over e left end then refused LeftOver else read a next

-- a body that holds no entries, and is taken whole
abbrev pub whole : {A : Type 0} → A → Frame → Reader A
whole a f at = read a f.end

-- a record of an allowed type, with its body read by `inner`
unfoldable pub record_by : {A : Type 0} → Edition → List ℕ → (ℕ → Bool) → (Frame → Reader A) → Reader A
record_by e library allowed inner at =
    and_then (expected_by e library allowed at) λ f next. and_then (inner f f.body) λ a left. used_up e f.end a left next

-- in edition 1
abbrev pub record_of : {A : Type 0} → List ℕ → (ℕ → Bool) → (Frame → Reader A) → Reader A
record_of = record_by One
