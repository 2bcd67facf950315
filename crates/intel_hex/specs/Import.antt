-- Import: the records of a text, one after another up to the end record, give the bytes of an image.
use Rattle.std.specs.Prelude.{ℕ, zero, suc, ◌+◌, ◌-◌, max, Bool, true, false, ◌&&◌, Some, None, Ok, Err, List, map, leb, ltb, eqb, length, get_or, if◌then◌else◌}
use Rattle.std.proofs.Math.Option.{Option, none, some}
use Rattle.lent.specs.Lists.{any, from}
use Rattle.intel_hex.specs.Digits.{bytes_at}
use Rattle.intel_hex.specs.Outcome.{Made, made, refused}
use Rattle.intel_hex.specs.Record.{Step, record_at}
use Rattle.intel_hex.specs.declared.HexRefusal.TheVariants.{GivenTwice, NoEndRecord}

-- what the records so far give: for each address its byte, if there is one
abbrev pub Memory : Type 0
Memory = ℕ → Option ℕ

abbrev pub nothing : Memory
nothing k = none

-- these bytes are given too, the first at an address
unfoldable pub given : ℕ → List ℕ → Memory → Memory
given address bytes memory k =
    if leb address k && ltb k (address + length bytes) then some (get_or bytes (k - address) 0) else memory k

-- one of the size addresses from this one on was given
abbrev pub is_given : Option ℕ → Bool
is_given none = false
is_given (some b) = true

unfoldable pub any_given : Memory → ℕ → ℕ → Bool
any_given memory address size = any (λ k. is_given (memory k)) (from address size)

-- the image ends behind the highest byte that was given; a record with no bytes moves nothing
abbrev pub end_after : ℕ → ℕ → ℕ → ℕ
end_after end address size = if eqb size 0 then end else max end (address + size)

-- the image: a byte that was never given is FFh
abbrev pub byte_or : Option ℕ → ℕ
byte_or none = 0xFF
byte_or (some b) = b

unfoldable pub image_of : Memory → ℕ → List ℕ
image_of memory end = map (λ k. byte_or (memory k)) (from 0 end)

-- what follows a step at a place, where `rest` says what the text from a later place on comes to
abbrev pub after : List ℕ → ℕ → (ℕ → Memory → ℕ → Made) → Memory → ℕ → Step → Made
after text at rest memory end (Ok (Some d)) =
    if any_given memory d.address d.size then refused GivenTwice
    else rest d.next (given d.address (bytes_at text (at + 9) d.size) memory) (end_after end d.address d.size)
after text at rest memory end (Ok None) = made (image_of memory end)
after text at rest memory end (Err r) = refused r

-- the text from a place on, with what the records before it gave. The fuel is a bound on the records still to come: one
-- more than the text has bytes is always enough, since a record is at least eleven bytes long
unfoldable pub walk : List ℕ → ℕ → ℕ → Memory → ℕ → Made
walk text zero at memory end = refused NoEndRecord
walk text (suc fuel) at memory end = after text at (walk text fuel) memory end (record_at text at)

-- what a text imports as
abbrev pub imported : List ℕ → Made
imported text = walk text (length text + 1) 0 nothing 0
