-- A thing that is linked, in one number of 64 bits: its key (16 bits), its place in the library (20 bits), and the link
-- to the next thing of its key (28 bits). A table of things has the three as lists.
use Rattle.std.specs.Prelude.{ℕ, ◌+◌, ◌*◌, ◌/◌, ◌%◌, List, map}

unfoldable pub thing_key : ℕ → ℕ
thing_key thing = thing % 65536

unfoldable pub thing_place : ℕ → ℕ
thing_place thing = thing / 65536 % 1048576

unfoldable pub thing_next : ℕ → ℕ
thing_next thing = thing / 68719476736 % 268435456

-- a thing that is not linked yet, and a thing with another link
unfoldable pub thing_of : ℕ → ℕ → ℕ
thing_of key place = key + 65536 * place

unfoldable pub linked_to : ℕ → ℕ → ℕ
linked_to thing link = thing % 68719476736 + 68719476736 * link

unfoldable pub keys_of : List ℕ → List ℕ
keys_of things = map thing_key things

unfoldable pub places_of : List ℕ → List ℕ
places_of things = map thing_place things

unfoldable pub next_of : List ℕ → List ℕ
next_of things = map thing_next things
