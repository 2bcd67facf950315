-- The target of a reference: the address that its bytes in the view give, less the fixup's offset. Sums wrap at 64 bits,
-- and under rule set 1, as documented, the target at 16.
use Rattle.std.specs.Prelude.{ℕ, ◌+◌, ◌-◌, ◌*◌, ◌/◌, ◌%◌, ◌^◌, Bool, List, length, ◌==◌, nat_lt, if◌then◌else◌}
use Rattle.std.proofs.Math.Option.{Option, none, some}
use Rattle.lent.specs.Lists.{all, from}
use Rattle.image.specs.View.{cell_at, is_byte}
use Rattle.image.specs.declared.fixup.Rules.{Rules}
use Rattle.image.specs.declared.fixup.Rules.TheVariants.{AsFound, Documented}
use Rattle.image.specs.declared.fixup.Kind.{Kind}
use Rattle.image.specs.declared.fixup.Kind.TheVariants.{Relative, Word, Inblock}
use Rattle.image.specs.declared.fixup.Target.{Target}
use Rattle.image.specs.declared.fixup.Target.TheVariants.{At, PastEnd, Withheld}

-- the rule set of a number: every number but 1 counts as 0 (a run refuses numbers above 1)
abbrev pub rules_of : ℕ → Rules
rules_of n = if n == 1 then Documented else AsFound

-- the number of a kind in the file
abbrev pub kind_number : Kind → ℕ
kind_number Relative = 2
kind_number Word = 4
kind_number Inblock = 5

-- an address of 11 bits within the page of the place after the instruction, kept to 16 bits
abbrev pub page11 : ℕ → ℕ → ℕ → ℕ
page11 next top b = (next / 2048 * 2048 + 256 * top + b) % 65536

-- the kind of a number; fixups of other numbers leave no reference
abbrev pub kind_of : ℕ → Option Kind
kind_of n =
    if n == 2 then some Relative
    else if n == 4 then some Word
    else if n == 5 then some Inblock
    else none

-- the address of a target, if it has one
abbrev pub address_in : Target → Option ℕ
address_in (At t) = some t
address_in PastEnd = none
address_in Withheld = none

-- a sum at 64 bits
abbrev pub plus : ℕ → ℕ → ℕ
plus a b = (a + b) % 2 ^ 64

-- a difference at 64 bits
abbrev pub minus : ℕ → ℕ → ℕ
minus a b = (a + (2 ^ 64 - b % 2 ^ 64)) % 2 ^ 64

-- a byte as a signed number at 64 bits: 80h and above stand for a - 256
abbrev pub signed : ℕ → ℕ
signed a = if nat_lt a 128 then a else a + (2 ^ 64 - 256)

-- the address of two bytes, high byte first
abbrev pub addr16 : ℕ → ℕ → ℕ
addr16 a b = 256 * a + b

-- the top three bits of an Inblock's first byte; under rule set 0, as found, they count as 0
abbrev pub top_bits : Rules → ℕ → ℕ
top_bits AsFound a = 0
top_bits Documented a = a / 32

-- pos + 2 with its low 11 bits cleared, plus 256 times the top bits of the first byte, plus the second byte, kept to 16 bits
abbrev pub addr11 : Rules → ℕ → ℕ → ℕ → ℕ
addr11 rules pos a b = (plus pos 2 / 2048 * 2048 + 256 * top_bits rules a + b) % 65536

-- the address to which the bytes a and b at `pos` lead
abbrev pub leads_to : Rules → ℕ → Kind → ℕ → ℕ → ℕ
leads_to rules pos Relative a b = plus (plus pos 1) (signed a)
leads_to rules pos Word a b = addr16 a b
leads_to rules pos Inblock a b = addr11 rules pos a b

-- how many bytes a reference of a kind reads
abbrev pub reads : Kind → ℕ
reads Relative = 1
reads Word = 2
reads Inblock = 2

-- the n cells at `pos` pass the view's end
abbrev pub passes : List ℕ → ℕ → ℕ → Bool
passes cells pos n = nat_lt (length cells) (pos + n)

-- none of the n cells at `pos` is withheld
unfoldable pub shown : List ℕ → ℕ → ℕ → Bool
shown cells pos n = all (λ i. is_byte (cell_at cells (pos + i))) (from 0 n)

-- a target as the program counter holds it: as documented it has 16 bits, as found a target keeps its 64
abbrev pub counted : Rules → ℕ → ℕ
counted AsFound t = t
counted Documented t = t % 65536

-- the target of a reference that reads at `pos`. There is none if its cells pass the view's end, or, where they do not, if
-- one of them is withheld. Else the fixup's offset is subtracted from the address, and then the program counter wraps
unfoldable pub target : List ℕ → Rules → ℕ → Kind → ℕ → Target
target cells rules pos kind offset =
    if passes cells pos (reads kind) then PastEnd
    else if shown cells pos (reads kind) then At (counted rules (minus (leads_to rules pos kind (cell_at cells pos) (cell_at cells (pos + 1))) offset))
    else Withheld
