-- The entries of a body: each is one or none, each takes a byte at least, and where those from a place on end. Assumes nothing.
use Rattle.std.specs.Prelude.{ℕ, ◌≤◌, ◌≡◌, refl, List, leb, length}
use Rattle.std.proofs.Common.{subst, leb-true}
use native.Mathlib.Omega.{arith}
use Rattle.lent.specs.ChoiceLaws.{chosen}
use Rattle.omf51.specs.declared.Frame.{Frame}
use Rattle.omf51.specs.Ends.{End}
use Rattle.std.specs.Prelude.{Some, None, Ok}
use Rattle.omf51.specs.declared.entry.Entries.{Entries}
use Rattle.omf51.specs.declared.entry.Entries.TheVariants.{Definitions, Fixups}
use Rattle.omf51.specs.Reader.{ReadOutcome, read, stop, and_then, give}
use Rattle.omf51.specs.Entry.{ending, definition_at, fixup_at}
use Rattle.omf51.specs.Ends.{end_of, entry_end, rest_end, entries_end}
use Rattle.library.specs.RepeatLaws.{Moved, Moves}
use Rattle.library.specs.EndLaws.{after_end, then_end, MovedEnd, end-turn, moved-end, Gave, entries-after}

-- what holds of an entry that ends within the body, and of a stop
ending-is : {A : Type 0} (P : ReadOutcome A → Type 0) (f : Frame) (a : A) (next : ℕ) → (next ≤ f.end → P (read a next)) → P stop → P (ending f a next)
unfolding ending
ending-is P f a next h n = chosen P (leb next f.end) (λ e. h (leb-true next f.end e)) (λ e. n)

ending-shows : {A B : Type 0} (P : ReadOutcome B → Type 0) (f : Frame) (a : A) (next : ℕ) (g : A → B) → (next ≤ f.end → P (read (g a) next)) → P stop
    → P (and_then (ending f a next) λ a. give (g a))
ending-shows P f a next g h n = ending-is (λ o. P (and_then o λ a. give (g a))) f a next h n

pub definition-gave : (library : List ℕ) (f : Frame) (at : ℕ) → Gave (definition_at library f at)
unfolding definition_at
definition-gave library f at = ending-shows Gave f _ _ _ (λ l. tt) tt

pub fixup-gave : (library : List ℕ) (f : Frame) (at : ℕ) → Gave (fixup_at library f at)
unfolding fixup_at
fixup-gave library f at = ending-is Gave f _ _ (λ l. tt) tt

-- no entry stands at a body's end or behind it
pub entry-none : (what : Entries) (library : List ℕ) (f : Frame) (at : ℕ) → f.end ≤ at → entry_end what library f at ≡ Ok None
unfolding definition_at fixup_at
entry-none Definitions library f at h = ending-shows (λ o. end_of o ≡ Ok None) f _ _ _ (λ l. absurd (omega (arith, l, h))) refl
entry-none Fixups library f at h = ending-is (λ o. end_of o ≡ Ok None) f _ _ (λ l. absurd (omega (arith, l, h))) refl

-- of a body within the library
module _ (library : List ℕ) (f : Frame) (h : f.end ≤ length library) where
  definition-moves : Moves library (definition_at library f)
  unfolding definition_at
  definition-moves at = ending-shows (Moved library at) f _ _ _ (λ l. (omega arith, omega (arith, l, h))) tt

  fixup-moves : Moves library (fixup_at library f)
  unfolding fixup_at
  fixup-moves at = ending-is (Moved library at) f _ _ (λ l. (omega arith, omega (arith, l, h))) tt

  -- the turn of its entries, from one to the next
  pub rest-turn : (what : Entries) (at : ℕ) {x : End} → entry_end what library f at ≡ x → rest_end what library f at ≡ after_end (rest_end what library f) at x
  rest-turn Definitions at q = end-turn library (definition_at library f) definition-moves at q
  rest-turn Fixups at q = end-turn library (fixup_at library f) fixup-moves at q

  pub rest-used : (what : Entries) (at : ℕ) → f.end ≤ at → rest_end what library f at ≡ Ok (Some at)
  rest-used what at l = rest-turn what at (entry-none what library f at l)

  pub entry-moved : (what : Entries) (at : ℕ) {x : End} → entry_end what library f at ≡ x → MovedEnd library at x
  entry-moved Definitions at q = subst (MovedEnd library at) q (moved-end library at (definition_at library f at) (definition-moves at))
  entry-moved Fixups at q = subst (MovedEnd library at) q (moved-end library at (fixup_at library f at) (fixup-moves at))

  -- and all of them, by the first
  pub entries-known : (what : Entries) {x : End} → entry_end what library f f.body ≡ x → entries_end what library f ≡ then_end (rest_end what library f) x
  entries-known Definitions q = entries-after library (definition_at library f) (definition-gave library f) definition-moves f.body q
  entries-known Fixups q = entries-after library (fixup_at library f) (fixup-gave library f) fixup-moves f.body q
