-- Each number exactly in its case and order, and the image exactly that of the records: what a text imports as, in words.
-- Assumes nothing.
use Prim.Native.Nat.{ℕ, zero, suc, ◌+◌, ◌-◌, ◌≤◌, ◌<◌}
use Rattle.std.proofs.Math.Path.{◌≡◌, refl, ap}
use Rattle.std.proofs.Common.{sym, subst, ◌∙◌}
use Rattle.std.specs.Prelude.{◌↔◌, Bool, ◌||◌, Some, None, Ok, Err, List}
use Rattle.std.proofs.Math.Bool.{true, false}
use Rattle.std.proofs.Math.Option.{Option, none, some}
use Rattle.std.proofs.Math.Decide.{dec_lt}
use native.Mathlib.Omega.{arith}
use Rattle.std.proofs.Math.ListN.{length}
use Rattle.lent.specs.ChoiceLaws.{chosen}
use Rattle.lent.specs.Lists.{any, from}
use Rattle.intel_hex.specs.Outcome.{Made, made, refused}
use Rattle.intel_hex.specs.Digits.{bytes_at}
use Rattle.intel_hex.specs.Record.{size_at, address_at, kind_at, next_at, Step, data_record, record_at}
use Rattle.intel_hex.proofs.RecordCases.{Good, Lies, Faulty, found_at, found-is}
use Rattle.intel_hex.specs.Import.{Memory, nothing, given, is_given, any_given, end_after, image_of, after, walk, imported}
use Rattle.intel_hex.proofs.ImportLaws.{walk_at, walk-twice, walk-on}
use Rattle.intel_hex.specs.declared.HexRefusal.{HexRefusal}
use Rattle.intel_hex.specs.declared.HexRefusal.TheVariants.{ImageTooLong, NoRoom, BadText, WrongSum, OtherType, PastEnd, GivenTwice, NoEndRecord}

-- one of these addresses was given; none was
pub record SomeGiven (memory : Memory) (address size : ℕ) : Type 0 where
  pub place : ℕ
  pub from-there : address ≤ place
  pub before : place < address + size
  pub byte : ℕ
  pub there : memory place ≡ some byte

abbrev pub NoneGiven : Memory → ℕ → ℕ → Type 0
NoneGiven memory address size = (k : ℕ) → address ≤ k → k < address + size → memory k ≡ none

-- the records before a place are data, all good, and no byte of them was given twice; with what they give, and where that ends
pub data Reached (text : List ℕ) : ℕ → Memory → ℕ → Type 0 where
  start : Reached text 0 nothing 0
  more : {at end : ℕ} {memory : Memory} (address size next : ℕ) → Reached text at memory end → Lies text at address size next → NoneGiven memory address size
      → Reached text next (given address (bytes_at text (at + 9) size) memory) (end_after end address size)

-- what ends the import at a place: a fault of the record there, a byte of it given twice, or the end record
abbrev pub Refuses : List ℕ → ℕ → Memory → HexRefusal → Type 0
Refuses text at memory GivenTwice =
    Good text at × (kind_at text at ≡ 0) × (address_at text at + size_at text at ≤ 65536) × SomeGiven memory (address_at text at) (size_at text at)
Refuses text at memory ImageTooLong = ⊥
Refuses text at memory NoRoom = ⊥
Refuses text at memory BadText = Faulty text at BadText
Refuses text at memory WrongSum = Faulty text at WrongSum
Refuses text at memory OtherType = Faulty text at OtherType
Refuses text at memory PastEnd = Faulty text at PastEnd
Refuses text at memory NoEndRecord = Faulty text at NoEndRecord

abbrev pub Ends : List ℕ → ℕ → Memory → ℕ → Made → Type 0
Ends text at memory end (made image) = Good text at × (kind_at text at ≡ 1) × (image ≡ image_of memory end)
Ends text at memory end (refused r) = Refuses text at memory r

-- a text comes to an outcome: by the records before a place, and what ends the import there
pub record Comes (text : List ℕ) (m : Made) : Type 0 where
  pub at : ℕ
  pub memory : Memory
  pub end : ℕ
  pub reached : Reached text at memory end
  pub ends : Ends text at memory end m

-- tests on addresses, both ways
given-there : (o : Option ℕ) → is_given o ≡ true → (b : ℕ) × (o ≡ some b)
given-there none e = let z : ◌≡◌ {A = ℕ} 0 1 = cc in absurd (omega arith)
given-there (some b) e = (b, refl)

none-there : (o : Option ℕ) → is_given o ≡ false → o ≡ none
none-there none e = refl
none-there (some b) e = let z : ◌≡◌ {A = ℕ} 0 1 = cc in absurd (omega arith)

module _ (memory : Memory) where
  any_some : (size address : ℕ) → any_given memory address size ≡ true → SomeGiven memory address size
  unfolding any_given any from
  any_some zero address e = let z : ◌≡◌ {A = ℕ} 0 1 = cc in absurd (omega arith)
  any_some (suc size) address e = go (is_given (memory address)) refl e (any_some size (address + 1))
    where
      go : (t : Bool) → is_given (memory address) ≡ t → (t || any_given memory (address + 1) size) ≡ true
          → (any_given memory (address + 1) size ≡ true → SomeGiven memory (address + 1) size) → SomeGiven memory address (suc size)
      go true q p rest =
          let b = given-there (memory address) q in
          record { place = address; from-there = omega arith; before = omega arith; byte = b.0; there = b.1 }
      go false q p rest =
          let s = rest p in
          record { place = s.place; from-there = omega (arith, s.from-there); before = omega (arith, s.before); byte = s.byte; there = s.there }

  any_none : (size address : ℕ) → any_given memory address size ≡ false → NoneGiven memory address size
  unfolding any_given any from
  any_none zero address e k l m = absurd (omega arith)
  any_none (suc size) address e k l m = go (is_given (memory address)) refl e (any_none size (address + 1)) (dec_lt address k)
    where
      go : (t : Bool) → is_given (memory address) ≡ t → (t || any_given memory (address + 1) size) ≡ false
          → (any_given memory (address + 1) size ≡ false → NoneGiven memory (address + 1) size) → Dec (address < k) → memory k ≡ none
      go true q p rest d = let z : ◌≡◌ {A = ℕ} 0 1 = cc in absurd (omega arith)
      go false q p rest (yes h) = rest p k (omega arith) (omega arith)
      go false q p rest (no h) = let here : k ≡ address = omega arith in ap memory here ∙ none-there (memory address) q

  some-any : (size address : ℕ) → SomeGiven memory address size → any_given memory address size ≡ true
  some-any size address s = go (any_given memory address size) refl
    where
      go : (t : Bool) → any_given memory address size ≡ t → t ≡ true
      go true e = refl
      go false e =
          let q = sym s.there ∙ any_none size address e s.place s.from-there s.before in
          let z : ◌≡◌ {A = ℕ} 0 1 = cc in
          absurd (omega arith)

  none_any : (size address : ℕ) → NoneGiven memory address size → any_given memory address size ≡ false
  none_any size address n = go (any_given memory address size) refl
    where
      go : (t : Bool) → any_given memory address size ≡ t → t ≡ false
      go false e = refl
      go true e =
          let s = any_some size address e in
          let q = sym s.there ∙ n s.place s.from-there s.before in
          let z : ◌≡◌ {A = ℕ} 0 1 = cc in
          absurd (omega arith)

-- every text comes to what it imports as
module _ (text : List ℕ) where
  refuses : (at : ℕ) (memory : Memory) (r : HexRefusal) → Faulty text at r → Refuses text at memory r
  refuses at memory BadText f = f
  refuses at memory WrongSum f = f
  refuses at memory OtherType f = f
  refuses at memory PastEnd f = f
  refuses at memory NoEndRecord f = f
  refuses at memory ImageTooLong f = f
  refuses at memory NoRoom f = f
  refuses at memory GivenTwice f = absurd f

  comes : (fuel at : ℕ) (memory : Memory) (end : ℕ) → Reached text at memory end → length text - at < fuel → Comes text (walk text fuel at memory end)
  unfolding walk
  comes zero at memory end r h = absurd (omega arith)
  comes (suc fuel) at memory end r h = go (record_at text at) refl (comes fuel)
    where
      go : (t : Step) → record_at text at ≡ t
          → ((k : ℕ) (m : Memory) (e : ℕ) → Reached text k m e → length text - k < fuel → Comes text (walk text fuel k m e))
          → Comes text (after text at (walk text fuel) memory end t)
      go (Ok (Some d)) q rest =
          let l = found_at text at q in
          chosen (Comes text) (any_given memory d.address d.size)
          (λ e. record {
            at = at;
            memory = memory;
            end = end;
            reached = r;
            ends = (l.good, l.kind, omega (arith, l.fits, l.addressed, l.sizes), rw (l.addressed, l.sizes) at (any_some memory d.size d.address e));
          })
          (λ e. rest d.next (given d.address (bytes_at text (at + 9) d.size) memory) (end_after end d.address d.size)
          (more d.address d.size d.next r l (any_none memory d.size d.address e)) (omega (arith, h, l.nexts, l.good.within)))
      go (Ok None) q rest =
          let f = found_at text at q in
          record { at = at; memory = memory; end = end; reached = r; ends = (f.0, f.1, refl) }
      go (Err b) q rest = record { at = at; memory = memory; end = end; reached = r; ends = refuses at memory b (found_at text at q) }

  -- and to nothing else
  record Walked (at : ℕ) (memory : Memory) (end : ℕ) : Type 0 where
    fuel : ℕ
    enough : length text - at < fuel
    same : walk text fuel at memory end ≡ imported text

  walked : {at : ℕ} {memory : Memory} {end : ℕ} → Reached text at memory end → Walked at memory end
  walked start = record { fuel = length text + 1; enough = omega arith; same = refl }
  walked (more {at} {end} {memory} address size next r l n) =
      let w = walked r in
      record {
        fuel = w.fuel - 1;
        enough = omega (arith, w.enough, l.nexts, l.good.within);
        same = sym (walk-on text w.fuel at memory end address size next (omega (arith, w.enough)) (found-is text at (data_record address size next) l)
            (none_any memory size address n)) ∙ w.same;
      }

  module _ (at : ℕ) (memory : Memory) (end : ℕ) (w : Walked at memory end) where
    some-fuel : 0 < w.fuel
    some-fuel = omega (arith, w.enough)

    faulty-ends : (r : HexRefusal) → Faulty text at r → imported text ≡ refused r
    faulty-ends r f = sym w.same ∙ walk_at text w.fuel at memory end some-fuel (found-is text at (Err r) f)

    ended : (m : Made) → Ends text at memory end m → imported text ≡ m
    ended (made image) e =
        sym w.same
        ∙ walk_at text w.fuel at memory end some-fuel (found-is text at (Ok None) (e.0, e.1))
        ∙ ap made (sym e.2)
    ended (refused GivenTwice) e =
        let next = next_at text at in
        let l : Lies text at (address_at text at) (size_at text at) next =
        record { good = e.0; kind = e.1; addressed = refl; sizes = refl; nexts = refl; fits = e.2 } in
        sym w.same
        ∙ walk-twice text w.fuel at memory end (address_at text at) (size_at text at) next some-fuel
        (found-is text at (data_record (address_at text at) (size_at text at) next) l)
        (some-any memory (size_at text at) (address_at text at) e.3)
    ended (refused BadText) e = faulty-ends BadText e
    ended (refused WrongSum) e = faulty-ends WrongSum e
    ended (refused OtherType) e = faulty-ends OtherType e
    ended (refused PastEnd) e = faulty-ends PastEnd e
    ended (refused NoEndRecord) e = faulty-ends NoEndRecord e
    ended (refused ImageTooLong) e = absurd e
    ended (refused NoRoom) e = absurd e

  -- a text imports as an outcome exactly if it comes to it
  pub exactly : (m : Made) → (imported text ≡ m) ↔ Comes text m
  exactly m = (
    (λ e. subst (Comes text) e (comes (length text + 1) 0 nothing 0 start (omega arith))),
    (λ c. ended c.at c.memory c.end (walked c.reached) m c.ends),
  )
