-- Which public definitions a segment carries, by the tests of the code. Assumes nothing.
use Rattle.std.specs.Prelude.{ℕ, ◌+◌, ◌-◌, ◌<◌, ◌≤◌, ◌≡◌, refl, Bool, true, false, ◌&&◌, List, [], leb, ltb}
use Rattle.std.proofs.Common.{sym, arith, lt-ltb, le-ltb, le-leb, ltb-true, ltb-false}
use Rattle.std.proofs.lemmas.Bool.{lt-leb}
use Rattle.lent.specs.Lists.{one}
use Rattle.lent.specs.Parts.{byte_at, word_at}
use Rattle.omf51.specs.declared.ModuleId.{ModuleId}
use Rattle.module_index.specs.gather.Places.{public_at}
use Rattle.segment_parts.specs.declared.carried.Carried.{Carried}
use Rattle.segment_parts.specs.declared.carried.Carried.TheVariants.{All, Inside}
use Rattle.segment_parts.specs.AddedSymbols.{carries_at, base_of, symbol_by}

pub inside-test : (at len offset : ℕ) → at ≤ offset → ltb (offset - at) len ≡ (leb at offset && ltb offset (at + len))
inside-test at len offset h = rw (le-leb at offset h) (go (ltb (offset - at) len) refl)
  where
    go : (t : Bool) → ltb (offset - at) len ≡ t → t ≡ ltb offset (at + len)
    go true e = sym (lt-ltb offset (at + len) (omega (arith, ltb-true (offset - at) len e)))
    go false e = sym (le-ltb offset (at + len) (omega (arith, ltb-false (offset - at) len e)))

module _ {c : Carried} {at len : ℕ} {own : Bool} (e : c ≡ Inside (record { at = at; len = len; own = own })) (offset : ℕ) where
  pub not_carried : offset < at → false ≡ carries_at c offset
  not_carried h = rw (e, lt-leb at offset h) refl

  pub carried-inside : at ≤ offset → ltb (offset - at) len ≡ carries_at c offset
  carried-inside h = rw e (inside-test at len offset h)

  pub own-offset : own ≡ true → offset - at ≡ offset - base_of c
  own-offset o = rw (e, o) refl

  pub plain-offset : own ≡ false → offset ≡ offset - base_of c
  plain-offset o = rw (e, o) (omega arith)

pub all-carried : {c : Carried} (offset : ℕ) → c ≡ All → offset ≡ offset - base_of c
all-carried offset e = rw e (omega arith)

-- the symbol of a public definition that is read again
module _ (library : List ℕ) (place : ℕ) (c : Carried) (id : ModuleId) where
  pub symbol-carried : carries_at c (word_at library place) ≡ true
      → symbol_by c (public_at library id place) ≡ one (record { name = record { at = place + 4; len = byte_at library (place + 3) }; offset = word_at library place - base_of c })
  symbol-carried e = rw e refl

  pub symbol-left-out : carries_at c (word_at library place) ≡ false → symbol_by c (public_at library id place) ≡ []
  symbol-left-out e = rw e refl
