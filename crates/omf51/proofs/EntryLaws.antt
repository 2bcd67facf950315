-- Where entries end, and whether they are whole. Assumes nothing.
use Rattle.std.specs.Prelude.{ℕ, ◌+◌, ◌≤◌, ◌<◌, ◌≡◌, refl, Bool, true, false, List, leb, length, drop, if◌then◌else◌, Some, None, Ok}
use Rattle.std.proofs.Common.{ap, ◌∙◌, length-take, length-drop, le-leb, eq-eqb, ne_eqb}
use native.Mathlib.Omega.{arith}
use Rattle.std.proofs.Math.Dec.{eqb}
use Rattle.std.proofs.lemmas.Bool.{lt-leb}
use Rattle.lent.specs.declared.part.Part.{Part}
use Rattle.lent.specs.declared.refusal.Refusal.TheVariants.{LeftOver}
use Rattle.lent.specs.Parts.{byte_at, bytes_of}
use Rattle.omf51.specs.declared.Edition.{Edition}
use Rattle.omf51.specs.declared.Frame.{Frame}
use Rattle.omf51.specs.Reader.{read, stop, refused, and_then}
use Rattle.omf51.specs.Entry.{ending, name_part, id_size, name_offset, name_with, definition_at, fixup_at}
use Rattle.omf51.specs.Record.{expected_by, leaves_over, used_up, record_by}
use Rattle.omf51.proofs.RecordLaws.{record-framed}
use Rattle.omf51.specs.Ends.{end_of}

module _ {A : Type 0} (f : Frame) (a : A) {next : ℕ} where
  pub whole-within : next ≤ f.end → ending f a next ≡ read a next
  unfolding ending
  whole-within h = rw (le-leb next f.end h)

  pub cut-past : f.end < next → ending f a next ≡ stop
  unfolding ending
  cut-past h = rw (lt-leb next f.end h)

-- a name within the library has as many bytes as its length byte says
pub name-long : (library : List ℕ) (at : ℕ) → at + byte_at library at < length library → length (bytes_of library (name_part library at)) ≡ byte_at library at
name-long library at h =
    let n = byte_at library at in
    rw (le-leb (at + 1 + n) (length library) (omega arith)) (length-take n (drop (at + 1) library) ∙ omega (arith, length-drop (at + 1) library))

-- a definition, its name standing at p
module _ (library : List ℕ) (f : Frame) (at : ℕ) {p : ℕ} (here : p ≡ at + name_offset f) where
  pub definition-cut : f.end < p + 1 + byte_at library p → end_of (definition_at library f at) ≡ Ok None
  unfolding definition_at
  definition-cut h = rw (← here, cut-past f _ {next = p + 1 + byte_at library p} h)

  pub definition-whole : p + 1 + byte_at library p ≤ f.end → end_of (definition_at library f at) ≡ Ok (Some (p + 1 + byte_at library p))
  unfolding definition_at
  definition-whole h = rw (← here, whole-within f _ {next = p + 1 + byte_at library p} h)

-- a fixup of `size` bytes before the one that block 3 has more
module _ (library : List ℕ) (f : Frame) (at : ℕ) {size : ℕ} (here : size ≡ 4 + id_size f + 2) where
  abbrev most : at + 4 + id_size f + 2 ≡ at + size
  most = omega arith

  pub fixup-short : f.end < at + size → end_of (fixup_at library f at) ≡ Ok None
  unfolding fixup_at
  fixup-short h =
      rw most (ap end_of (cut-past f _ {next = at + size + (if eqb (byte_at library (at + 3)) 3 then 1 else 0)} (omega arith)))

  pub fixup-plain : (byte_at library (at + 3) ≡ 3 → ⊥) → at + size ≤ f.end → end_of (fixup_at library f at) ≡ Ok (Some (at + size))
  unfolding fixup_at
  fixup-plain n h =
      let none : at + size + 0 ≡ at + size = omega arith in
      rw (ne_eqb (byte_at library (at + 3)) 3 n, most, none) (ap end_of (whole-within f _ {next = at + size} h))

  module _ (three : byte_at library (at + 3) ≡ 3) where
    pub fixup-cut : f.end < at + size + 1 → end_of (fixup_at library f at) ≡ Ok None
    unfolding fixup_at
    fixup-cut h = rw (eq-eqb (byte_at library (at + 3)) 3 three, most) (ap end_of (cut-past f _ {next = at + size + 1} h))

    pub fixup-longer : at + size + 1 ≤ f.end → end_of (fixup_at library f at) ≡ Ok (Some (at + size + 1))
    unfolding fixup_at
    fixup-longer h =
        rw (eq-eqb (byte_at library (at + 3)) 3 three, most) (ap end_of (whole-within f _ {next = at + size + 1} h))

-- a name with some bytes more
module _ (library : List ℕ) (f : Frame) (at : ℕ) {n : ℕ} (here : n ≡ byte_at library at) (more : ℕ) where
  pub name-cut : f.end < at + 1 + n + more → name_with more library f at ≡ stop
  unfolding ending
  name-cut h = rw (← here) (go (leb (at + 1 + n) f.end))
    where
      name : Part
      name = record { at = at + 1; len = n }

      go : (t : Bool) → and_then (if t then read name (at + 1 + n) else stop) (λ a next. ending f a (next + more)) ≡ stop
      go true = cut-past f name {next = at + 1 + n + more} h
      go false = refl

  pub name-whole : at + 1 + n + more ≤ f.end → name_with more library f at ≡ read (record { at = at + 1; len = n }) (at + 1 + n + more)
  name-whole h =
      rw (← here, whole-within f _ {next = at + 1 + n} (omega arith)) (whole-within f _ {next = at + 1 + n + more} h)

-- the record of a header or an end whose frame is known; in edition 2 its name and the bytes behind it are all there is
module _ (e : Edition) (library : List ℕ) (allowed : ℕ → Bool) (more at : ℕ) {f : Frame} {next n : ℕ} (q : expected_by e library allowed at ≡ read f next) (here : n ≡ byte_at library f.body) where
  pub named-cut : f.end < f.body + 1 + n + more → record_by e library allowed (name_with more library) at ≡ stop
  named-cut h = record-framed e library allowed (name_with more library) at q ∙ rw (name-cut library f f.body here more h)

  named-read : f.body + 1 + n + more ≤ f.end
      → record_by e library allowed (name_with more library) at ≡ used_up e f.end (record { at = f.body + 1; len = n }) (f.body + 1 + n + more) next
  named-read h = record-framed e library allowed (name_with more library) at q ∙ rw (name-whole library f f.body here more h)

  module _ {left : ℕ} (k : left ≡ f.body + 1 + n + more) (h : left ≤ f.end) where
    pub named-whole : leaves_over e left f.end ≡ false → record_by e library allowed (name_with more library) at ≡ read (record { at = f.body + 1; len = n }) next
    named-whole o = named-read (omega (arith, k, h)) ∙ rw (← k, o)

    pub named-over : leaves_over e left f.end ≡ true → record_by e library allowed (name_with more library) at ≡ refused LeftOver
    named-over o = named-read (omega (arith, k, h)) ∙ rw (← k, o)
