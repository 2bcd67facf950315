-- What an entry says stands where it was read: a public definition again from its offset on, an external's name within the library; a segment's size and a fixup's location are two bytes. Assumes nothing.
use Rattle.std.specs.Prelude.{Option, Some, None}
use Rattle.std.specs.Prelude.{ℕ, ◌+◌, ◌-◌, ◌≤◌, ◌<◌, ◌≡◌, refl, Bool, true, false, List, eqb, length}
use Rattle.std.proofs.Common.{sym, ap, subst, arith}
use Rattle.std.specs.Int.Bits.{bit_and}
use Rattle.lent.specs.declared.part.Part.{Part}
use Rattle.lent.specs.ChoiceLaws.{chosen}
use Rattle.lent.specs.Parts.{byte_at, word_at}
use Rattle.omf51.specs.declared.Frame.{Frame}
use Rattle.omf51.specs.declared.ModuleId.{ModuleId}
use Rattle.omf51.specs.declared.Definition.{Definition}
use Rattle.omf51.specs.declared.Definition.TheVariants.{Segment, Public, External}
use Rattle.omf51.specs.declared.Fixup.{Fixup}
use Rattle.omf51.specs.declared.entry.Entries.TheVariants.{Definitions, Fixups}
use Rattle.omf51.specs.Entry.{id_size, segment_size, is_segment, is_public, name_offset}
use Rattle.library.specs.declared.items.Cursor.{Cursor}
use Rattle.library.specs.declared.items.NextEntry.{NextEntry}
use Rattle.library.specs.declared.items.NextDefinition.{NextDefinition}
use Rattle.library.specs.declared.items.NextFixup.{NextFixup}
use Rattle.library.specs.items.Walk.{next_entry}
use Rattle.library.specs.items.Items.{definition_here, fixup_here, next_definition, definition_step, next_fixup, fixup_step}
use Rattle.library.specs.items.ItemLaws.{step-whole, definition-room, segment-here, public-here, external-here}
use Rattle.library.specs.items.ContentSizeLaws.{Bytes, word_small}

-- a public definition's offset stands four bytes before its name, and the name's length just before it
pub record PublicAgain (library : List ℕ) (offset : ℕ) (name : Part) : Type 0 where
  pub front : 4 ≤ name.at
  pub inside : name.at ≤ length library
  pub offset-is : offset ≡ word_at library (name.at - 4)
  pub len_is : name.len ≡ byte_at library (name.at - 1)

abbrev pub Says : List ℕ → Definition → Type 0
Says library (Segment id info relocation size name) = Bytes library → size ≤ 65536
Says library (Public id offset name) = PublicAgain library offset name
Says library (External id info name) = (name.at ≤ length library) × (Bytes library → name.len < 256)

size_small : (library : List ℕ) → Bytes library → (info at : ℕ) → segment_size info (word_at library at) ≤ 65536
size_small library b info at =
    chosen (λ n. n ≤ 65536) (eqb (bit_and info 0x80) 0x80) (λ e. omega arith)
    (λ e. chosen (λ n. n ≤ 65536) (eqb (word_at library at) 0) (λ q. omega arith) (λ q. omega (arith, word_small library b at)))

says_here : (library : List ℕ) (f : Frame) (at : ℕ) → at + name_offset f < length library → Says library (definition_here library f at)
says_here library f at h = segment (is_segment f) refl
  where
    public : is_segment f ≡ false → (t : Bool) → is_public f ≡ t → Says library (definition_here library f at)
    public s true p =
        let n : name_offset f ≡ id_size f + 4 = rw (s, p) in
        let w : at + name_offset f + 1 - 4 ≡ at + id_size f + 1 = omega arith in
        let b : at + name_offset f + 1 - 1 ≡ at + name_offset f = omega arith in
        subst (Says library) (sym (public-here library f at s p)) (record { front = omega arith; inside = omega arith; offset-is = ap (word_at library) (sym w); len_is = ap (byte_at library) (sym b) })
    public s false p = subst (Says library) (sym (external-here library f at s p)) (omega arith, λ b. b (at + name_offset f))

    segment : (t : Bool) → is_segment f ≡ t → Says library (definition_here library f at)
    segment true s = subst (Says library) (sym (segment-here library f at s)) (λ b. size_small library b (byte_at library (at + id_size f)) (at + id_size f + 5))
    segment false s = public s (is_public f) refl

pub definition-says : (library : List ℕ) (c : Cursor) {n : NextDefinition} → next_definition library c ≡ Some n → Says library n.definition
definition-says library c {n} = go (next_entry Definitions library c) refl
  where
    go : (s : Option NextEntry) → next_entry Definitions library c ≡ s → definition_step library s ≡ Some n → Says library n.definition
    go (Some s) q e =
        let here = s.here in
        let w = step-whole Definitions library c q in
        let r = definition-room library here.frame here.at w.ends in
        let d : definition_here library here.frame here.at ≡ n.definition = cc in
        subst (Says library) d (says_here library here.frame here.at (omega (arith, r, w.inside)))
    go None q e = let z : ◌≡◌ {A = ℕ} 0 1 = cc in absurd (omega arith)

pub public-again : (library : List ℕ) (c : Cursor) {n : NextDefinition} {id : ModuleId} {offset : ℕ} {name : Part}
    → next_definition library c ≡ Some n → n.definition ≡ Public id offset name → PublicAgain library offset name
public-again library c e p = subst (Says library) p (definition-says library c e)

pub fixup-small : (library : List ℕ) (c : Cursor) {n : NextFixup} → Bytes library → next_fixup library c ≡ Some n → n.fixup.location < 65536
fixup-small library c {n} b = go (next_entry Fixups library c)
  where
    go : (s : Option NextEntry) → fixup_step library s ≡ Some n → n.fixup.location < 65536
    go (Some s) e =
        let q : fixup_here library s.here.frame s.here.at ≡ n.fixup = cc in
        omega (arith, ap (λ (k : Fixup). k.location) q, word_small library b s.here.at)
    go None e = let z : ◌≡◌ {A = ℕ} 0 1 = cc in absurd (omega arith)
