-- A walk stops at whole entries only, and what it says of an entry is what is read there. Assumes nothing.
use Rattle.std.specs.Prelude.{Option}
use Rattle.std.specs.Prelude.{ℕ, zero, suc, ◌+◌, ◌≤◌, ◌<◌, ◌≡◌, refl, Bool, true, false, List, leb, eqb, length, if◌then◌else◌}
use Rattle.std.proofs.Common.{sym, ap, subst, ◌∙◌, arith, leb-true}
use Rattle.lent.specs.Lists.{one}
use Rattle.lent.specs.Parts.{byte_at, word_at}
use Rattle.omf51.specs.declared.Frame.{Frame}
use Rattle.omf51.specs.Ends.{End}
use Rattle.std.specs.Prelude.{Some, None, Ok, Err}
use Rattle.omf51.specs.declared.Definition.TheVariants.{Segment, Public, External}
use Rattle.omf51.specs.declared.entry.Entries.{Entries}
use Rattle.omf51.specs.Reader.{ReadOutcome, read, stop, refused, and_then, give}
use Rattle.omf51.specs.Entry.{ending, id_size, id_at, segment_size, is_segment, is_public, name_offset, definition_of, definition_at, fixup_at}
use Rattle.omf51.specs.Ends.{end_of, entry_end}
use Rattle.library.specs.Passes.{record_end}
use Rattle.library.specs.declared.items.Cursor.{Cursor}
use Rattle.library.specs.declared.items.NextEntry.{NextEntry}
use Rattle.library.specs.items.Walk.{entry_in, entered_at, after_record, after_entry, steps, next_entry}
use Rattle.library.specs.items.Items.{name_here, definition_here, fixup_here}

-- a step that comes to an entry stands at it
abbrev Stands : Entries → List ℕ → Option NextEntry → Type 0
Stands what library (Some e) = entry_in what library e.here ≡ Ok (Some e.end)
Stands what library None = Unit

steps-stand : (n : ℕ) (what : Entries) (library : List ℕ) (c : Cursor) → Stands what library (steps n what library c)
unfolding steps
steps-stand zero what library c = tt
steps-stand (suc n) what library c = entry (steps-stand n what library) (entry_in what library c) refl
  where
    later : ((k : Cursor) → Stands what library (steps n what library k)) → (e : End) → Stands what library (after_record (steps n what library) what library c.next e)
    later rest (Ok (Some next)) = rest (entered_at what library c.next next)
    later rest (Ok None) = tt
    later rest (Err r) = tt

    entry : ((k : Cursor) → Stands what library (steps n what library k)) → (e : End) → entry_in what library c ≡ e
        → Stands what library (after_entry (after_record (steps n what library) what library c.next (record_end what library c.next)) c e)
    entry rest (Ok (Some end)) q = q
    entry rest (Ok None) q = later rest (record_end what library c.next)
    entry rest (Err r) q = later rest (record_end what library c.next)

-- so it stands within the library
pub record Whole (what : Entries) (library : List ℕ) (here : Cursor) (end : ℕ) : Type 0 where
  pub inside : here.frame.end ≤ length library
  pub ends : entry_end what library here.frame here.at ≡ Ok (Some end)

pub entry_whole : (what : Entries) (library : List ℕ) (here : Cursor) {end : ℕ} → entry_in what library here ≡ Ok (Some end) → Whole what library here end
entry_whole what library here {end} = go (leb here.frame.end (length library)) (leb-true here.frame.end (length library))
  where
    go : (t : Bool) → (t ≡ true → here.frame.end ≤ length library) → (if t then entry_end what library here.frame here.at else Ok None) ≡ Ok (Some end)
        → Whole what library here end
    go true h e = record { inside = h refl; ends = e }
    go false h e = let z : ◌≡◌ {A = ℕ} 0 1 = cc in absurd (omega arith)

pub step-whole : (what : Entries) (library : List ℕ) (c : Cursor) {s : NextEntry} → next_entry what library c ≡ Some s → Whole what library s.here s.end
step-whole what library c {s} e = entry_whole what library s.here (subst (Stands what library) e (steps-stand (suc (length library)) what library c))

-- what was read within a body
record Within {A : Type 0} (f : Frame) (o : ReadOutcome A) (a : A) (next end : ℕ) : Type 0 where
  is : o ≡ read a end
  place : next ≡ end
  room : next ≤ f.end

ended : {A : Type 0} (f : Frame) (a : A) (next : ℕ) {end : ℕ} → end_of (ending f a next) ≡ Ok (Some end) → Within f (ending f a next) a next end
unfolding ending
ended {A} f a next {end} = go (leb next f.end) (leb-true next f.end)
  where
    go : (t : Bool) → (t ≡ true → next ≤ f.end) → end_of (if t then read a next else stop) ≡ Ok (Some end) → Within f (if t then read a next else stop) a next end
    go true h e = let q : next ≡ end = cc in record { is = ap (read a) q; place = q; room = h refl }
    go false h e = let z : ◌≡◌ {A = ℕ} 0 1 = cc in absurd (omega arith)

given : {A B : Type 0} (g : A → B) (o : ReadOutcome A) → end_of (and_then o λ a. give (g a)) ≡ end_of o
given g (read a next) = refl
given g stop = refl
given g (refused r) = refl

module _ (library : List ℕ) (f : Frame) (at : ℕ) where
  abbrev name-end : ℕ
  name-end = at + name_offset f + 1 + byte_at library (at + name_offset f)

  abbrev fixup-end : ℕ
  fixup-end = at + 4 + id_size f + 2 + (if eqb (byte_at library (at + 3)) 3 then 1 else 0)

  named : {end : ℕ} → end_of (definition_at library f at) ≡ Ok (Some end) → Within f (ending f (name_here library f at) name-end) (name_here library f at) name-end end
  unfolding definition_at
  named e = ended f (name_here library f at) name-end (sym (given _ (ending f (name_here library f at) name-end)) ∙ e)

  pub definition-read : {end : ℕ} → end_of (definition_at library f at) ≡ Ok (Some end) → definition_at library f at ≡ read (one (definition_here library f at)) end
  unfolding definition_at
  definition-read e = rw (named e).is

  pub definition-room : {end : ℕ} → end_of (definition_at library f at) ≡ Ok (Some end) → (at + name_offset f + byte_at library (at + name_offset f) < end) × (end ≤ f.end)
  definition-room e = (omega (arith, named e), omega (arith, named e))

  fixed : {end : ℕ} → end_of (fixup_at library f at) ≡ Ok (Some end) → Within f (ending f (one (fixup_here library f at)) fixup-end) (one (fixup_here library f at)) fixup-end end
  unfolding fixup_at
  fixed e = ended f (one (fixup_here library f at)) fixup-end e

  pub fixup-read : {end : ℕ} → end_of (fixup_at library f at) ≡ Ok (Some end) → fixup_at library f at ≡ read (one (fixup_here library f at)) end
  unfolding fixup_at
  fixup-read e = (fixed e).is

  pub fixup-room : {end : ℕ} → end_of (fixup_at library f at) ≡ Ok (Some end) → (at + 6 < end) × (end ≤ f.end)
  fixup-room e = (omega (arith, fixed e), omega (arith, fixed e))

module _ (library : List ℕ) (f : Frame) (at : ℕ) where
  -- what a definition says, by its record's type
  pub segment-here : is_segment f ≡ true
      → definition_here library f at
      ≡ Segment (id_at library f at) (byte_at library (at + id_size f)) (byte_at library (at + id_size f + 1)) (segment_size (byte_at library (at + id_size f)) (word_at library (at + id_size f + 5))) (name_here library f at)
  unfolding definition_of
  segment-here e = rw e

  module _ (other : is_segment f ≡ false) where
    pub public-here : is_public f ≡ true → definition_here library f at ≡ Public (id_at library f at) (word_at library (at + id_size f + 1)) (name_here library f at)
    unfolding definition_of
    public-here e = rw (other, e)

    pub external-here : is_public f ≡ false → definition_here library f at ≡ External (id_at library f (at + 1)) (byte_at library (at + id_size f + 1)) (name_here library f at)
    unfolding definition_of
    external-here e = rw (other, e)
