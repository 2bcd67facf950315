-- A walk goes forward: each entry stands behind the one before, and within the library, so no walk has more entries than the library has bytes. Assumes nothing.
use Rattle.std.specs.Prelude.{Option}
use Rattle.std.specs.Prelude.{ℕ, zero, suc, ◌+◌, ◌-◌, ◌≤◌, ◌<◌, ◌≡◌, refl, Bool, true, false, List, length, if◌then◌else◌}
use Rattle.std.proofs.Common.{subst, arith}
use Rattle.lent.specs.ChoiceLaws.{chosen}
use Rattle.lent.specs.Parts.{byte_at}
use Rattle.omf51.specs.declared.Frame.{Frame}
use Rattle.omf51.specs.Ends.{End}
use Rattle.std.specs.Prelude.{Some, None, Ok, Err}
use Rattle.omf51.specs.declared.entry.Entries.{Entries}
use Rattle.omf51.specs.declared.Edition.TheVariants.{One}
use Rattle.omf51.specs.declared.entry.Entries.TheVariants.{Definitions, Fixups}
use Rattle.omf51.specs.Entry.{is_segment, is_public, name_offset}
use Rattle.omf51.specs.Ends.{entry_end}
use Rattle.library.specs.EndLaws.{MovedEnd}
use Rattle.library.specs.Passes.{holds, record_end}
use Rattle.library.specs.PassLaws.{record-moved}
use Rattle.library.specs.declared.items.Cursor.{Cursor}
use Rattle.library.specs.declared.items.NextEntry.{NextEntry}
use Rattle.library.specs.declared.items.NextDefinition.{NextDefinition}
use Rattle.library.specs.declared.items.NextFixup.{NextFixup}
use Rattle.library.specs.items.Walk.{entry_in, entered_at, after_record, after_entry, steps, next_entry}
use Rattle.library.specs.items.Items.{past, next_definition, definition_step, next_fixup, fixup_step}
use Rattle.library.specs.items.ItemLaws.{entry_whole, definition-room, fixup-room}

-- a cursor whose body ends before its next record
pub record Ordered (c : Cursor) : Type 0 where
  pub before : c.at ≤ c.next
  pub body-before : c.frame.end ≤ c.next

-- from one cursor to the next
pub record Forward (library : List ℕ) (c rest : Cursor) : Type 0 where
  pub later : c.at < rest.at
  pub inside : rest.at ≤ length library
  pub ordered : Ordered rest

-- how many bytes an entry takes at least
abbrev entry_size : Entries → ℕ
entry_size Definitions = 5
entry_size Fixups = 7

entry-some : (what : Entries) → 0 < entry_size what
entry-some Definitions = omega arith
entry-some Fixups = omega arith

name-behind : (f : Frame) → 4 ≤ name_offset f
name-behind f =
    let r : 3 ≤ (if is_segment f then 7 else if is_public f then 4 else 3) =
    chosen (λ n. 3 ≤ n) (is_segment f) (λ e. omega arith) (λ e. chosen (λ n. 3 ≤ n) (is_public f) (λ q. omega arith) (λ q. omega arith)) in
    omega arith

entry-forward : (what : Entries) (library : List ℕ) (c : Cursor) {end : ℕ} → entry_end what library c.frame c.at ≡ Ok (Some end)
    → (c.at + entry_size what ≤ end) × (end ≤ c.frame.end)
entry-forward Definitions library c e = let r = definition-room library c.frame c.at e in (omega (arith, r.0, name-behind c.frame), r.1)
entry-forward Fixups library c e = let r = fixup-room library c.frame c.at e in (omega arith, r.1)

abbrev Steps : List ℕ → ℕ → ℕ → Option NextEntry → Type 0
Steps library size at (Some s) = (at ≤ s.here.at) × ((s.here.at + size ≤ s.end) × ((s.end ≤ length library) × Ordered (past s.here s.end)))
Steps library size at None = Unit

steps-forward : (n : ℕ) (what : Entries) (library : List ℕ) (c : Cursor) → Ordered c → Steps library (entry_size what) c.at (steps n what library c)
unfolding steps
steps-forward zero what library c o = tt
steps-forward (suc n) what library c o = entry (steps-forward n what library) (entry_in what library c) refl
  where
    weaker : {at : ℕ} (s : Option NextEntry) → c.at ≤ at → Steps library (entry_size what) at s → Steps library (entry_size what) c.at s
    weaker (Some s) h p = (omega arith, p.1)
    weaker None h p = tt

    place : (next : ℕ) (t : Bool) → c.next + 3 < next → (c.next ≤ (if t then c.next + 3 else next - 1)) × ((if t then c.next + 3 else next - 1) ≤ next)
    place next true h = (omega arith, omega arith)
    place next false h = (omega arith, omega arith)

    later : ((k : Cursor) → Ordered k → Steps library (entry_size what) k.at (steps n what library k)) → (e : End) → record_end what library c.next ≡ e
        → Steps library (entry_size what) c.at (after_record (steps n what library) what library c.next e)
    later rest (Ok (Some next)) q =
        let m : MovedEnd library (c.next + 3) (Ok (Some next)) = record-moved One what library c.next q in
        let p = place next (holds what (byte_at library c.next)) m.0 in
        let k : Cursor = entered_at what library c.next next in
        weaker (steps n what library k) (omega (arith, p, o.before)) (rest k (record { before = p.1; body-before = omega arith }))
    later rest (Ok None) q = tt
    later rest (Err r) q = tt

    entry : ((k : Cursor) → Ordered k → Steps library (entry_size what) k.at (steps n what library k)) → (e : End) → entry_in what library c ≡ e
        → Steps library (entry_size what) c.at (after_entry (after_record (steps n what library) what library c.next (record_end what library c.next)) c e)
    entry rest (Ok (Some end)) q =
        let w = entry_whole what library c q in
        let f = entry-forward what library c w.ends in
        (omega arith, (f.0, (omega (arith, f, w.inside), record { before = omega (arith, f, o.body-before); body-before = o.body-before })))
    entry rest (Ok None) q = later rest (record_end what library c.next) refl
    entry rest (Err r) q = later rest (record_end what library c.next) refl

pub record Sized (library : List ℕ) (size : ℕ) (c rest : Cursor) : Type 0 where
  pub size-later : c.at + size ≤ rest.at
  pub forward : Forward library c rest

abbrev Stepped : List ℕ → ℕ → Cursor → Option NextEntry → Type 0
Stepped library size c (Some s) = Sized library size c (past s.here s.end)
Stepped library size c None = Unit

stepped : (what : Entries) (library : List ℕ) (c : Cursor) → Ordered c → Stepped library (entry_size what) c (next_entry what library c)
stepped what library c o = go (next_entry what library c) (steps-forward (suc (length library)) what library c o)
  where
    go : (s : Option NextEntry) → Steps library (entry_size what) c.at s → Stepped library (entry_size what) c s
    go (Some s) p = record {
      size-later = omega (arith, p.0, p.1.0);
      forward = record { later = omega (arith, p.0, p.1.0, entry-some what); inside = p.1.1.0; ordered = p.1.1.1 };
    }
    go None p = tt

-- an entry does not stand before the cursor from which it was sought
pub entry-later : (what : Entries) (library : List ℕ) (c : Cursor) → Ordered c → {s : NextEntry} → next_entry what library c ≡ Some s → c.at ≤ s.here.at
entry-later what library c o e = (subst (Steps library (entry_size what) c.at) e (steps-forward (suc (length library)) what library c o)).0

pub definition-sized : (library : List ℕ) (c : Cursor) → Ordered c → {n : NextDefinition}
    → next_definition library c ≡ Some n → Sized library 5 c n.rest
definition-sized library c o {n} = go (next_entry Definitions library c) (stepped Definitions library c o)
  where
    go : (s : Option NextEntry) → Stepped library 5 c s → definition_step library s ≡ Some n → Sized library 5 c n.rest
    go (Some s) p e = let q : past s.here s.end ≡ n.rest = cc in subst (Sized library 5 c) q p
    go None p e = let z : ◌≡◌ {A = ℕ} 0 1 = cc in absurd (omega arith)

pub definition-goes : (library : List ℕ) (c : Cursor) → Ordered c → {n : NextDefinition}
    → next_definition library c ≡ Some n → Forward library c n.rest
definition-goes library c o e = (definition-sized library c o e).forward

pub fixup-goes : (library : List ℕ) (c : Cursor) → Ordered c → {n : NextFixup}
    → next_fixup library c ≡ Some n → Forward library c n.rest
fixup-goes library c o {n} = go (next_entry Fixups library c) (stepped Fixups library c o)
  where
    go : (s : Option NextEntry) → Stepped library 7 c s → fixup_step library s ≡ Some n → Forward library c n.rest
    go (Some s) p e = let q : past s.here s.end ≡ n.rest = cc in subst (Forward library c) q p.forward
    go None p e = let z : ◌≡◌ {A = ℕ} 0 1 = cc in absurd (omega arith)
