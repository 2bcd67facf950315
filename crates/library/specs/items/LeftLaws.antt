-- A STEP YIELDS WHAT IS LEFT: the next entry is the first of the definition's list, and the rest is left after it. Assumes nothing.
use Rattle.std.specs.Prelude.{Option}
use Prim.Native.Nat.{ℕ, zero, suc, ◌+◌, ◌-◌, ◌≤◌, ◌<◌}
use Rattle.std.specs.Prelude.{◌≡◌, Bool, true, false, List, [], ◌∷◌, ◌++◌, leb, if◌then◌else◌}
use Rattle.std.proofs.Math.Path.{refl}
use Rattle.std.proofs.Common.{sym, ap, subst, ◌∙◌, arith, le-leb, leb-true}
use Rattle.std.proofs.Math.ListN.{length}
use Rattle.lent.specs.Lists.{one}
use Rattle.lent.specs.Parts.{byte_at}
use Rattle.omf51.specs.declared.Frame.{Frame}
use Rattle.omf51.specs.Ends.{End}
use Rattle.std.specs.Prelude.{Some, None, Ok, Err}
use Rattle.omf51.specs.declared.Edition.TheVariants.{One}
use Rattle.omf51.specs.declared.entry.Entries.{Entries}
use Rattle.omf51.specs.Reader.{read, Reader}
use Rattle.omf51.specs.Ends.{end_of, entry_end}
use Rattle.library.specs.Gathered.{items_at}
use Rattle.library.specs.RepeatLaws.{Moves, items-turn}
use Rattle.library.specs.EndLaws.{Halts, MovedEnd, items-none}
use Rattle.library.specs.Passes.{holds, record_end}
use Rattle.library.specs.PassLaws.{record-moved}
use Rattle.library.specs.declared.items.Cursor.{Cursor}
use Rattle.library.specs.declared.items.NextEntry.{NextEntry}
use Rattle.library.specs.items.Walk.{start_at, entry_in, frame_to, entered_at, after_record, after_entry, steps, next_entry}
use Rattle.library.specs.items.Items.{past}
use Rattle.library.specs.items.ItemLaws.{entry_whole}
use Rattle.library.specs.items.Left.{left_in, left}

-- what the law asks of the entries and of the records that hold them
pub record Walked {A : Type 0} (what : Entries) (library : List ℕ) (each : Frame → Reader (List A)) (records : Reader (List A)) (here : Frame → ℕ → A) : Type 0 where
  pub entry-ends : (f : Frame) (at : ℕ) → entry_end what library f at ≡ end_of (each f at)
  pub record-ends : (at : ℕ) → record_end what library at ≡ end_of (records at)
  pub entry-reads : (f : Frame) (at : ℕ) {end : ℕ} → end_of (each f at) ≡ Ok (Some end) → each f at ≡ read (one (here f at)) end
  pub entries-move : (f : Frame) → f.end ≤ length library → Moves library (each f)
  pub last-halts : (f : Frame) → Halts (end_of (each f f.end))
  pub records-move : Moves library records
  pub enters : (at : ℕ) {next : ℕ} → end_of (records at) ≡ Ok (Some next)
      → items_at library records at ≡ (if holds what (byte_at library at) then items_at library (each (frame_to library at next)) (at + 3) else []) ++ items_at library records next

module _ {A : Type 0} (what : Entries) (library : List ℕ) (each : Frame → Reader (List A)) (records : Reader (List A)) (here : Frame → ℕ → A)
    (w : Walked what library each records here) where
  -- a step, unwound
  abbrev pub unwound : Option NextEntry → List A
  unwound (Some e) = here e.here.frame e.here.at ∷ left library each records (past e.here e.end)
  unwound None = []

  at_entry : (c : Cursor) {end : ℕ} → entry_in what library c ≡ Ok (Some end) → left library each records c ≡ unwound (Some (record { here = c; end = end }))
  at_entry c {end} e =
      let whole = entry_whole what library c e in
      let reads = w.entry-reads c.frame c.at (sym (w.entry-ends c.frame c.at) ∙ whole.ends) in
      rw
      (le-leb c.frame.end (length library) whole.inside, items-turn library (each c.frame) (w.entries-move c.frame whole.inside) c.at reads)

  past-body : (c : Cursor) → Halts (entry_in what library c) → left library each records c ≡ items_at library records c.next
  past-body c = go (leb c.frame.end (length library)) (leb-true c.frame.end (length library))
    where
      go : (t : Bool) → (t ≡ true → c.frame.end ≤ length library) → Halts (if t then entry_end what library c.frame c.at else Ok None)
          → (if t then items_at library (each c.frame) c.at else []) ++ items_at library records c.next ≡ items_at library records c.next
      go true l h = rw (items-none library (each c.frame) (w.entries-move c.frame (l refl)) c.at (sym (w.entry-ends c.frame c.at)) h)
      go false l h = refl

  in-record : (at : ℕ) {next : ℕ} → record_end what library at ≡ Ok (Some next) → items_at library records at ≡ left library each records (entered_at what library at next)
  in-record at {next} e =
      let f : Frame = frame_to library at next in
      let m : MovedEnd library (at + 3) (Ok (Some next)) = record-moved One what library at e in
      let none = items-none library (each f) (w.entries-move f (omega (arith, m))) f.end refl (w.last-halts f) in
      let inside : left_in library each (entered_at what library at next) ≡ items_at library (each f) (if holds what (byte_at library at) then at + 3 else next - 1) =
      rw (le-leb f.end (length library) (omega (arith, m))) in
      w.enters at (sym (w.record-ends at) ∙ e)
      ∙ ap (λ xs. xs ++ items_at library records next) (go f (holds what (byte_at library at)) none ∙ sym inside)
    where
      go : (f : Frame) (t : Bool) → items_at library (each f) f.end ≡ []
          → (if t then items_at library (each f) (at + 3) else []) ≡ items_at library (each f) (if t then at + 3 else f.end)
      go f true e = refl
      go f false e = sym e

  no_record : (at : ℕ) → Halts (record_end what library at) → items_at library records at ≡ []
  no_record at h = items-none library records w.records-move at (sym (w.record-ends at)) h

  steps-yield : (n : ℕ) (c : Cursor) → length library - c.next < n → left library each records c ≡ unwound (steps n what library c)
  unfolding steps
  steps-yield zero c h = absurd (omega arith)
  steps-yield (suc n) c h = entry (entry_in what library c) refl (steps-yield n)
    where
      later : (e : End) → record_end what library c.next ≡ e → ((k : Cursor) → length library - k.next < n → left library each records k ≡ unwound (steps n what library k))
          → items_at library records c.next ≡ unwound (after_record (steps n what library) what library c.next e)
      later (Ok (Some next)) q rest =
          let m : MovedEnd library (c.next + 3) (Ok (Some next)) = record-moved One what library c.next q in
          in-record c.next q ∙ rest (entered_at what library c.next next) (omega (arith, m, h))
      later (Ok None) q rest = no_record c.next (subst Halts (sym q) tt)
      later (Err r) q rest = no_record c.next (subst Halts (sym q) tt)

      entry : (e : End) → entry_in what library c ≡ e → ((k : Cursor) → length library - k.next < n → left library each records k ≡ unwound (steps n what library k))
          → left library each records c
          ≡ unwound (after_entry (after_record (steps n what library) what library c.next (record_end what library c.next)) c e)
      entry (Ok (Some end)) q rest = at_entry c q
      entry (Ok None) q rest = past-body c (subst Halts (sym q) tt) ∙ later (record_end what library c.next) refl rest
      entry (Err r) q rest = past-body c (subst Halts (sym q) tt) ∙ later (record_end what library c.next) refl rest

  pub step-yields : (c : Cursor) → left library each records c ≡ unwound (next_entry what library c)
  step-yields c = steps-yield (suc (length library)) c (omega arith)

  -- before the first record, all of them are left
  pub start_left : (at : ℕ) → left library each records (start_at at) ≡ items_at library records at
  start_left at = past-body (start_at at) (rw (le-leb 0 (length library) (omega arith), w.entry-ends (start_at at).frame 0) (w.last-halts (start_at at).frame))
