-- The turns of a walk, and what it comes past. Assumes nothing.
use Rattle.std.specs.Prelude.{Option}
use Prim.Native.Nat.{ℕ, zero, suc, ◌-◌, ◌<◌}
use Rattle.std.specs.Prelude.{◌≡◌, refl, List, length}
use Rattle.std.proofs.Common.{ap, ◌∙◌}
use native.Mathlib.Omega.{arith}
use Rattle.omf51.specs.declared.Edition.TheVariants.{One}
use Rattle.omf51.specs.Ends.{End}
use Rattle.std.specs.Prelude.{Some, None, Ok, Err}
use Rattle.omf51.specs.declared.entry.Entries.{Entries}
use Rattle.library.specs.EndLaws.{Halts}
use Rattle.library.specs.Passes.{record_end}
use Rattle.library.specs.PassLaws.{record-moved}
use Rattle.library.specs.declared.items.Cursor.{Cursor}
use Rattle.library.specs.declared.items.NextEntry.{NextEntry}
use Rattle.library.specs.items.Walk.{entry_in, entered_at, after_record, after_entry, steps, next_entry}

-- what the walk does at a cursor
module _ (n : ℕ) (what : Entries) (library : List ℕ) (c : Cursor) where
  steps-at : 0 < n → steps n what library c ≡ after_entry (after_record (steps (n - 1) what library) what library c.next (record_end what library c.next)) c (entry_in what library c)
  unfolding steps
  steps-at h = go n h
    where
      go : (n : ℕ) → 0 < n
          → steps n what library c ≡ after_entry (after_record (steps (n - 1) what library) what library c.next (record_end what library c.next)) c (entry_in what library c)
      go zero h = absurd (omega arith)
      go (suc n) h = let e : suc n - 1 ≡ n = omega arith in rw e

  pub step-item : 0 < n → {end : ℕ} → entry_in what library c ≡ Ok (Some end) → steps n what library c ≡ Some (record { here = c; end = end })
  step-item h e = steps-at h ∙ ap (after_entry _ c) e

  past-body : 0 < n → Halts (entry_in what library c)
      → steps n what library c ≡ after_record (steps (n - 1) what library) what library c.next (record_end what library c.next)
  past-body h e = steps-at h ∙ go (entry_in what library c) e
    where
      go : (e : End) → Halts e → {s : Option NextEntry} → after_entry s c e ≡ s
      go (Ok (Some k)) e = absurd e
      go (Ok None) e = refl
      go (Err r) e = refl

  pub step-record : 0 < n → Halts (entry_in what library c) → {next : ℕ} → record_end what library c.next ≡ Ok (Some next)
      → steps n what library c ≡ steps (n - 1) what library (entered_at what library c.next next)
  step-record h e r = past-body h e ∙ ap (after_record (steps (n - 1) what library) what library c.next) r

  pub step-done : 0 < n → Halts (entry_in what library c) → Halts (record_end what library c.next) → steps n what library c ≡ None
  step-done h e r = past-body h e ∙ go (record_end what library c.next) r
    where
      go : (e : End) → Halts e → after_record (steps (n - 1) what library) what library c.next e ≡ None
      go (Ok (Some k)) e = absurd e
      go (Ok None) e = refl
      go (Err r) e = refl

-- a count that is large enough gives what a larger one gives
steps-enough : (n : ℕ) (what : Entries) (library : List ℕ) (c : Cursor) → length library - c.next < n → steps n what library c ≡ steps (suc n) what library c
unfolding steps
steps-enough zero what library c h = absurd (omega arith)
steps-enough (suc n) what library c h = ap (λ s. after_entry s c (entry_in what library c)) (go (steps-enough n what library) (record_end what library c.next) refl)
  where
    go : ((k : Cursor) → length library - k.next < n → steps n what library k ≡ steps (suc n) what library k) → (e : End) → record_end what library c.next ≡ e
        → after_record (steps n what library) what library c.next e ≡ after_record (steps (suc n) what library) what library c.next e
    go rest (Ok (Some next)) q = rest (entered_at what library c.next next) (omega (arith, record-moved One what library c.next q, h))
    go rest (Ok None) q = refl
    go rest (Err r) q = refl

-- behind a body without a further entry the walk goes on in the next record
pub next-record : (what : Entries) (library : List ℕ) (c : Cursor) → Halts (entry_in what library c) → {next : ℕ} → record_end what library c.next ≡ Ok (Some next)
    → next_entry what library c ≡ next_entry what library (entered_at what library c.next next)
next-record what library c h {next} q =
    let e : suc (length library) - 1 ≡ length library = omega arith in
    step-record (suc (length library)) what library c (omega arith) h q ∙ rw e
    (steps-enough (length library) what library (entered_at what library c.next next) (omega (arith, record-moved One what library c.next q)))
