-- A record that was passed: its frame, and what it holds. Assumes nothing.
use Rattle.std.specs.Prelude.{ℕ, ◌+◌, ◌-◌, refl, Bool, true, false, List, [], ◌++◌, if◌then◌else◌}
use Rattle.std.proofs.Math.Path.{◌≡◌}
use Rattle.std.proofs.Common.{arith}
use Rattle.lent.specs.declared.refusal.Refusal.{Refusal}
use Rattle.lent.specs.Parts.{byte_at}
use Rattle.omf51.specs.declared.Edition.TheVariants.{One}
use Rattle.omf51.specs.declared.Frame.{Frame}
use Rattle.std.specs.Prelude.{Some, None, Ok, Err}
use Rattle.omf51.specs.Ends.{End}
use Rattle.omf51.specs.Reader.{ReadOutcome, read, stop, refused, Reader, and_then, at_least_one}
use Rattle.omf51.specs.Record.{expected, expected_by, whole, record_by, record_of}
use Rattle.omf51.proofs.RecordLaws.{Fits, FrameFits, expected-fits}
use Rattle.omf51.specs.Ends.{end_of}
use Rattle.library.specs.Gathered.{items_at}
use Rattle.library.specs.RepeatLaws.{items-turn, least-items}
use Rattle.library.specs.PassLaws.{record-moves}
use Rattle.library.specs.items.Walk.{frame_to}

module _ {A : Type 0} (library : List ℕ) (allowed has : ℕ → Bool) (each : Frame → Reader (List A)) where
  -- a body's entries, or none where the record is skipped
  abbrev body : Frame → Reader (List A)
  body f = if has f.kind then at_least_one library (each f) else whole [] f

  abbrev held : ℕ → ℕ → List A
  held at next = if has (byte_at library at) then items_at library (each (frame_to library at next)) (at + 3) else []

  body-found : (f : Frame) (at next : ℕ) → f ≡ frame_to library at next → {what : List A} {end : ℕ} → body f f.body ≡ read what end → what ≡ held at next
  body-found f at next g {what} {end} e = go (has (byte_at library at)) (rw g at e)
    where
      go : (t : Bool) → (if t then at_least_one library (each (frame_to library at next)) else whole [] (frame_to library at next)) (at + 3) ≡ read what end
          → what ≡ (if t then items_at library (each (frame_to library at next)) (at + 3) else [])
      go true q = least-items library (each (frame_to library at next)) (at + 3) q
      go false q = cc

  passed : (at : ℕ) {next : ℕ} → end_of (record_of library allowed body at) ≡ Ok (Some next) → record_of library allowed body at ≡ read (held at next) next
  unfolding record_by expected_by
  passed at {next} = go (expected library allowed at) (expected-fits library allowed at)
    where
      never : {B : Type 0} → ◌≡◌ {A = End} (Ok None) (Ok (Some next)) → B
      never e = let z : ◌≡◌ {A = ℕ} 0 1 = cc in absurd (omega arith)

      never-refused : {B : Type 0} (r : Refusal) → ◌≡◌ {A = End} (Err r) (Ok (Some next)) → B
      never-refused r e = let z : ◌≡◌ {A = ℕ} 0 1 = cc in absurd (omega arith)

      inner : (f : Frame) (k : ℕ) → Fits library at f k → (w : ReadOutcome (List A)) → body f f.body ≡ w
          → end_of (and_then w λ a left. read a k) ≡ Ok (Some next) → (and_then w λ a left. read a k) ≡ read (held at next) next
      inner f k h (read what end) q e =
          let n : k ≡ next = cc in
          let last : f.end ≡ next - 1 = omega arith in
          let g : f ≡ frame_to library at next = rw (← h.kind-is, ← h.body_is, ← last) in
          rw (body-found f at next g q, n)
      inner f k h stop q e = never e
      inner f k h (refused r) q e = never-refused r e

      go : (o : ReadOutcome Frame) → FrameFits library at o
          → end_of (and_then o λ f k. and_then (body f f.body) λ a left. read a k) ≡ Ok (Some next)
          → (and_then o λ f k. and_then (body f f.body) λ a left. read a k) ≡ read (held at next) next
      go (read f k) h e = inner f k h (body f f.body) refl e
      go stop h e = never e
      go (refused r) h e = never-refused r e

  -- what is found from a record on: what it holds, and then the rest
  pub enter : (at : ℕ) {next : ℕ} → end_of (record_of library allowed body at) ≡ Ok (Some next)
      → items_at library (record_of library allowed body) at ≡ held at next ++ items_at library (record_of library allowed body) next
  enter at e = items-turn library (record_of library allowed body) (record-moves One library allowed body) at (passed at e)
