-- The turns from content to content. Assumes nothing.
use Prim.Native.Nat.{ℕ, zero, suc, ◌+◌, ◌-◌, ◌≤◌, ◌<◌}
use Rattle.std.proofs.Math.Path.{◌≡◌, refl}
use Rattle.std.proofs.Common.{sym, ◌∙◌, leb-true}
use Rattle.std.specs.Prelude.{Bool, true, false, List, [], leb, if◌then◌else◌}
use native.Mathlib.Omega.{arith}
use Rattle.lent.specs.declared.refusal.Refusal.{Refusal}
use Rattle.lent.specs.Lists.{one}
use Rattle.lent.specs.Parts.{byte_at}
use Rattle.omf51.specs.Ends.{End}
use Rattle.std.specs.Prelude.{Some, None, Ok, Err}
use Rattle.omf51.specs.declared.Edition.TheVariants.{One}
use Rattle.omf51.specs.declared.Frame.{Frame}
use Rattle.omf51.specs.declared.Content.{Content}
use Rattle.omf51.specs.declared.Fixup.{Fixup}
use Rattle.omf51.specs.Reader.{ReadOutcome, read, stop, refused, and_then, give, many}
use Rattle.omf51.specs.Record.{expected, expected_by, whole, record_by, record_of}
use Rattle.omf51.proofs.RecordLaws.{record-framed, not-expected, first-expected}
use Rattle.omf51.specs.Entry.{ending, id_size}
use Rattle.omf51.specs.Module.{fills, is_idle, content_body, Section, section_by, sections_by, fixups_at, section_at, sections_at}
use Rattle.omf51.specs.Ends.{end_of}
use Rattle.library.specs.Gathered.{items_at}
use Rattle.library.specs.RepeatLaws.{many-items}
use Rattle.library.specs.EndLaws.{Halts}
use Rattle.library.specs.items.Walk.{start_at}
use Rattle.library.specs.items.Contents.{content_here, content_or, after_section, seek}

-- no record stands there
abbrev pub Absent : ReadOutcome Frame → Type 0
Absent (read f k) = ⊥
Absent stop = Unit
Absent (refused r) = Unit

module _ (n : ℕ) (library : List ℕ) (at : ℕ) (h : 0 < n) where
  seek-at : seek n library at ≡ after_section library (seek (n - 1) library) (expected library fills at) (end_of (sections_at library at))
  unfolding seek
  seek-at = go n h
    where
      go : (n : ℕ) → 0 < n → seek n library at ≡ after_section library (seek (n - 1) library) (expected library fills at) (end_of (sections_at library at))
      go zero h = absurd (omega arith)
      go (suc n) h = let e : suc n - 1 ≡ n = omega arith in rw e

  pub seek-done : Halts (end_of (sections_at library at)) → seek n library at ≡ None
  seek-done e = seek-at ∙ go (end_of (sections_at library at)) e
    where
      go : (e : End) → Halts e → after_section library (seek (n - 1) library) (expected library fills at) e ≡ None
      go (Ok (Some k)) e = absurd e
      go (Ok None) e = refl
      go (Err r) e = refl

  module _ {next : ℕ} (e : end_of (sections_at library at) ≡ Ok (Some next)) where
    pub seek-item : {f : Frame} {k : ℕ} → expected library fills at ≡ read f k → seek n library at ≡ Some (record { content = content_here library f; fixups = start_at k; rest = next })
    seek-item o = seek-at ∙ rw (e, o)

    pub seek-on : Absent (expected library fills at) → seek n library at ≡ seek (n - 1) library next
    seek-on a = seek-at ∙ rw e (go (expected library fills at) a)
      where
        go : (o : ReadOutcome Frame) → Absent o → content_or library (seek (n - 1) library next) next o ≡ seek (n - 1) library next
        go (read f k) a = absurd a
        go stop a = refl
        go (refused r) a = refl

abbrev pub section_of : Content → List Fixup → List Section
section_of content fixups = one (record { content = content; fixups = fixups })

abbrev no_section : List Section
no_section = []

-- a content that was passed: its body has an id and an offset, and its fixups are found after it
pub record Passed (library : List ℕ) (f : Frame) (k : ℕ) (o : ReadOutcome (List Section)) (next : ℕ) : Type 0 where
  pub room : f.body + id_size f + 2 ≤ f.end
  pub is : o ≡ read (section_of (content_here library f) (items_at library (fixups_at library) k)) next

never : {B : Type 0} {next : ℕ} → ◌≡◌ {A = End} (Ok None) (Ok (Some next)) → B
never e = let z : ◌≡◌ {A = ℕ} 0 1 = cc in absurd (omega arith)

never-refused : {B : Type 0} {r : Refusal} {next : ℕ} → ◌≡◌ {A = End} (Err r) (Ok (Some next)) → B
never-refused e = let z : ◌≡◌ {A = ℕ} 0 1 = cc in absurd (omega arith)

module _ (library : List ℕ) (at : ℕ) {f : Frame} {k : ℕ} (o : expected library fills at ≡ read f k) where
  content-passed : {next : ℕ} → end_of (section_at library at) ≡ Ok (Some next) → Passed library f k (section_at library at) next
  unfolding section_by ending
  content-passed {next} =
      rw (record-framed One library fills (content_body library) at (first-expected library fills at ∙ o)) (go (leb (f.body + id_size f + 2) f.end) (leb-true (f.body + id_size f + 2) f.end))
    where
      fixed : f.body + id_size f + 2 ≤ f.end → (w : ReadOutcome (List Fixup)) → many library (fixups_at library) k ≡ w
          → end_of (and_then w λ fixups. give (section_of (content_here library f) fixups)) ≡ Ok (Some next)
          → Passed library f k (and_then w λ fixups. give (section_of (content_here library f) fixups)) next
      fixed r (read fixups end) q e = let z : end ≡ next = cc in record { room = r; is = rw (many-items library (fixups_at library) k q, z) }
      fixed r stop q e = never e
      fixed r (refused x) q e = never-refused e

      go : (t : Bool) → (t ≡ true → f.body + id_size f + 2 ≤ f.end)
          → end_of (and_then (and_then (and_then (if t then read (content_here library f) (f.body + id_size f + 2) else stop) λ c rest. whole c f rest) λ a left. read a k) λ content. λ m. and_then (many library (fixups_at library) m) λ fixups. give (section_of content fixups)) ≡ Ok (Some next)
          → Passed library f k (and_then (and_then (and_then (if t then read (content_here library f) (f.body + id_size f + 2) else stop) λ c rest. whole c f rest) λ a left. read a k) λ content. λ m. and_then (many library (fixups_at library) m) λ fixups. give (section_of content fixups)) next
      go true r e = fixed (r refl) (many library (fixups_at library) k) refl e
      go false r e = never e

  pub section-passed : {next : ℕ} → end_of (sections_at library at) ≡ Ok (Some next) → Passed library f k (sections_at library at) next
  unfolding sections_by
  section-passed {next} = go (fills (byte_at library at)) refl
    where
      none : stop ≡ read f k → {B : Type 0} → B
      none e = let z : ◌≡◌ {A = ℕ} 0 1 = cc in absurd (omega arith)

      go : (t : Bool) → fills (byte_at library at) ≡ t → end_of (if t then section_at library at else record_of library is_idle (whole []) at) ≡ Ok (Some next)
          → Passed library f k (if t then section_at library at else record_of library is_idle (whole []) at) next
      go true t e = content-passed e
      go false t e = none (sym (not-expected library fills at t) ∙ o)

-- a record that was skipped
pub section-skipped : (library : List ℕ) (at : ℕ) {next : ℕ} → Absent (expected library fills at) → end_of (sections_at library at) ≡ Ok (Some next) → sections_at library at ≡ read [] next
unfolding sections_by section_by record_by expected_by
section-skipped library at {next} a = go (fills (byte_at library at))
  where
    idle : (o : ReadOutcome Frame) → end_of (and_then o λ f k. read no_section k) ≡ Ok (Some next) → (and_then o λ f k. read no_section k) ≡ read [] next
    idle (read f k) e = let z : k ≡ next = cc in rw z
    idle stop e = never e
    idle (refused r) e = never-refused e

    content : (o : ReadOutcome Frame) → Absent o
        → end_of (and_then (and_then o λ f k. and_then (content_body library f f.body) λ a left. read a k) λ content m. and_then (many library (fixups_at library) m) λ fixups. give (section_of content fixups)) ≡ Ok (Some next)
        → (and_then (and_then o λ f k. and_then (content_body library f f.body) λ a left. read a k) λ content m. and_then (many library (fixups_at library) m) λ fixups. give (section_of content fixups)) ≡ read [] next
    content (read f k) a e = absurd a
    content stop a e = never e
    content (refused r) a e = never-refused e

    go : (t : Bool) → end_of (if t then section_at library at else record_of library is_idle (whole []) at) ≡ Ok (Some next)
        → (if t then section_at library at else record_of library is_idle (whole []) at) ≡ read [] next
    go true e = content (expected library fills at) a e
    go false e = idle (expected library is_idle at) e
