-- Contents with their fixups, and records that are skipped among contents: where each ends, and the turns of a
-- repetition of them. Assumes nothing.
use Rattle.std.specs.Prelude.{ℕ, ◌+◌, ◌≤◌, ◌<◌, ◌≡◌, refl, true, false}
use Rattle.std.proofs.Math.Path.{ap}
use Rattle.std.proofs.Common.{subst, ◌∙◌, arith}
use mathlib.Core.List.{List, []}
use Rattle.lent.specs.declared.refusal.Refusal.{Refusal}
use Rattle.lent.specs.ChoiceLaws.{chosen}
use Rattle.lent.specs.Parts.{byte_at}
use Rattle.omf51.specs.declared.Edition.{Edition}
use Rattle.omf51.specs.declared.Frame.{Frame}
use Rattle.omf51.specs.Ends.{End}
use Rattle.std.specs.Prelude.{Some, None, Ok, Err}
use Rattle.omf51.specs.declared.entry.Entries.TheVariants.{Fixups}
use Rattle.omf51.specs.Reader.{ReadOutcome, read, stop, refused, and_then, give, many}
use Rattle.omf51.specs.Record.{expected_by, whole, record_by}
use Rattle.omf51.proofs.RecordLaws.{record-framed, used_all}
use Rattle.omf51.specs.Entry.{id_size}
use Rattle.omf51.proofs.EntryLaws.{whole-within, cut-past}
use Rattle.omf51.specs.Module.{fills, is_idle, fixups_by, content_body, section_by, sections_by}
use Rattle.omf51.specs.Ends.{end_of}
use Rattle.library.specs.RepeatLaws.{Moved, Moves, then-moves, then-stays, many-stays}
use Rattle.library.specs.EndLaws.{after_end, then_end, MovedEnd, end-turn, moved-end, then-end}
use Rattle.library.specs.Passes.{all_end_by, sections_end_by}
use Rattle.library.specs.PassLaws.{record-moves, whole-end, fixups-move}

give-end : {A B : Type 0} (g : A → B) (o : ReadOutcome A) → end_of (and_then o λ a. give (g a)) ≡ end_of o
give-end g (read a next) = refl
give-end g stop = refl
give-end g (refused r) = refl

-- a content whose record is known
module _ (e : Edition) (library : List ℕ) (at : ℕ) where
  content-then : {x : End} → end_of (record_by e library fills (content_body library) at) ≡ x → end_of (section_by e library at) ≡ then_end (all_end_by e Fixups library) x
  unfolding section_by
  content-then q =
      then-end (record_by e library fills (content_body library) at) _ (all_end_by e Fixups library) (λ content next. give-end _ (many library (fixups_by e library) next))
      ∙ ap (then_end (all_end_by e Fixups library)) q

  pub content-halts : expected_by e library fills at ≡ stop → end_of (section_by e library at) ≡ Ok None
  content-halts q = content-then (ap end_of (record-framed e library fills (content_body library) at q))

  pub content-refuses : {r : Refusal} → expected_by e library fills at ≡ refused r → end_of (section_by e library at) ≡ Err r
  content-refuses q = content-then (ap end_of (record-framed e library fills (content_body library) at q))

  module _ {f : Frame} {next n : ℕ} (q : expected_by e library fills at ≡ read f next) (ids : n ≡ id_size f) where
    pub content-cut : f.end < f.body + n + 2 → end_of (section_by e library at) ≡ Ok None
    content-cut h =
        content-then {x = Ok None} (ap end_of (record-framed e library fills (content_body library) at q) ∙ rw (cut-past f _ {next = f.body + id_size f + 2} (omega arith)))

    pub content-whole : f.body + n + 2 ≤ f.end → end_of (section_by e library at) ≡ all_end_by e Fixups library next
    content-whole h =
        content-then {x = Ok (Some next)}
        (ap end_of (record-framed e library fills (content_body library) at q)
        ∙ rw (whole-within f _ {next = f.body + id_size f + 2} (omega arith)) (ap end_of (used_all e f.end _ f.end next (omega arith))))

  -- one among contents, by its type
  pub section-content : fills (byte_at library at) ≡ true → end_of (sections_by e library at) ≡ end_of (section_by e library at)
  unfolding sections_by
  section-content t = rw t

  pub section-idle : fills (byte_at library at) ≡ false → {o : ReadOutcome Frame} → expected_by e library is_idle at ≡ o → end_of (sections_by e library at) ≡ end_of o
  unfolding sections_by
  section-idle n q = rw n (whole-end [] e library is_idle at q)

content-moves : (e : Edition) (library : List ℕ) → Moves library (section_by e library)
unfolding section_by
content-moves e library at =
    then-moves library at _
    (λ content next h. then-stays library next _ (λ xs k l. (omega arith, l)) (many library (fixups_by e library) next) (many-stays library (fixups_by e library) (fixups-move e library) next h))
    (record_by e library fills (content_body library) at)
    (record-moves e library fills (content_body library) at)

pub sections-move : (e : Edition) (library : List ℕ) → Moves library (sections_by e library)
unfolding sections_by
sections-move e library at =
    chosen (Moved library at) (fills (byte_at library at)) (λ _. content-moves e library at) (λ _. record-moves e library is_idle (whole []) at)

pub sections-turn : (e : Edition) (library : List ℕ) (at : ℕ) {x : End} → end_of (sections_by e library at) ≡ x → sections_end_by e library at ≡ after_end (sections_end_by e library) at x
sections-turn e library at q = end-turn library (sections_by e library) (sections-move e library) at q

pub section-moved : (e : Edition) (library : List ℕ) (at : ℕ) {x : End} → end_of (sections_by e library at) ≡ x → MovedEnd library at x
section-moved e library at q = subst (MovedEnd library at) q (moved-end library at (sections_by e library at) (sections-move e library at))
