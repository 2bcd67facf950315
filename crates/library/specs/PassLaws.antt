-- Laws for passing over records: where a record ends, by its frame, and the turns of repetitions of records. Assumes nothing.
use Rattle.std.specs.Prelude.{ℕ, ◌+◌, ◌≤◌, ◌<◌, ◌≡◌, refl, Bool, true, false, List, [], if◌then◌else◌}
use Rattle.std.proofs.Common.{ap, subst, ◌∙◌, arith}
use Rattle.std.proofs.Math.ListN.{length}
use Rattle.lent.specs.declared.refusal.Refusal.{Refusal}
use Rattle.lent.specs.declared.refusal.Refusal.TheVariants.{LeftOver}
use Rattle.lent.specs.ChoiceLaws.{chosen}
use Rattle.omf51.specs.declared.Edition.{Edition}
use Rattle.omf51.specs.declared.Edition.TheVariants.{One, Two}
use Rattle.omf51.specs.declared.Frame.{Frame}
use Rattle.omf51.specs.Ends.{End}
use Rattle.std.specs.Prelude.{Some, None, Ok, Err}
use Rattle.omf51.specs.declared.entry.Entries.{Entries}
use Rattle.omf51.specs.declared.entry.Entries.TheVariants.{Definitions, Fixups}
use Rattle.omf51.specs.Reader.{ReadOutcome, read, stop, refused, Reader, and_then, at_least_one}
use Rattle.omf51.specs.Record.{leaves_over, expected_by, used_up, whole, record_by}
use Rattle.omf51.proofs.RecordLaws.{FrameFits, fits_by, record-framed, used_all}
use Rattle.omf51.specs.Entry.{definition_at, fixup_at}
use Rattle.omf51.specs.Module.{fixups_by, definitions_by}
use Rattle.omf51.specs.Expected.{allows}
use Rattle.omf51.specs.Ends.{end_of}
use Rattle.library.specs.RepeatLaws.{Moved, Moves}
use Rattle.library.specs.EndLaws.{after_end, MovedEnd, end-turn, moved-end, used_end, least-end}
use Rattle.library.specs.Passes.{allowed_for, holds, record_end_by, all_end_by, body_end}
use Rattle.library.specs.BodyLaws.{definition-gave, fixup-gave}

-- every record has a type, a length and a checksum byte, so it moves
module _ {A : Type 0} (e : Edition) (library : List ℕ) (allowed : ℕ → Bool) (inner : Frame → Reader A) (at : ℕ) where
  pub record-longer : Moved library (at + 3) (record_by e library allowed inner at)
  unfolding record_by
  record-longer = go (expected_by e library allowed at) (fits_by library allowed at e)
    where
      body : (f : Frame) (next : ℕ) → at + 3 < next → next ≤ length library → (o : ReadOutcome A) → Moved library (at + 3) (and_then o λ a left. used_up e f.end a left next)
      body f next l m (read a left) = chosen (Moved library (at + 3)) (leaves_over e left f.end) (λ _. tt) (λ _. (l, m))
      body f next l m stop = tt
      body f next l m (refused r) = tt

      go : (o : ReadOutcome Frame) → FrameFits library at o
          → Moved library (at + 3) (and_then o λ f next. and_then (inner f f.body) λ a left. used_up e f.end a left next)
      go (read f next) h = body f next (omega arith) h.inside (inner f f.body)
      go stop h = tt
      go (refused r) h = tt

  pub record-moves : Moved library at (record_by e library allowed inner at)
  record-moves = go (record_by e library allowed inner at) record-longer
    where
      go : (o : ReadOutcome A) → Moved library (at + 3) o → Moved library at o
      go (read a next) m = (omega arith, m.1)
      go stop m = tt
      go (refused r) m = tt

-- a record whose body is taken whole ends where its frame does
pub whole-end : {A : Type 0} (a : A) (e : Edition) (library : List ℕ) (allowed : ℕ → Bool) (at : ℕ) {o : ReadOutcome Frame}
    → expected_by e library allowed at ≡ o → end_of (record_by e library allowed (whole a) at) ≡ end_of o
whole-end a e library allowed at {o} q = ap end_of (record-framed e library allowed (whole a) at q) ∙ go o
  where
    go : (o : ReadOutcome Frame) → end_of (and_then o λ f next. used_up e f.end a f.end next) ≡ end_of o
    go (read f next) = ap end_of (used_all e f.end a f.end next (omega arith))
    go stop = refl
    go (refused r) = refl

-- a record of entries whose frame is known: its body decides
abbrev framed_end : Edition → (ℕ → Bool) → (Frame → End) → ReadOutcome Frame → End
framed_end e has body (read f next) = if has f.kind then used_end e f.end next (body f) else Ok (Some next)
framed_end e has body stop = Ok None
framed_end e has body (refused r) = Err r

entries-end : {A : Type 0} (e : Edition) (library : List ℕ) (allowed has : ℕ → Bool) (each : Frame → Reader (List A)) (ends : Frame → End)
    → ((f : Frame) (next : ℕ) → used_end e f.end next (end_of (at_least_one library (each f) f.body)) ≡ used_end e f.end next (ends f))
    → (at : ℕ) {o : ReadOutcome Frame} → expected_by e library allowed at ≡ o
    → end_of (record_by e library allowed (λ f. if has f.kind then at_least_one library (each f) else whole [] f) at) ≡ framed_end e has ends o
entries-end {A} e library allowed has each ends same at {o} q = ap end_of (record-framed e library allowed _ at q) ∙ go o
  where
    either : (t : Bool) (left end next : ℕ) (a : List A) → end_of (if t then refused LeftOver else read a next) ≡ (if t then Err LeftOver else Ok (Some next))
    either true left end next a = refl
    either false left end next a = refl

    closed : (end next : ℕ) (o : ReadOutcome (List A)) → end_of (and_then o λ a left. used_up e end a left next) ≡ used_end e end next (end_of o)
    closed end next (read a left) = either (leaves_over e left end) left end next a
    closed end next stop = refl
    closed end next (refused r) = refl

    body : (f : Frame) (next : ℕ) (t : Bool)
        → end_of (and_then ((if t then at_least_one library (each f) else whole [] f) f.body) λ a left. used_up e f.end a left next)
        ≡ (if t then used_end e f.end next (ends f) else Ok (Some next))
    body f next true = closed f.end next (at_least_one library (each f) f.body) ∙ same f next
    body f next false = ap end_of (used_all e f.end _ f.end next (omega arith))

    go : (o : ReadOutcome Frame)
        → end_of (and_then o λ f next. and_then ((if has f.kind then at_least_one library (each f) else whole [] f) f.body) λ a left. used_up e f.end a left next)
        ≡ framed_end e has ends o
    go (read f next) = body f next (has f.kind)
    go stop = refl
    go (refused r) = refl

record-end : (e : Edition) (what : Entries) (library : List ℕ) (at : ℕ) {o : ReadOutcome Frame} → expected_by e library (allows (allowed_for what)) at ≡ o
    → record_end_by e what library at ≡ framed_end e (holds what) (body_end e what library) o
unfolding definitions_by fixups_by
record-end One Definitions library at q =
    entries-end One library _ (holds Definitions) (definition_at library) (body_end One Definitions library) (λ f next. least-end library _ (definition-gave library f) f.body f.end next) at q
record-end One Fixups library at q =
    entries-end One library _ (holds Fixups) (fixup_at library) (body_end One Fixups library) (λ f next. least-end library _ (fixup-gave library f) f.body f.end next) at q
record-end Two Definitions library at q = entries-end Two library _ (holds Definitions) (definition_at library) (body_end Two Definitions library) (λ f next. refl) at q
record-end Two Fixups library at q = entries-end Two library _ (holds Fixups) (fixup_at library) (body_end Two Fixups library) (λ f next. refl) at q

-- the cases that the code tells apart
module _ (e : Edition) (what : Entries) (library : List ℕ) (at : ℕ) where
  pub record-halts : expected_by e library (allows (allowed_for what)) at ≡ stop → record_end_by e what library at ≡ Ok None
  record-halts q = record-end e what library at q

  pub record-refuses : {r : Refusal} → expected_by e library (allows (allowed_for what)) at ≡ refused r → record_end_by e what library at ≡ Err r
  record-refuses q = record-end e what library at q

  module _ {f : Frame} {next : ℕ} (q : expected_by e library (allows (allowed_for what)) at ≡ read f next) where
    pub record-holds : holds what f.kind ≡ true → record_end_by e what library at ≡ used_end e f.end next (body_end e what library f)
    record-holds h = record-end e what library at q ∙ rw h

    pub record-skipped : holds what f.kind ≡ false → record_end_by e what library at ≡ Ok (Some next)
    record-skipped h = record-end e what library at q ∙ rw h

-- the turn of all such records
pub definitions-move : (e : Edition) (library : List ℕ) → Moves library (definitions_by e library)
unfolding definitions_by
definitions-move e library at = record-moves e library _ _ at

pub fixups-move : (e : Edition) (library : List ℕ) → Moves library (fixups_by e library)
unfolding fixups_by
fixups-move e library at = record-moves e library _ _ at

pub all-turn : (e : Edition) (what : Entries) (library : List ℕ) (at : ℕ) {x : End} → record_end_by e what library at ≡ x
    → all_end_by e what library at ≡ after_end (all_end_by e what library) at x
all-turn e Definitions library at q = end-turn library (definitions_by e library) (definitions-move e library) at q
all-turn e Fixups library at q = end-turn library (fixups_by e library) (fixups-move e library) at q

pub record-moved : (e : Edition) (what : Entries) (library : List ℕ) (at : ℕ) {x : End} → record_end_by e what library at ≡ x → MovedEnd library (at + 3) x
unfolding definitions_by fixups_by
record-moved e Definitions library at q = subst (MovedEnd library (at + 3)) q (moved-end library (at + 3) (definitions_by e library at) (record-longer e library _ _ at))
record-moved e Fixups library at q = subst (MovedEnd library (at + 3)) q (moved-end library (at + 3) (fixups_by e library at) (record-longer e library _ _ at))
