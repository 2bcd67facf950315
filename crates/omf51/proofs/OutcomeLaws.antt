-- What a reader comes to, in one word for its three outcomes; one reader after another, a repetition, a record. Assumes
-- nothing.
use Prim.Native.Nat.{ℕ, zero, suc, ◌+◌, ◌≤◌, ◌<◌}
use Rattle.std.specs.Prelude.{◌≡◌, Bool, false, eqb, ltb, if◌then◌else◌}
use Rattle.std.proofs.Math.Path.{refl}
use Rattle.std.proofs.Common.{sym, ◌∙◌, arith}
use Rattle.std.proofs.Math.Bool.{true}
use mathlib.Core.List.{List, [], ◌∷◌, ◌++◌}
use borrow.Author.Tests.{ltb-true, ltb-false, leb-true, leb-false, eqb-true, eqb-false, le-leb, lt-leb}
use Rattle.std.proofs.Math.Dec.{leb}
use Rattle.std.proofs.Math.ListN.{length}
use Rattle.lent.specs.declared.refusal.Refusal.{Refusal}
use Rattle.lent.specs.declared.refusal.Refusal.TheVariants.{BodyPastEnd, LengthZero, WrongSum, LeftOver}
use Rattle.lent.specs.ChoiceLaws.{chosen}
use Rattle.lent.specs.Lists.{one}
use Rattle.lent.specs.Parts.{byte_at}
use Rattle.omf51.specs.declared.Edition.{Edition}
use Rattle.omf51.specs.declared.Edition.TheVariants.{One, Two}
use Rattle.omf51.specs.declared.Frame.{Frame}
use Rattle.omf51.specs.Reader.{ReadOutcome, read, stop, refused, Reader, and_then, after, repeat, many, not_empty, at_least_one}
use Rattle.omf51.specs.Record.{expected, record_sum, summed, expected_by, used_up, record_by}
use Rattle.omf51.proofs.RecordLaws.{Framed, cut, empty, past, unclosed, whole, framed}
use Rattle.omf51.specs.Entry.{ending, name_part, name_with, definition_of, definition_at, fixup_at}
use Rattle.omf51.proofs.EntryLaws.{name-cut, name-whole}
use Rattle.omf51.specs.Reaches.{State, expects, frame_of, length_at, behind, definition_end, fixup_end, entries_end, least, used, HasLengthZero}
use Rattle.omf51.specs.Reaches.{HasBodyPastEnd, Whole, Summed, HasWrongSum, HasLeftOver, Taken, Stops, other-type, no_lengths, no-checksum, rejected}

-- what holds of a thing that was read and of the place behind it; of a stop; of a refusal
pub data Out {A : Type 0} (R : A → ℕ → Type 0) (S : Type 0) (F : Refusal → Type 0) : ReadOutcome A → Type 0 where
  reads : (a : A) (next : ℕ) → R a next → Out R S F (read a next)
  stops : S → Out R S F stop
  refuses : (r : Refusal) → F r → Out R S F (refused r)

pub then-out : {A B : Type 0} {R : A → ℕ → Type 0} {T : B → ℕ → Type 0} {S U : Type 0} {F G : Refusal → Type 0} {o : ReadOutcome A} (f : A → Reader B)
    → Out R S F o → (S → U) → ((r : Refusal) → F r → G r) → ((a : A) (next : ℕ) → R a next → Out T U G (f a next)) → Out T U G (and_then o f)
then-out f (reads a next h) s e g = g a next h
then-out f (stops h) s e g = stops (s h)
then-out f (refuses r h) s e g = refuses r (e r h)

pub map-out : {A : Type 0} {R T : A → ℕ → Type 0} {S U : Type 0} {F G : Refusal → Type 0} {o : ReadOutcome A}
    → Out R S F o → (S → U) → ((r : Refusal) → F r → G r) → ((a : A) (next : ℕ) → R a next → T a next) → Out T U G o
map-out (reads a next h) s e g = reads a next (g a next h)
map-out (stops h) s e g = stops (s h)
map-out (refuses r h) s e g = refuses r (e r h)

-- a repetition: what is kept from turn to turn, each turn taking a byte at least, and what holds where a turn stops
module _ {A : Type 0} (library : List ℕ) (each : Reader (List A)) (Kept After : List A → ℕ → Type 0) {F : Refusal → Type 0} where
  repeat-out : ((found : List A) (at : ℕ) → Kept found at → at ≤ length library)
      → ((found : List A) (at : ℕ) → Kept found at → Out (λ more next. Kept (found ++ more) next × (at < next)) (After found at) F (each at))
      → (n : ℕ) (found : List A) (at : ℕ) → Kept found at → length library < n + at → Out After ⊥ F (repeat n each found at)
  unfolding repeat
  repeat-out inside turn zero found at k h = absurd (omega (arith, inside found at k))
  repeat-out inside turn (suc n) found at k h = go (turn found at k) (repeat-out inside turn n)
    where
      go : {o : ReadOutcome (List A)} → Out (λ more next. Kept (found ++ more) next × (at < next)) (After found at) F o
          → ((f : List A) (p : ℕ) → Kept f p → length library < n + p → Out After ⊥ F (repeat n each f p))
          → Out After ⊥ F (after (repeat n each) found at o)
      go (reads more next q) rest = rest (found ++ more) next q.0 (omega (arith, q.1))
      go (stops q) rest = reads found at q
      go (refuses r q) rest = refuses r q

  pub many-out : ((found : List A) (at : ℕ) → Kept found at → at ≤ length library)
      → ((found : List A) (at : ℕ) → Kept found at → Out (λ more next. Kept (found ++ more) next × (at < next)) (After found at) F (each at))
      → (at : ℕ) → Kept [] at → Out After ⊥ F (many library each at)
  many-out inside turn at k = repeat-out inside turn (suc (length library)) [] at k (omega arith)

-- the reader of a body: it takes a body that goes up to `need`, and reads it up to `last`; it rejects a shorter one
pub data Within {A : Type 0} (P : A → Type 0) (need last end : ℕ) : ReadOutcome A → Type 0 where
  takes : (a : A) → need ≤ end → P a → Within P need last end (read a last)
  rejects : end < need → Within P need last end stop

abbrev pub anything : {A : Type 0} → A → Type 0
anything a = Unit

pub ending-within : {A : Type 0} (P : A → Type 0) (f : Frame) (a : A) (next : ℕ) → P a → Within P next next f.end (ending f a next)
unfolding ending
ending-within P f a next h =
    chosen (Within P next next f.end) (leb next f.end) (λ e. takes a (leb-true next f.end e) h) (λ e. rejects (leb-false next f.end e))

-- what was read is made into another thing, and its end into another place
pub then-within : {A B : Type 0} {P : A → Type 0} {Q : B → Type 0} {need last end : ℕ} {o : ReadOutcome A} (b : A → B) (next : ℕ → ℕ)
    → Within P need last end o → ((a : A) → P a → Q (b a)) → Within Q need (next last) end (and_then o λ a left. read (b a) (next left))
then-within b next (takes a q w) g = takes (b a) q (g a w)
then-within b next (rejects q) g = rejects q

pub name-within : (more : ℕ) (library : List ℕ) (f : Frame) (at : ℕ)
    → Within (λ name. name ≡ name_part library at) (at + 1 + byte_at library at + more) (at + 1 + byte_at library at + more) f.end (name_with more library f at)
name-within more library f at = go (leb need f.end) refl
  where
    need : ℕ
    need = at + 1 + byte_at library at + more

    go : (t : Bool) → leb need f.end ≡ t → Within (λ name. name ≡ name_part library at) need need f.end (name_with more library f at)
    go true e =
        let h : need ≤ f.end = leb-true need f.end e in
        rw (name-whole library f at refl more h) (takes (name_part library at) h refl)
    go false e =
        let h : f.end < need = leb-false need f.end e in
        rw (name-cut library f at refl more h) (rejects h)

-- entries: the first one decides whether the body is taken, and they are read as far as whole ones follow one another
abbrev Filled : {A : Type 0} → List A → Type 0
Filled [] = ⊥
Filled (x ∷ xs) = Unit

module _ {A : Type 0} (library : List ℕ) (end : ℕ) (each : Reader (List A)) (entry : ℕ → ℕ) (h : (at : ℕ) → Within Filled (entry at) (entry at) end (each at)) where
  abbrev Some : ℕ → ReadOutcome (List A) → Type 0
  Some last = Within Filled last last last

  -- once there is an entry, the count is the same for the readers and for their ends
  more_within : (n : ℕ) (x : A) (xs : List A) (k : ℕ) → Some (entries_end entry end n k) (repeat n each (x ∷ xs) k)
  unfolding repeat entries_end
  more_within zero x xs k = takes (x ∷ xs) (omega arith) tt
  more_within (suc n) x xs k = turn (h k) (more_within n x)
    where
      turn : {o : ReadOutcome (List A)} → Within Filled (entry k) (entry k) end o
          → ((ys : List A) (p : ℕ) → Some (entries_end entry end n p) (repeat n each (x ∷ ys) p))
          → Some (if leb (entry k) end then entries_end entry end n (entry k) else k) (after (repeat n each) (x ∷ xs) k o)
      turn (takes ys q w) rest = rw (le-leb (entry k) end q) (rest (xs ++ ys) (entry k))
      turn (rejects q) rest = rw (lt-leb (entry k) end q) (takes (x ∷ xs) (omega arith) tt)

  pub least-within : (at : ℕ) → Within anything (entry at) (entries_end entry end (suc (length library)) at) end (at_least_one library each at)
  unfolding repeat entries_end
  least-within at = go (h at)
    where
      full : {last : ℕ} {o : ReadOutcome (List A)} → entry at ≤ end → Some last o → Within anything (entry at) last end (and_then o not_empty)
      full q (takes [] p w) = absurd w
      full q (takes (x ∷ xs) p w) = takes (x ∷ xs) q tt
      full q (rejects p) = absurd (omega (arith, p))

      go : {o : ReadOutcome (List A)} → Within Filled (entry at) (entry at) end o
          → Within anything (entry at) (if leb (entry at) end then entries_end entry end (length library) (entry at) else at) end (and_then (after (repeat (length library) each) [] at o) not_empty)
      go (takes [] q w) = absurd w
      go (takes (x ∷ xs) q w) = rw (le-leb (entry at) end q) (full q (more_within (length library) x xs (entry at)))
      go (rejects q) = rejects q

-- and no further one fits behind them: a count of one more than the library's bytes is enough
entries-last : (entry : ℕ → ℕ) (end : ℕ) → ((k : ℕ) → k < entry k) → (n k : ℕ) → end < n + k → end < entry (entries_end entry end n k)
unfolding entries_end
entries-last entry end more zero k h = omega (arith, more k)
entries-last entry end more (suc n) k h =
    chosen (λ last. end < entry last) (leb (entry k) end) (λ t. entries-last entry end more n (entry k) (omega (arith, more k))) (λ t. leb-false (entry k) end t)

module _ (library : List ℕ) (f : Frame) (inside : f.end ≤ length library) where
  pub definitions-last : f.end < definition_end library f (entries_end (definition_end library f) f.end (suc (length library)) f.body)
  definitions-last = entries-last (definition_end library f) f.end (λ k. omega arith) (suc (length library)) f.body (omega arith)

  pub fixups-last : f.end < fixup_end library f (entries_end (fixup_end library f) f.end (suc (length library)) f.body)
  fixups-last = entries-last (fixup_end library f) f.end (λ k. omega arith) (suc (length library)) f.body (omega arith)

pub definition-within : (library : List ℕ) (f : Frame) (at : ℕ)
    → Within Filled (definition_end library f at) (definition_end library f at) f.end (definition_at library f at)
unfolding definition_at
definition-within library f at =
    then-within (λ name. one (definition_of library f at name)) (λ next. next) (ending-within anything f _ (definition_end library f at) tt) (λ name w. tt)

pub fixup-within : (library : List ℕ) (f : Frame) (at : ℕ) → Within Filled (fixup_end library f at) (fixup_end library f at) f.end (fixup_at library f at)
unfolding fixup_at
fixup-within library f at = ending-within Filled f _ _ tt

-- a record refuses with 6, 7, 14 or 15 alone
pub data Refuses (e : Edition) (library : List ℕ) (s : State) (at : ℕ) : Refusal → Type 0 where
  zero-length : HasLengthZero library s at → Refuses e library s at LengthZero
  body-past : HasBodyPastEnd library s at → Refuses e library s at BodyPastEnd
  wrong-sum : HasWrongSum e library s at → Refuses e library s at WrongSum
  left_over : HasLeftOver e library s at → Refuses e library s at LeftOver

-- the record that is expected at a place, by the words of the place: its types are those that the place expects
module _ (library : List ℕ) (s : State) (allowed : ℕ → Bool) (at : ℕ) (same : allowed (byte_at library at) ≡ expects s (byte_at library at)) where
  abbrev Begins : Edition → Type 0 → ReadOutcome Frame → Type 0
  Begins e Q =
      Out (λ f next. (f ≡ frame_of library at) × (next ≡ behind library at) × Whole library s at × Q) (Stops e library s at) (Refuses e library s at)

  expected-out : (e : Edition) → Begins e Unit (expected library allowed at)
  unfolding expected
  expected-out e =
      chosen (Begins e Unit) (allowed (byte_at library at)) (λ t. go (sym same ∙ t) (framed library at)) (λ t. stops (other-type (sym same ∙ t)))
    where
      go : {o : ReadOutcome Frame} → expects s (byte_at library at) ≡ true → Framed library at o → Begins e Unit o
      go t (cut l) = stops (no_lengths t l)
      go t (empty l z) = refuses LengthZero (zero-length (record { expected = record { allowed = t; lengths = l }; zero-length = z }))
      go t (past b l) = refuses BodyPastEnd (body-past (record { expected = record { allowed = t; lengths = b.there }; long = b.long; past = l }))
      go t (unclosed b l) = stops (no-checksum (record { allowed = t; lengths = b.there }) b.long l)
      go t (whole b l) =
          reads (frame_of library at) (behind library at)
          (refl, refl, record { expected = record { allowed = t; lengths = b.there }; long = b.long; closed = l }, tt)

  -- edition 2 asks its sum
  expected-by : (e : Edition) → Begins e (Summed e library at) (expected_by e library allowed at)
  unfolding expected_by
  expected-by One = expected-out One
  expected-by Two =
      then-out (summed library at) (expected-out Two) (λ h. h) (λ r h. h) λ f next h.
      rw (h.0, h.1)
      (chosen (Begins Two (Summed Two library at)) (eqb (record_sum library at (behind library at)) 0)
      (λ z. reads (frame_of library at) (behind library at) (refl, refl, h.2, eqb-true (record_sum library at (behind library at)) 0 z))
      (λ z.
      refuses WrongSum (wrong-sum (record { second = refl; whole = h.2; wrong = eqb-false (record_sum library at (behind library at)) 0 z }))))

-- and its body's reader takes what the place asks
pub record-out : {A : Type 0} (e : Edition) (library : List ℕ) (s : State) (allowed : ℕ → Bool) (inner : Frame → Reader A) (P : A → Type 0) (at : ℕ)
    → allowed (byte_at library at) ≡ expects s (byte_at library at)
    → ((length_at library at ≡ 0 → ⊥)
    → Within P (least library s (frame_of library at)) (used library s (frame_of library at)) (frame_of library at).end (inner (frame_of library at) (at + 3)))
    → Out (λ a next. (next ≡ behind library at) × Taken e library s at × P a) (Stops e library s at) (Refuses e library s at) (record_by e library allowed inner at)
unfolding record_by
record-out {A} e library s allowed inner P at same body =
    then-out _ (expected-by library s allowed at same e) (λ h. h) (λ r h. h) λ f next h.
    rw (h.0, h.1) (taken e h.2 h.3 (body h.2.long))
  where
    last : ℕ
    last = used library s (frame_of library at)

    end : ℕ
    end = (frame_of library at).end

    Seen : Edition → ReadOutcome A → Type 0
    Seen e = Out (λ a next. (next ≡ behind library at) × Taken e library s at × P a) (Stops e library s at) (Refuses e library s at)

    taken : (e : Edition) {o : ReadOutcome A} → Whole library s at → Summed e library at → Within P (least library s (frame_of library at)) last end o
        → Seen e (and_then o λ a left. used_up e end a left (behind library at))
    taken e w z (rejects q) = stops (rejected w z q)
    taken One w z (takes a q h) = reads a (behind library at) (refl, record { whole = w; summed = z; body = q; used-up = tt }, h)
    taken Two w z (takes a q h) =
        chosen (Seen Two) (ltb last end)
        (λ t. refuses LeftOver (left_over (record { second = refl; whole = w; summed = z; body = q; left = ltb-true last end t })))
        (λ t. reads a (behind library at) (refl, record { whole = w; summed = z; body = q; used-up = ltb-false last end t }, h))
