-- Reading has one path through the file, in either edition: it ends in no two ways, so it ends with a refusal of 5 to 8,
-- 14 and 15, or with none, exactly if the file is so. Assumes nothing.
use Prim.Native.Nat.{ℕ, zero, suc, ◌+◌, ◌≤◌, ◌<◌}
use Rattle.std.specs.Prelude.{◌≡◌, ◌↔◌, List, eqb, ltb, length, if◌then◌else◌}
use Rattle.std.proofs.Math.Path.{refl, ap, subst}
use Rattle.std.proofs.Common.{sym, ◌∙◌, lt-ltb, le-ltb, eq-eqb, ne_eqb}
use Rattle.std.proofs.Math.Option.{Option, none, some}
use native.Mathlib.Omega.{arith}
use Rattle.lent.specs.declared.refusal.Refusal.{Refusal}
use Rattle.lent.specs.declared.refusal.Refusal.TheVariants.{RuleSet, ImageTooLong, LibraryTooLong, StretchPastEnd, NoModule, BodyPastEnd, LengthZero, NamesDiffer, TooFewRows, UnknownKind}
use Rattle.lent.specs.declared.refusal.Refusal.TheVariants.{UnknownBlock, ContentPastSegment, NoKeptSegment, WrongSum, LeftOver, TooManyStretches, TooDeep, NotBanked, OtherEdition}
use Rattle.lent.specs.Parts.{byte_at, same_name}
use Rattle.omf51.specs.declared.Edition.{Edition}
use Rattle.omf51.specs.declared.Edition.TheVariants.{One, Two}
use Rattle.omf51.specs.declared.Frame.{Frame}
use Rattle.omf51.specs.Reader.{ReadOutcome, read, stop, refused, and_then}
use Rattle.omf51.specs.Record.{frame_at, expected, expected_by, used_up, record_by}
use Rattle.omf51.proofs.RecordLaws.{expected-there, not-expected, record-framed, used_all, used-short, frame-cut, frame-empty, frame_past, frame-unclosed, frame-whole, sum-right, sum-wrong}
use Rattle.omf51.specs.Entry as Entry
use Rattle.omf51.proofs.EntryLaws.{whole-within, cut-past}
use Rattle.omf51.specs.Module.{fills}
use Rattle.omf51.specs.File.{file_by, file_refusal}
use Rattle.omf51.specs.Reaches.{State, opening, header, definitions, contents, fixups, ending, closing28, closing26, closing_2a, expects, length_at, frame_of, behind, name_in, least}
use Rattle.omf51.specs.Reaches.{used, HasLengthZero, HasBodyPastEnd, Whole, Summed, UsedUp, HasWrongSum, HasLeftOver, Taken, Stops, other-type, no_lengths, no-checksum, rejected, ComesTo}
use Rattle.omf51.specs.Reaches.{is-library, is-bare, opened, headed, defined, all-defined, filled, fixed, all-fixed, skipped, all-filled, ended}
use Rattle.omf51.specs.Reaches.{no_header, no_end, closed28, closed26, NothingRead, no-opening, no-first-header, no-first-end, lacks-28, lacks-26, lacks-2a, AllRead}
use Rattle.omf51.specs.Reaches.{closed_2a, bare-header, bare-end, LeavesOver, in_body, in-file, Ends}
use Rattle.omf51.proofs.ReachesLaws.{reading-ends}

-- one turn leads to a further place, or to the last one, behind all modules, or is the last
data Move : Type 0 where
  goes : State → ℕ → Move
  done : ℕ → Move
  ends : Option Refusal → Move

-- what the record at a place comes to, and where the reading of its body ends
abbrev look_at : Edition → List ℕ → State → ℕ → ReadOutcome ℕ
look_at e library s = record_by e library (expects s) λ f k. and_then (Entry.ending f (used library s f) (least library s f)) λ last next. read last last

module _ (library : List ℕ) (s : State) (at : ℕ) where
  abbrev f : Frame
  f = frame_of library at

  abbrev last : ℕ
  last = used library s f

  -- a record that is not whole, in either edition
  looks-cut : (e : Edition) → expected library (expects s) at ≡ stop → look_at e library s at ≡ stop
  unfolding record_by expected_by
  looks-cut One q = rw q
  looks-cut Two q = rw q

  looks-refused : (e : Edition) (r : Refusal) → expected library (expects s) at ≡ refused r → look_at e library s at ≡ refused r
  unfolding record_by expected_by
  looks-refused One r q = rw q
  looks-refused Two r q = rw q

  -- a whole one
  expected-whole : Whole library s at → expected library (expects s) at ≡ read f (behind library at)
  expected-whole w =
      let last : at + 2 + length_at library at + 1 ≡ behind library at = omega arith in
      expected-there library (expects s) at w.expected.allowed
      ∙ subst (λ n. frame_at library at ≡ read f n) last (frame-whole library at w.expected.lengths refl w.long (omega (arith, w.closed)))

  summed-whole : (e : Edition) → Whole library s at → Summed e library at → expected_by e library (expects s) at ≡ read f (behind library at)
  unfolding expected_by
  summed-whole One w z = expected-whole w
  summed-whole Two w z = sum-right library (expects s) at (expected-whole w) z

  -- its body is taken, or rejected
  module _ (e : Edition) (w : Whole library s at) (z : Summed e library at) where
    looks-whole : least library s f ≤ f.end → look_at e library s at ≡ used_up e f.end last last (behind library at)
    looks-whole h = record-framed e library (expects s) _ at (summed-whole e w z) ∙ rw (whole-within f last {next = least library s f} h)

    looks-rejected : f.end < least library s f → look_at e library s at ≡ stop
    looks-rejected h = record-framed e library (expects s) _ at (summed-whole e w z) ∙ rw (cut-past f last {next = least library s f} h)

  looks-taken : (e : Edition) → Taken e library s at → look_at e library s at ≡ read last (behind library at)
  looks-taken One t = looks-whole One t.whole t.summed t.body
  looks-taken Two t = looks-whole Two t.whole t.summed t.body ∙ used_all Two f.end last last (behind library at) t.used-up

  looks-stop : (e : Edition) → Stops e library s at → look_at e library s at ≡ stop
  looks-stop e (other-type t) = looks-cut e (not-expected library (expects s) at t)
  looks-stop e (no_lengths t l) = looks-cut e (expected-there library (expects s) at t ∙ frame-cut library at l)
  looks-stop e (no-checksum x z l) = looks-cut e (expected-there library (expects s) at x.allowed ∙ frame-unclosed library at x.lengths refl z l)
  looks-stop e (rejected w z h) = looks-rejected e w z h

  looks-zero : (e : Edition) → HasLengthZero library s at → look_at e library s at ≡ refused LengthZero
  looks-zero e h =
      looks-refused e LengthZero (expected-there library (expects s) at h.expected.allowed ∙ frame-empty library at h.expected.lengths h.zero-length)

  looks-past : (e : Edition) → HasBodyPastEnd library s at → look_at e library s at ≡ refused BodyPastEnd
  looks-past e h =
      looks-refused e BodyPastEnd (expected-there library (expects s) at h.expected.allowed ∙ frame_past library at h.expected.lengths refl h.long h.past)

  looks-wrong : (e : Edition) → HasWrongSum e library s at → look_at e library s at ≡ refused WrongSum
  looks-wrong e h =
      rw h.second (record-framed Two library (expects s) _ at (sum-wrong library (expects s) at (expected-whole h.whole) h.wrong))

  looks-over : (e : Edition) → HasLeftOver e library s at → look_at e library s at ≡ refused LeftOver
  looks-over e h =
      looks-whole e h.whole h.summed h.body ∙ rw h.second (used-short f.end last last (behind library at) h.left)

module _ (e : Edition) (library : List ℕ) where
  -- after a module that can't be read, so many being read before it
  abbrev missing : ℕ → ℕ → Move
  missing zero at = ends (some NoModule)
  missing (suc k) at = if eqb (byte_at library 0) 0x2c then goes closing28 at else done at

  abbrev after_read : State → ℕ → ℕ → Move
  after_read opening at next = goes (header 0) next
  after_read (header k) at next = goes (definitions (record { before = k; start = at; name = name_in library at })) next
  after_read (definitions m) at next = goes (definitions m) next
  after_read (contents m) at next = goes (if fills (byte_at library at) then fixups m else contents m) next
  after_read (fixups m) at next = goes (fixups m) next
  after_read (ending m) at next =
      if same_name library m.name (name_in library at) then goes (header (suc m.before)) next else ends (some NamesDiffer)
  after_read closing28 at next = goes closing26 next
  after_read closing26 at next = goes closing_2a next
  after_read closing_2a at next = done next

  abbrev after_stop : State → ℕ → Move
  after_stop opening at = ends (some NoModule)
  after_stop (header k) at = missing k at
  after_stop (definitions m) at = goes (contents m) at
  after_stop (contents m) at = goes (ending m) at
  after_stop (fixups m) at = goes (contents m) at
  after_stop (ending m) at = missing m.before m.start
  after_stop closing28 at = ends (some NoModule)
  after_stop closing26 at = ends (some NoModule)
  after_stop closing_2a at = ends (some NoModule)

  abbrev after_look : State → ℕ → ReadOutcome ℕ → Move
  after_look s at (read x next) = after_read s at next
  after_look s at stop = after_stop s at
  after_look s at (refused r) = ends (some r)

  -- behind all modules the edition decides
  abbrev at_end : Edition → ℕ → Option Refusal
  at_end One last = none
  at_end Two last = if ltb last (length library) then some LeftOver else none

  abbrev onward : Move → Move
  onward (goes s at) = after_look s at (look_at e library s at)
  onward (done last) = ends (at_end e last)
  onward (ends o) = ends o

  -- the path, turn by turn; once it has ended it stays there
  path : ℕ → Move
  path zero = if eqb (byte_at library 0) 0x2c then goes opening 0 else goes (header 0) 0
  path (suc n) = onward (path n)

  stays : (n k : ℕ) {o : Option Refusal} → path n ≡ ends o → path (k + n) ≡ ends o
  unfolding path
  stays n zero {o} q = let same : 0 + n ≡ n = omega arith in subst (λ i. path i ≡ ends o) (sym same) q
  stays n (suc k) {o} q = let more : suc k + n ≡ suc (k + n) = omega arith in subst (λ i. path i ≡ ends o) (sym more) (ap onward (stays n k q))

  record Comes (m : Move) : Type 0 where
    turns : ℕ
    there : path turns ≡ m

  -- no two ends
  one_end : {o p : Option Refusal} → Comes (ends o) → Comes (ends p) → o ≡ p
  one_end a b =
      let swap : a.turns + b.turns ≡ b.turns + a.turns = omega arith in
      same (sym (stays a.turns b.turns a.there) ∙ ap path (sym swap) ∙ stays b.turns a.turns b.there)
    where
      same : {o p : Option Refusal} → ends o ≡ ends p → o ≡ p
      same e = cc

  turn : {p m : Move} → Comes p → onward p ≡ m → Comes m
  unfolding path
  turn c q = record { turns = suc c.turns; there = ap onward c.there ∙ q }

  module _ {s : State} {at : ℕ} (c : Comes (goes s at)) where
    by-look : {o : ReadOutcome ℕ} {m : Move} → look_at e library s at ≡ o → after_look s at o ≡ m → Comes m
    by-look h q = turn c (ap (after_look s at) h ∙ q)

    by_read : Taken e library s at → {m : Move} → after_read s at (behind library at) ≡ m → Comes m
    by_read t q = by-look (looks-taken library s at e t) q

    by-stop : Stops e library s at → {m : Move} → after_stop s at ≡ m → Comes m
    by-stop t q = by-look (looks-stop library s at e t) q

    by-refusal : {r : Refusal} → look_at e library s at ≡ refused r → Comes (ends (some r))
    by-refusal h = by-look h refl

  lost : (k at : ℕ) → 0 < k → byte_at library 0 ≡ 0x2c → missing k at ≡ goes closing28 at
  lost zero at h q = absurd (omega arith)
  lost (suc k) at h q = rw (eq-eqb (byte_at library 0) 0x2c q)

  left : (k at : ℕ) → 0 < k → (byte_at library 0 ≡ 0x2c → ⊥) → missing k at ≡ done at
  left zero at h q = absurd (omega arith)
  left (suc k) at h q = rw (ne_eqb (byte_at library 0) 0x2c q)

  -- each sentence is a turn
  comes : {s : State} {at : ℕ} → ComesTo e library s at → Comes (goes s at)
  unfolding path
  comes (is-library q) = record { turns = 0; there = rw (eq-eqb (byte_at library 0) 0x2c q) }
  comes (is-bare q) = record { turns = 0; there = rw (ne_eqb (byte_at library 0) 0x2c q) }
  comes (opened at c t) = by_read (comes c) t refl
  comes (headed k at c t) = by_read (comes c) t refl
  comes (defined m at c t) = by_read (comes c) t refl
  comes (all-defined m at c t) = by-stop (comes c) t refl
  comes (filled m at c t q) = by_read (comes c) t (rw q)
  comes (fixed m at c t) = by_read (comes c) t refl
  comes (all-fixed m at c t) = by-stop (comes c) t refl
  comes (skipped m at c t q) = by_read (comes c) t (rw q)
  comes (all-filled m at c t) = by-stop (comes c) t refl
  comes (ended m at c t q) = by_read (comes c) t (rw q)
  comes (no_header k at q c t) = by-stop (comes c) t (lost (suc k) at (omega arith) q)
  comes (no_end m at q c t h) = by-stop (comes c) t (lost m.before m.start h q)
  comes (closed28 at c t) = by_read (comes c) t refl
  comes (closed26 at c t) = by_read (comes c) t refl

  none_read : NothingRead e library → Comes (ends (some NoModule))
  none_read (no-opening at c t) = by-stop (comes c) t refl
  none_read (no-first-header at c t) = by-stop (comes c) t refl
  none_read (no-first-end m at c t q) = by-stop (comes c) t (rw q)
  none_read (lacks-28 at c t) = by-stop (comes c) t refl
  none_read (lacks-26 at c t) = by-stop (comes c) t refl
  none_read (lacks-2a at c t) = by-stop (comes c) t refl

  all_read : {last : ℕ} → AllRead e library last → Comes (done last)
  all_read (closed_2a at c t) = by_read (comes c) t refl
  all_read (bare-header k at n c t) = by-stop (comes c) t (left (suc k) at (omega arith) n)
  all_read (bare-end m at n c t h) = by-stop (comes c) t (left m.before m.start h n)

  is_read : (e : Edition) (last : ℕ) → UsedUp e last (length library) → at_end e last ≡ none
  is_read One last h = refl
  is_read Two last h = rw (le-ltb last (length library) h)

  leaves-over : LeavesOver e library → Comes (ends (some LeftOver))
  leaves-over (in_body s at c h) = by-refusal (comes c) (looks-over library s at e h)
  leaves-over (in-file last two h l) = turn (all_read h) (rw (two, lt-ltb last (length library) l))

  ends_there : (o : Option Refusal) → Ends e library o → Comes (ends o)
  ends_there none h = turn (all_read h.all) (ap ends (is_read e h.last h.used-up))
  ends_there (some RuleSet) h = absurd h
  ends_there (some ImageTooLong) h = absurd h
  ends_there (some LibraryTooLong) h = absurd h
  ends_there (some StretchPastEnd) h = absurd h
  ends_there (some NoModule) h = none_read h
  ends_there (some BodyPastEnd) h = by-refusal (comes h.comes) (looks-past library h.state h.at e h.here)
  ends_there (some LengthZero) h = by-refusal (comes h.comes) (looks-zero library h.state h.at e h.here)
  ends_there (some NamesDiffer) h = by_read (comes h.comes) h.taken (rw h.differ)
  ends_there (some TooFewRows) h = absurd h
  ends_there (some UnknownKind) h = absurd h
  ends_there (some UnknownBlock) h = absurd h
  ends_there (some ContentPastSegment) h = absurd h
  ends_there (some NoKeptSegment) h = absurd h
  ends_there (some WrongSum) h = by-refusal (comes h.comes) (looks-wrong library h.state h.at e h.here)
  ends_there (some LeftOver) h = leaves-over h
  ends_there (some TooManyStretches) h = absurd h
  ends_there (some TooDeep) h = absurd h
  ends_there (some NotBanked) h = absurd h
  ends_there (some OtherEdition) h = absurd h

  -- READING REFUSES, OR DOES NOT, EXACTLY AS THE FILE SAYS
  pub reading-exactly : (o : Option Refusal) → (file_refusal (file_by e library) ≡ o) ↔ Ends e library o
  reading-exactly o = (
    (λ q. subst (Ends e library) q (reading-ends e library)),
    λ h. one_end (ends_there (file_refusal (file_by e library)) (reading-ends e library)) (ends_there o h),
  )
