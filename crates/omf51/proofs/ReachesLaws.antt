-- Reading the file ends, in either edition, in one of the ways of Reaches.antt: with the refusal, or with none, that
-- `file_by` gives. Assumes nothing.
use Rattle.std.specs.Prelude.{ℕ, suc, ◌+◌, ◌≤◌, ◌<◌, ◌≡◌, Bool, true, false, eqb, ltb, length, if◌then◌else◌}
use Rattle.std.proofs.Math.Path.{refl, subst}
use Rattle.std.proofs.Common.{sym, length-append}
use mathlib.Core.List.{List, [], ◌∷◌, ◌++◌}
use Rattle.std.proofs.Math.Option.{some}
use native.Mathlib.Omega.{arith}
use borrow.Author.Tests.{ltb-true, ltb-false, eqb-true, eqb-false}
use Rattle.lent.specs.declared.refusal.Refusal.{Refusal}
use Rattle.lent.specs.declared.refusal.Refusal.TheVariants.{LeftOver}
use Rattle.lent.specs.ChoiceLaws.{chosen}
use Rattle.lent.specs.Parts.{byte_at, same_name}
use Rattle.omf51.specs.declared.Edition.{Edition}
use Rattle.omf51.specs.declared.Edition.TheVariants.{One, Two}
use Rattle.omf51.specs.declared.Frame.{Frame}
use Rattle.omf51.specs.Reader.{ReadOutcome, Reader, many, not_empty, at_least_one}
use Rattle.omf51.specs.Record.{whole, record_by}
use Rattle.omf51.specs.Entry.{id_size, definition_at, fixup_at}
use Rattle.omf51.specs.Module.{Module, definitions_by, fixups_by, content_body, section_by, sections_by, module_by, defines, fills, is_idle}
use Rattle.omf51.specs.File.{modules_by, plain_by, library_by, file_read, file_by, file_refusal}
use Rattle.omf51.specs.Reaches.{Begun, State, opening, header, definitions, contents, fixups, ending, closing28, closing26, closing_2a, expects, length_at, frame_of, behind}
use Rattle.omf51.specs.Reaches.{name_in, definition_end, fixup_end, entries_end, least, used, Taken, Stops, ComesTo, is-library, is-bare, opened, headed, defined}
use Rattle.omf51.specs.Reaches.{all-defined, filled, fixed, all-fixed, skipped, all-filled, ended, no_header, no_end, closed28, closed26, NothingRead, no-opening}
use Rattle.omf51.specs.Reaches.{no-first-header, no-first-end, lacks-28, lacks-26, lacks-2a, AllRead, closed_2a, bare-header, bare-end, in_body, in-file, FileRead, Ends}
use Rattle.omf51.proofs.OutcomeLaws.{Out, reads, stops, refuses, then-out, map-out, many-out, Within, takes, anything, ending-within}
use Rattle.omf51.proofs.OutcomeLaws.{then-within, name-within, least-within, definition-within, fixup-within, Refuses, zero-length, body-past, wrong-sum, left_over, record-out}

module _ (e : Edition) (library : List ℕ) where
  abbrev Ended : Refusal → Type 0
  Ended r = Ends e library (some r)

  -- reading comes to a place, which is inside the file and not before `low`
  record Stands (s : State) (low at : ℕ) : Type 0 where
    comes : ComesTo e library s at
    inside : at ≤ length library
    ahead : low ≤ at

  -- the record there is taken, and reading comes to the place behind it
  next-stands : {s t : State} {low at next : ℕ} → Stands s low at → Taken e library s at → next ≡ behind library at → ComesTo e library t (behind library at)
      → Stands t low next × (at < next)
  next-stands w t q c =
      (record { comes = subst (ComesTo e library _) (sym q) c; inside = omega (arith, q, t.whole.closed); ahead = omega (arith, q, w.ahead) }, omega (arith, q))

  -- a record that refuses where reading comes to it
  refusal-ends : (s : State) (at : ℕ) → ComesTo e library s at → (r : Refusal) → Refuses e library s at r → Ended r
  refusal-ends s at c r (zero-length h) = record { state = s; at = at; comes = c; here = h }
  refusal-ends s at c r (body-past h) = record { state = s; at = at; comes = c; here = h }
  refusal-ends s at c r (wrong-sum h) = record { state = s; at = at; comes = c; here = h }
  refusal-ends s at c r (left_over h) = in_body s at c h

  -- the record at a place to which reading comes
  Body : {A : Type 0} (s : State) (inner : Frame → Reader A) (P : A → Type 0) (at : ℕ) → Type 0
  Body s inner P at =
      let f = frame_of library at in
      (length_at library at ≡ 0 → ⊥) → Within P (least library s f) (used library s f) f.end (inner f (at + 3))

  module _ {A : Type 0} (s : State) (allowed : ℕ → Bool) (inner : Frame → Reader A) (P : A → Type 0) (at : ℕ) where
    record-there : ComesTo e library s at → allowed (byte_at library at) ≡ expects s (byte_at library at) → Body s inner P at
        → Out (λ a next. (next ≡ behind library at) × Taken e library s at × P a) (Stops e library s at) Ended (record_by e library allowed inner at)
    unfolding Body
    record-there c same w = map-out (record-out e library s allowed inner P at same w) (λ h. h) (refusal-ends s at c) (λ a next h. h)

  -- a body that may be empty
  fits : (at : ℕ) → (length_at library at ≡ 0 → ⊥) → at + 3 ≤ at + 2 + length_at library at
  fits at l = positive (length_at library at) l
    where
      positive : (n : ℕ) → (n ≡ 0 → ⊥) → at + 3 ≤ at + 2 + n
      positive n h = omega arith

  -- definitions
  definitions-out : (m : Begun) (low at : ℕ) → Stands (definitions m) low at
      → Out (λ more next. Stands (definitions m) low next × (at < next)) (Stops e library (definitions m) at) Ended (definitions_by e library at)
  unfolding definitions_by Body
  definitions-out m low at w =
      map-out (record-there (definitions m) _ _ anything at w.comes refl (λ l. body l (defines (byte_at library at)))) (λ h. h) (λ r h. h) λ more next h.
      next-stands w h.1 h.0 (defined m at w.comes h.1)
    where
      f : Frame
      f = frame_of library at

      body : (length_at library at ≡ 0 → ⊥) → (t : Bool)
          → Within anything (if t then definition_end library f f.body else f.body) (if t then entries_end (definition_end library f) f.end (suc (length library)) f.body else f.end) f.end
          ((if t then at_least_one library (definition_at library f) else whole [] f) (at + 3))
      body l true = least-within library f.end (definition_at library f) (definition_end library f) (definition-within library f) (at + 3)
      body l false = takes [] (fits at l) tt

  all-definitions : (m : Begun) (low at : ℕ) → Stands (definitions m) low at
      → Out (λ found next. Stands (contents m) low next) ⊥ Ended (many library (definitions_by e library) at)
  all-definitions m low =
      many-out library (definitions_by e library) (λ found at. Stands (definitions m) low at) (λ found at. Stands (contents m) low at) (λ found at w. w.inside) λ found at w.
      map-out (definitions-out m low at w)
      (λ h. record { comes = all-defined m at w.comes h; inside = w.inside; ahead = w.ahead }) (λ r h. h) (λ more next h. h)

  -- fixups
  fixups-out : (m : Begun) (low at : ℕ) → Stands (fixups m) low at
      → Out (λ more next. Stands (fixups m) low next × (at < next)) (Stops e library (fixups m) at) Ended (fixups_by e library at)
  unfolding fixups_by Body
  fixups-out m low at w =
      map-out (record-there (fixups m) _ _ anything at w.comes refl (λ l. body)) (λ h. h) (λ r h. h) λ more next h.
      next-stands w h.1 h.0 (fixed m at w.comes h.1)
    where
      f : Frame
      f = frame_of library at

      body : Within anything (fixup_end library f f.body) (entries_end (fixup_end library f) f.end (suc (length library)) f.body) f.end
          (at_least_one library (fixup_at library f) (at + 3))
      body = least-within library f.end (fixup_at library f) (fixup_end library f) (fixup-within library f) (at + 3)

  all-fixups : (m : Begun) (low at : ℕ) → Stands (fixups m) low at
      → Out (λ found next. Stands (contents m) low next) ⊥ Ended (many library (fixups_by e library) at)
  all-fixups m low =
      many-out library (fixups_by e library) (λ found at. Stands (fixups m) low at) (λ found at. Stands (contents m) low at) (λ found at w. w.inside) λ found at w.
      map-out (fixups-out m low at w)
      (λ h. record { comes = all-fixed m at w.comes h; inside = w.inside; ahead = w.ahead }) (λ r h. h) (λ more next h. h)

  -- contents
  sections-out : (m : Begun) (low at : ℕ) → Stands (contents m) low at
      → Out (λ more next. Stands (contents m) low next × (at < next)) (Stops e library (contents m) at) Ended (sections_by e library at)
  unfolding sections_by section_by Body
  sections-out m low at w =
      chosen (Out (λ more next. Stands (contents m) low next × (at < next)) (Stops e library (contents m) at) Ended) (fills (byte_at library at))
      (λ t.
      then-out _
      (record-there (contents m) fills (content_body library) anything at w.comes (rw t refl)
      (λ l. rw t (then-within (λ content. content) (λ next. f.end) (ending-within anything f _ (at + 3 + id_size f + 2) tt) (λ content h. h))))
      (λ h. h) (λ r h. h) λ content next h.
      let here = next-stands w h.1 h.0 (filled m at w.comes h.1 t) in
      then-out _ (all-fixups m (at + 1) next (record { comes = here.0.comes; inside = here.0.inside; ahead = omega (arith, here.1) })) (λ h. absurd h) (λ r h. h) λ fixups last k.
      reads _ last (record { comes = k.comes; inside = k.inside; ahead = omega (arith, k.ahead, w.ahead) }, omega (arith, k.ahead)))
      (λ t.
      map-out
      (record-there (contents m) is_idle _ anything at w.comes (rw t refl) (λ l. rw t (takes [] (fits at l) tt)))
      (λ h. h) (λ r h. h) λ more next h.
      next-stands w h.1 h.0 (skipped m at w.comes h.1 t))
    where
      f : Frame
      f = frame_of library at

  all-sections : (m : Begun) (low at : ℕ) → Stands (contents m) low at
      → Out (λ found next. Stands (ending m) low next) ⊥ Ended (many library (sections_by e library) at)
  all-sections m low =
      many-out library (sections_by e library) (λ found at. Stands (contents m) low at) (λ found at. Stands (ending m) low at) (λ found at w. w.inside) λ found at w.
      map-out (sections-out m low at w)
      (λ h. record { comes = all-filled m at w.comes h; inside = w.inside; ahead = w.ahead }) (λ r h. h) (λ more next h. h)

  -- a module can't be read from a place on: its header, or its end, stops
  data Missing (k at : ℕ) : Type 0 where
    at-header : ComesTo e library (header k) at → Stops e library (header k) at → Missing k at
    at-end : (m : Begun) (p : ℕ) → ComesTo e library (ending m) p → Stops e library (ending m) p → m.before ≡ k → m.start ≡ at → Missing k at

  module-out : (k at : ℕ) → Stands (header k) 0 at
      → Out (λ more next. (length more ≡ 1) × Stands (header (suc k)) 0 next × (at < next)) (Missing k at) Ended (module_by e library at)
  unfolding module_by Body
  module-out k at w =
      then-out _ (record-there (header k) _ _ (λ name. name ≡ name_in library at) at w.comes refl (λ l. name-within 2 library (frame_of library at) (at + 3)))
      (λ h. at-header w.comes h) (λ r h. h) λ name a h.
      let head = next-stands w h.1 h.0 (headed k at w.comes h.1) in
      then-out _ (all-definitions m (at + 1) a (record { comes = head.0.comes; inside = head.0.inside; ahead = omega (arith, head.1) })) (λ h. absurd h) (λ r h. h) λ ds b v.
      then-out _ (all-sections m (at + 1) b v) (λ h. absurd h) (λ r h. h) λ ss c u.
      then-out _ (record-there (ending m) _ _ (λ name. name ≡ name_in library c) c u.comes refl (λ l. name-within 4 library (frame_of library c) (c + 3)))
      (λ h. at-end m c u.comes h refl refl) (λ r h. h) λ last d t.
      rw (h.2, t.2)
      (chosen (λ (x : Reader (List Module)). Out (λ more next. (length more ≡ 1) × Stands (header (suc k)) 0 next × (at < next)) (Missing k at) Ended (x d))
      (same_name library (name_in library at) (name_in library c))
      (λ n.
      let done = next-stands u t.1 t.0 (ended m c u.comes t.1 n) in
      reads _ d (refl, record { comes = done.0.comes; inside = done.0.inside; ahead = omega arith }, omega (arith, u.ahead, done.1)))
      (λ n. refuses _ (record { begun = m; at = c; comes = u.comes; taken = t.1; differ = n })))
    where
      m : Begun
      m = record { before = k; start = at; name = name_in library at }

  -- all modules from a place on: none, or some and then one that can't be read
  record Left (at : ℕ) : Type 0 where
    more : ℕ
    missing : Missing (suc more) at
    inside : at ≤ length library

  modules-out : (at : ℕ) → Stands (header 0) 0 at → Out (λ modules next. Left next) (NothingRead e library) Ended (modules_by e library at)
  modules-out at w =
      then-out not_empty
      (many-out library (module_by e library) (λ found p. Stands (header (length found)) 0 p) (λ found p. Missing (length found) p × (p ≤ length library)) (λ found p v. v.inside)
      (λ found p v.
      map-out (module-out (length found) p v) (λ h. (h, v.inside)) (λ r h. h) λ more next h.
      let longer : length (found ++ more) ≡ suc (length found) = omega (arith, length-append found more, h.0) in
      (rw longer h.1, h.2))
      at w)
      (λ h. absurd h) (λ r h. h) found-out
    where
      none_read : (p : ℕ) → Missing 0 p → NothingRead e library
      none_read p (at-header c h) = no-first-header p c h
      none_read p (at-end m q c h k f) = no-first-end m q c h k

      found-out : (found : List Module) (next : ℕ) → Missing (length found) next × (next ≤ length library)
          → Out (λ modules p. Left p) (NothingRead e library) Ended (not_empty found next)
      found-out [] next h = stops (none_read next h.0)
      found-out (x ∷ xs) next h = reads (x ∷ xs) next (record { more = length xs; missing = h.0; inside = h.1 })

  -- a record of any body, which is taken whole
  plain_out : (s : State) (type low at : ℕ) → expects s (byte_at library at) ≡ eqb type (byte_at library at)
      → least library s (frame_of library at) ≡ at + 3 → used library s (frame_of library at) ≡ (frame_of library at).end → Stands s low at
      → Out (λ x next. (next ≡ behind library at) × Taken e library s at × Unit) (Stops e library s at) Ended (plain_by e library type at)
  unfolding Body
  plain_out s type low at same b u w =
      record-there s (eqb type) (whole tt) anything at w.comes (sym same) λ l. rw u (takes _ (omega (arith, b, fits at l)) tt)

  -- reading comes to a last place
  read_out : Out (λ modules last. AllRead e library last) (NothingRead e library) Ended (file_read e library)
  unfolding file_read library_by
  read_out =
      chosen (Out (λ modules last. AllRead e library last) (NothingRead e library) Ended) (eqb (byte_at library 0) 0x2c)
      (λ t.
      let is : byte_at library 0 ≡ 0x2c = eqb-true (byte_at library 0) 0x2c t in
      let w : Stands opening 0 0 = record { comes = is-library is; inside = omega arith; ahead = omega arith } in
      then-out _ (plain_out opening 0x2c 0 0 refl refl refl w) (no-opening 0 w.comes) (λ r h. h) λ _ a h.
      then-out _ (modules-out a (next-stands w h.1 h.0 (opened 0 w.comes h.1)).0) (λ h. h) (λ r h. h) λ modules b left.
      let w28 = closing is b left in
      then-out _ (plain_out closing28 0x28 0 b refl refl refl w28) (lacks-28 b w28.comes) (λ r h. h) λ _ c h.
      let w26 = (next-stands w28 h.1 h.0 (closed28 b w28.comes h.1)).0 in
      then-out _ (plain_out closing26 0x26 0 c refl refl refl w26) (lacks-26 c w26.comes) (λ r h. h) λ _ d h.
      let w2a = (next-stands w26 h.1 h.0 (closed26 c w26.comes h.1)).0 in
      then-out _ (plain_out closing_2a 0x2a 0 d refl refl refl w2a) (lacks-2a d w2a.comes) (λ r h. h) λ _ last h.
      reads modules last (subst (AllRead e library) (sym h.0) (closed_2a d w2a.comes h.1)))
      (λ t.
      let not : byte_at library 0 ≡ 0x2c → ⊥ = eqb-false (byte_at library 0) 0x2c t in
      map-out (modules-out 0 (record { comes = is-bare not; inside = omega arith; ahead = omega arith })) (λ h. h) (λ r h. h) λ modules next left.
      bare not next left.more left.missing)
    where
      closing : byte_at library 0 ≡ 0x2c → (at : ℕ) → Left at → Stands closing28 0 at
      closing is at left = record { comes = go left.missing; inside = left.inside; ahead = omega arith }
        where
          go : Missing (suc left.more) at → ComesTo e library closing28 at
          go (at-header c h) = no_header left.more at is c h
          go (at-end m p c h k f) = subst (ComesTo e library closing28) f (no_end m p is c h (omega (arith, k)))

      bare : (byte_at library 0 ≡ 0x2c → ⊥) → (at k : ℕ) → Missing (suc k) at → AllRead e library at
      bare not at k (at-header c h) = bare-header k at not c h
      bare not at k (at-end m p c h b f) = subst (AllRead e library) f (bare-end m p not c h (omega (arith, b)))

-- edition 2 asks whether the file goes on behind that place
file-out : (e : Edition) (library : List ℕ) → Out (λ modules last. FileRead e library) (NothingRead e library) (λ r. Ends e library (some r)) (file_by e library)
unfolding file_by
file-out One library = map-out (read_out One library) (λ h. h) (λ r h. h) λ modules last h. record { last = last; all = h; used-up = tt }
file-out Two library =
    then-out _ (read_out Two library) (λ h. h) (λ r h. h) λ modules last h.
    chosen (Out (λ modules last. FileRead Two library) (NothingRead Two library) (λ r. Ends Two library (some r))) (ltb last (length library))
    (λ t. refuses LeftOver (in-file last refl h (ltb-true last (length library) t)))
    (λ t. reads modules last (record { last = last; all = h; used-up = ltb-false last (length library) t }))

-- reading ends so
pub reading-ends : (e : Edition) (library : List ℕ) → Ends e library (file_refusal (file_by e library))
reading-ends e library = go (file-out e library)
  where
    go : {o : ReadOutcome (List Module)} → Out (λ modules last. FileRead e library) (NothingRead e library) (λ r. Ends e library (some r)) o
        → Ends e library (file_refusal o)
    go (reads modules last h) = h
    go (stops h) = h
    go (refuses r h) = h
