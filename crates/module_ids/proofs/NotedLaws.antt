-- After one more definition was noted, the table tells what it says too. Assumes nothing.
use Rattle.std.specs.Prelude.{ℕ, suc, ◌+◌, ◌<◌, ◌≤◌, ◌≡◌, refl, Bool, true, false, List, [], ◌∷◌, ◌++◌, eqb, length, Some, None, if◌then◌else◌}
use Rattle.std.specs.Prelude.{Option as Optional}
use Rattle.std.proofs.Common.{sym, ap, subst, ◌∙◌, append-nil, arith, eq-eqb, ne_eqb, eqb-true, length-append}
use Rattle.std.proofs.lemmas.Bool.{false≢true, eqb-false}
use Rattle.std.proofs.Math.Option.{Option, none, some}
use Rattle.std.proofs.Math.ListN.{get_elem?}
use Rattle.lent.specs.declared.part.Part.{Part}
use Rattle.lent.specs.Lists.{one, keep, place_of, first}
use Rattle.lent.specs.Rows.{flag, put_row}
use Rattle.lent.specs.RowLaws.{get-put, get_other, put-length}
use Rattle.omf51.specs.declared.ModuleId.{ModuleId}
use Rattle.omf51.specs.declared.Definition.{Definition}
use Rattle.omf51.specs.declared.Definition.TheVariants.{Segment, Public, External}
use Rattle.segments.specs.Ids.{is_kept, segment_of, external_of, is_code, size_of, name_of, id_of, name_in}
use Rattle.module_ids.specs.declared.Mark.TheVariants.{Other, Code}
use Rattle.module_ids.specs.declared.KeptSegment.{KeptSegment}
use Rattle.module_ids.specs.declared.IdRow.{IdRow}
use Rattle.module_ids.specs.IdRows.{mark_of, kept_as, kept_in, id_row, id_cells, id_layout, id_row_at, Small}
use Rattle.module_ids.proofs.IdRowLaws.{id-wide, id-back}
use Rattle.module_ids.specs.Noted.{first_mark, first_name, first_kept_as, changed, row_noted, note_in, kept_after, Tells, Filled}

-- a list with one more: what is kept of it, and the first that passes a test
keep_snoc : {A : Type 0} (p : A → Bool) (xs : List A) (x : A) → keep p (xs ++ one x) ≡ keep p xs ++ (if p x then one x else [])
unfolding keep
keep_snoc p [] x = refl
keep_snoc p (y ∷ ys) x = rw (keep_snoc p ys x) (go (p y))
  where
    go : (t : Bool) → (if t then y ∷ (keep p ys ++ (if p x then one x else [])) else keep p ys ++ (if p x then one x else [])) ≡ (if t then y ∷ keep p ys else keep p ys) ++ (if p x then one x else [])
    go true = refl
    go false = refl

-- what the first that passes comes to, with one more: that one stays, or it is the new one, or none
data FirstOf {A : Type 0} (p : A → Bool) (xs : List A) (x : A) : Option A → Option A → Type 0 where
  stays : (y : A) → place_of p (xs ++ one x) ≡ place_of p xs → FirstOf p xs x (some y) (some y)
  comes : p x ≡ true → place_of p (xs ++ one x) ≡ length xs → FirstOf p xs x none (some x)
  lacks : p x ≡ false → FirstOf p xs x none none

first-snoc : {A : Type 0} (p : A → Bool) (xs : List A) (x : A) → FirstOf p xs x (first p xs) (first p (xs ++ one x))
unfolding place_of
first-snoc p [] x = go (p x) refl
  where
    go : (t : Bool) → p x ≡ t → FirstOf p [] x none (get_elem? (one x) (if t then 0 else 1))
    go true e = comes e (rw e)
    go false e = lacks e
first-snoc {A} p (y ∷ ys) x = go (p y) refl (first-snoc p ys x)
  where
    later : p y ≡ false → {a b : Option A} → FirstOf p ys x a b → FirstOf p (y ∷ ys) x a b
    later e (stays z q) = stays z (rw e (ap suc q))
    later e (comes h q) = comes h (rw e (ap suc q))
    later e (lacks h) = lacks h

    go : (t : Bool) → p y ≡ t → FirstOf p ys x (first p ys) (first p (ys ++ one x))
        → FirstOf p (y ∷ ys) x (get_elem? (y ∷ ys) (if t then 0 else suc (place_of p ys))) (get_elem? (y ∷ (ys ++ one x)) (if t then 0 else suc (place_of p (ys ++ one x))))
    go true e r = stays y (rw e)
    go false e r = later e r

-- so a definition that is of another id changes nothing, and one of the id changes it as its row does
module _ {A : Type 0} (p : A → Bool) (xs : List A) (x : A) where
  first-same : p x ≡ false → first p (xs ++ one x) ≡ first p xs
  first-same e = go (first-snoc p xs x)
    where
      go : {a b : Option A} → FirstOf p xs x a b → b ≡ a
      go (stays y q) = refl
      go (comes h q) = absurd (false≢true (sym (sym h ∙ e)))
      go (lacks h) = refl

module _ (p : Definition → Bool) (xs : List Definition) (x : Definition) (e : p x ≡ true) where
  mark-new : mark_of (first p (xs ++ one x)) ≡ first_mark (mark_of (first p xs)) (is_code (some x))
  mark-new = go (first-snoc p xs x)
    where
      known : (t c : Bool) → (if t then Code else Other) ≡ first_mark (if t then Code else Other) c
      known true c = refl
      known false c = refl

      go : {a b : Option Definition} → FirstOf p xs x a b → mark_of b ≡ first_mark (mark_of a) (is_code (some x))
      go (stays y q) = known (is_code (some y)) (is_code (some x))
      go (comes h q) = refl
      go (lacks h) = absurd (false≢true (sym (sym e ∙ h)))

  name_new : name_in (first p (xs ++ one x)) ≡ first_name (mark_of (first p xs)) (name_in (first p xs)) (name_of x)
  name_new = go (first-snoc p xs x)
    where
      known : (t : Bool) (old new : Part) → old ≡ first_name (if t then Code else Other) old new
      known true old new = refl
      known false old new = refl

      go : {a b : Option Definition} → FirstOf p xs x a b → name_in b ≡ first_name (mark_of a) (name_in a) (name_of x)
      go (stays y q) = known (is_code (some y)) (name_of y) (name_of x)
      go (comes h q) = refl
      go (lacks h) = absurd (false≢true (sym (sym e ∙ h)))

module _ (id : ModuleId) (ds : List Definition) (d : Definition) where
  abbrev kept_before : List Definition
  kept_before = keep is_kept ds

  abbrev kept_of : List Definition → Optional KeptSegment
  kept_of xs = kept_as (place_of (segment_of id) xs) (first (segment_of id) xs)

  kept_same : segment_of id d ≡ false → kept_in (ds ++ one d) id ≡ kept_in ds id
  kept_same e = ap kept_of (keep_snoc is_kept ds d) ∙ go (is_kept d)
    where
      one_more : {a b : Option Definition} → FirstOf (segment_of id) kept_before d a b
          → kept_as (place_of (segment_of id) (kept_before ++ one d)) b ≡ kept_as (place_of (segment_of id) kept_before) a
      one_more (stays y q) = ap (λ n. Some (record { place = n; size = size_of y })) q
      one_more (comes h q) = absurd (false≢true (sym (sym h ∙ e)))
      one_more (lacks h) = refl

      go : (t : Bool) → kept_of (kept_before ++ (if t then one d else [])) ≡ kept_of kept_before
      go true = one_more (first-snoc (segment_of id) kept_before d)
      go false = ap kept_of (append-nil kept_before)

  kept_new : segment_of id d ≡ true → kept_in (ds ++ one d) id ≡ first_kept_as (kept_in ds id) (is_kept d) (length kept_before) (size_of d)
  kept_new e = ap kept_of (keep_snoc is_kept ds d) ∙ go (is_kept d)
    where
      one_more : {a b : Option Definition} → FirstOf (segment_of id) kept_before d a b
          → kept_as (place_of (segment_of id) (kept_before ++ one d)) b
          ≡ first_kept_as (kept_as (place_of (segment_of id) kept_before) a) true (length kept_before) (size_of d)
      one_more (stays y q) = ap (λ n. Some (record { place = n; size = size_of y })) q
      one_more (comes h q) = ap (λ n. Some (record { place = n; size = size_of d })) q
      one_more (lacks h) = absurd (false≢true (sym (sym e ∙ h)))

      unkept : (k : Optional KeptSegment) → k ≡ first_kept_as k false (length kept_before) (size_of d)
      unkept None = refl
      unkept (Some k) = refl

      go : (t : Bool) → kept_of (kept_before ++ (if t then one d else [])) ≡ first_kept_as (kept_of kept_before) t (length kept_before) (size_of d)
      go true = one_more (first-snoc (segment_of id) kept_before d)
      go false = ap kept_of (append-nil kept_before) ∙ unkept (kept_of kept_before)

-- the row of an id with one more definition
pub row_same : (id : ModuleId) (ds : List Definition) (d : Definition) → segment_of id d ≡ false → external_of id d ≡ false → id_row (ds ++ one d) id ≡ id_row ds id
unfolding id_row
row_same id ds d s x = rw (first-same (segment_of id) ds d s, first-same (external_of id) ds d x, kept_same id ds d s)

pub row_new : (id : ModuleId) (ds : List Definition) (d : Definition) → (id_of d).0 ≡ id.0 → id_row (ds ++ one d) id ≡ changed (id_row ds id) (length (keep is_kept ds)) d
unfolding id_row
row_new id ds (Segment own info relocation size name) e =
    let d : Definition = Segment own info relocation size name in
    let is : segment_of id d ≡ true = eq-eqb own.0 id.0 e in
    rw (first-same (external_of id) ds d refl, mark-new (segment_of id) ds d is, kept_new id ds d is)
row_new id ds (Public own offset name) e = row_same id ds (Public own offset name) refl refl
row_new id ds (External own info name) e =
    let d : Definition = External own info name in
    let is : external_of id d ≡ true = eq-eqb own.0 id.0 e in
    rw (first-same (segment_of id) ds d refl, mark-new (external_of id) ds d is, name_new (external_of id) ds d is, kept_same id ds d refl)

-- a definition of another id
other-segment : (id : ModuleId) (d : Definition) → ((id_of d).0 ≡ id.0 → ⊥) → segment_of id d ≡ false
other-segment id (Segment own info relocation size name) n = ne_eqb own.0 id.0 n
other-segment id (Public own offset name) n = refl
other-segment id (External own info name) n = refl

other-external : (id : ModuleId) (d : Definition) → ((id_of d).0 ≡ id.0 → ⊥) → external_of id d ≡ false
other-external id (Segment own info relocation size name) n = refl
other-external id (Public own offset name) n = refl
other-external id (External own info name) n = ne_eqb own.0 id.0 n

-- THE TABLE WITH ONE MORE DEFINITION
row-noted : (ds : List Definition) (table : List ℕ) (d : Definition) → Tells ds table → (id_of d).0 < 65536 → Small (changed (id_row_at table (id_of d)) (length (keep is_kept ds)) d)
    → Tells (ds ++ one d) (row_noted table (length (keep is_kept ds)) d)
row-noted ds table d t below small = record { long = omega (arith, t.long, put-length 3 table (id_of d).0 (id_cells new)); rows = λ id h. go id h (eqb (id_of d).0 id.0) refl }
  where
    new : IdRow
    new = changed (id_row_at table (id_of d)) (length (keep is_kept ds)) d

    go : (id : ModuleId) → id.0 < 65536 → (b : Bool) → eqb (id_of d).0 id.0 ≡ b → id_row_at (put_row 3 table (id_of d).0 (id_cells new)) id ≡ id_row (ds ++ one d) id
    go id h true e =
        let same : (id_of d).0 ≡ id.0 = eqb-true (id_of d).0 id.0 e in
        ap (λ i. id_row_at (put_row 3 table (id_of d).0 (id_cells new)) (record { 0 = i })) (sym same)
        ∙ get-put id_layout id-wide table (id_of d).0 new (omega (arith, t.long)) (id-back new small.len-small)
        ∙ ap (λ r. changed r (length (keep is_kept ds)) d) (t.rows (id_of d) below ∙ ap (λ i. id_row ds (record { 0 = i })) same)
        ∙ sym (row_new id ds d same)
    go id h false e =
        let n = eqb-false (id_of d).0 id.0 e in
        get_other id_layout id-wide table (id_of d).0 id.0 new (λ q. n (sym q))
        ∙ t.rows id h
        ∙ sym (row_same id ds d (other-segment id d n) (other-external id d n))

pub noted : (ds : List Definition) (table : List ℕ) (d : Definition) → Tells ds table → (id_of d).0 < 65536 → Small (changed (id_row_at table (id_of d)) (length (keep is_kept ds)) d)
    → Tells (ds ++ one d) (note_in table (length (keep is_kept ds)) d)
noted ds table (Segment id info relocation size name) t below small = row-noted ds table (Segment id info relocation size name) t below small
noted ds table (Public id offset name) t below small = record { long = t.long; rows = λ i h. t.rows i h ∙ sym (row_same i ds (Public id offset name) refl refl) }
noted ds table (External id info name) t below small = row-noted ds table (External id info name) t below small

-- the same by its steps
pub note-steps : (table : List ℕ) (n : ℕ) (d : Definition) {id : ModuleId} {row new : IdRow} {out : List ℕ} → id ≡ id_of d → row ≡ id_row_at table id → new ≡ changed row n d
    → out ≡ put_row 3 table id.0 (id_cells new) → out ≡ row_noted table n d
note-steps table n d i r c o = rw (← i, ← r, ← c) o

pub kept_more : (ds : List Definition) (d : Definition) → length (keep is_kept (ds ++ one d)) ≡ kept_after (length (keep is_kept ds)) d
kept_more ds d = ap length (keep_snoc is_kept ds d) ∙ length-append (keep is_kept ds) (if is_kept d then one d else []) ∙ ap (λ n. length (keep is_kept ds) + n) (go (is_kept d))
  where
    go : (t : Bool) → length (if t then one d else []) ≡ flag t
    go true = refl
    go false = refl

pub kept_step : (n : ℕ) (d : Definition) → kept_after n d ≤ n + 1
kept_step n d = go (is_kept d)
  where
    go : (t : Bool) → n + flag t ≤ n + 1
    go true = omega arith
    go false = omega arith

-- none are kept of none; once nothing is left, the table tells of all
pub none_kept : 0 ≡ length (keep is_kept [])
unfolding keep
none_kept = refl

pub all_noted : {all done : List Definition} {left : List Definition} (table : List ℕ) {n : ℕ} → done ++ left ≡ all → left ≡ [] → Tells done table → n ≡ length (keep is_kept done)
    → Filled all table n
all_noted {all} {done} {left} table w e t k =
    let q : done ≡ all = sym (append-nil done) ∙ ap (λ xs. done ++ xs) (sym e) ∙ w in
    record { tells = subst (λ ds. Tells ds table) q t; number = k ∙ ap (λ ds. length (keep is_kept ds)) q }

pub note-length : (table : List ℕ) (n : ℕ) (d : Definition) → length (note_in table n d) ≡ length table
note-length table n (Segment id info relocation size name) = put-length 3 table id.0 _
note-length table n (Public id offset name) = refl
note-length table n (External id info name) = put-length 3 table id.0 _
