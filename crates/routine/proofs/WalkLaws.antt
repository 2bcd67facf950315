-- A walk, step by step, with its rows in lent memory. Assumes nothing.
use Prim.Native.Nat.{ℕ, suc, ◌+◌, ◌-◌, ◌*◌, ◌≤◌, ◌<◌}
use Rattle.std.specs.Prelude.{◌≡◌, Bool, true, false, Result, Ok, Err, length, set, eqb, if◌then◌else◌}
use Rattle.std.proofs.Math.Path.{refl, sym, ap}
use Rattle.std.proofs.Common.{◌∙◌, leb-true, leb-false, le-leb, lt-ltb, le-ltb, length-append}
use mathlib.Core.List.{List, [], ◌∷◌, ◌++◌, append_assoc, append-nil}
use native.Mathlib.Omega.{arith}
use Rattle.std.proofs.lemmas.Bool.{lt-leb}
use Rattle.lent.specs.Lists.{one, joined}
use Rattle.lent.specs.ListLaws.{rows-length}
use Rattle.lent.specs.Rows.{zeros, padded, has_row, put_row, Layout}
use Rattle.lent.specs.RowLaws.{Wide, padded-length, padded-nil, put-lacks, put-there, append-row}
use Rattle.routine.specs.declared.Row.{Row}
use Rattle.routine.specs.declared.What.{What}
use Rattle.routine.specs.declared.What.TheVariants.{Neither, Call, Jump}
use Rattle.routine.specs.declared.Why.{Why}
use Rattle.routine.specs.declared.Why.TheVariants.{Return, Limit}
use Rattle.routine.specs.declared.Walked.{Walked}
use Rattle.routine.specs.declared.WalkRefusal.{WalkRefusal}
use Rattle.routine.specs.declared.WalkRefusal.TheVariants.{NoRoom}
use Rattle.routine.specs.declared.step.Shown.{Shown}
use Rattle.routine.specs.Step.{step_at}
use Rattle.routine.specs.Walk.{Steps, stops, after, walk, walked}
use Rattle.routine.specs.Outcome.{what_number, target_in, numbers_in, stored, laid}

-- how a row is kept
abbrev what_from : ℕ → ℕ → What
what_from n target = if eqb n 0 then Neither else if eqb n 1 then Call target else Jump target

abbrev pub row_layout : Layout Row
row_layout = record { width = 3; cells = numbers_in; read = λ n. record { address = n 0; what = what_from (n 1) (n 2) } }

wide : Wide row_layout
wide r = refl

numbers-length : (rows : List Row) → length (joined numbers_in rows) ≡ length rows * 3
numbers-length rows = rows-length 3 numbers_in wide rows

-- a row that there is no room for, and one that is put
pub not-stored : (m : List ℕ) (i : ℕ) (row : Row) → length m < i * 3 + 3 → ◌≡◌ {A = Bool × List ℕ} (false, m) (stored m i row)
not-stored m i row h = rw (lt-leb (i * 3 + 3) (length m) h, put-lacks 3 m i (numbers_in row) h)

pub is-stored : (m : List ℕ) (i : ℕ) (row : Row) → i * 3 + 3 ≤ length m
    → ◌≡◌ {A = Bool × List ℕ} (true, set (set (set m (i * 3) row.address) (i * 3 + 1) (what_number row.what)) (i * 3 + 2) (target_in row.what)) (stored m i row)
is-stored m i row h =
    let first : i * 3 + 1 ≡ suc (i * 3) = omega arith in
    let second : i * 3 + 2 ≡ suc (suc (i * 3)) = omega arith in
    rw (le-leb (i * 3 + 3) (length m) h, put-there 3 m i (numbers_in row) h, first, second)

-- what is laid down: rows that fit, and rows that do not
pub laid-fits : (w : Steps) (room : ℕ) → length w.rows * 3 ≤ room
    → ◌≡◌ {A = Result Walked WalkRefusal × List ℕ} (laid w room) (Ok (record { steps = length w.rows; why = w.why }), padded room (joined numbers_in w.rows))
laid-fits w room h = rw (le-ltb room (length w.rows * 3) h)

pub laid-over : (w : Steps) (room : ℕ) → room < length w.rows * 3 → ◌≡◌ {A = Result Walked WalkRefusal × List ℕ} (laid w room) (Err NoRoom, zeros room)
laid-over w room h = rw (lt-ltb room (length w.rows * 3) h)

-- rows before those of a walk
abbrev behind : List Row → Steps → Steps
behind done w = stops (done ++ w.rows) w.why

module _ (cells : List ℕ) (start : ℕ) (room : ℕ) where
  -- a walk on its way: i rows are shown and stand in the memory m, and the walk goes on at a place
  pub record Going (m : List ℕ) (at i : ℕ) : Type 0 where
    pub done : List Row
    pub count : length done ≡ i
    pub few : i ≤ 256
    pub fits : i * 3 ≤ room
    pub memory : m ≡ padded room (joined numbers_in done)
    pub same : behind done (walk cells (256 - i) at) ≡ walked cells start

  pub begun : Going (zeros room) start 0
  unfolding joined
  begun = record { done = []; count = refl; few = omega arith; fits = omega arith; memory = padded-nil room; same = refl }

  module _ (m : List ℕ) (at i : ℕ) (g : Going m at i) where
    pub long : length m ≡ room
    long = ap length g.memory ∙ padded-length room (joined numbers_in g.done) (omega (arith, numbers-length g.done, g.count, g.fits))

    -- the rows so far are all of them
    all_done : (why : Why) → walked cells start ≡ stops g.done why → ◌≡◌ {A = Result Walked WalkRefusal × List ℕ} (Ok (record { steps = i; why = why }), m) (laid (walked cells start) room)
    all_done why e =
        sym (ap (λ w. laid w room) e ∙ laid-fits (stops g.done why) room (omega (arith, g.count, g.fits)) ∙ rw (g.count, sym g.memory))

    pub at-limit : 256 ≤ i → ◌≡◌ {A = Result Walked WalkRefusal × List ℕ} (Ok (record { steps = 256; why = Limit }), m) (laid (walked cells start) room)
    unfolding walk
    at-limit h =
        let left : 256 - i ≡ 0 = omega arith in
        let all : 256 ≡ i = omega (arith, g.few) in
        rw all (all_done Limit (sym g.same ∙ rw (left, append-nil g.done)))

    module _ (h : i < 256) where
      turn : {t : Result Shown Why} → step_at cells at ≡ t → walked cells start ≡ behind g.done (after (walk cells (256 - (i + 1))) t)
      unfolding walk
      turn {t} e =
          let left : 256 - i ≡ suc (256 - (i + 1)) = omega arith in
          sym g.same ∙ ap (λ n. behind g.done (walk cells n at)) left ∙ ap (λ u. behind g.done (after (walk cells (256 - (i + 1))) u)) e

      pub at-stop : (why : Why) → step_at cells at ≡ Err why → ◌≡◌ {A = Result Walked WalkRefusal × List ℕ} (Ok (record { steps = i; why = why }), m) (laid (walked cells start) room)
      at-stop why e = all_done why (turn e ∙ rw (append-nil g.done))

      -- one row more: no room for it; the last one; one of several
      module _ (row : Row) (next : ℕ) where
        rows_on : (rest : List Row) → length (g.done ++ row ∷ rest) ≡ i + 1 + length rest
        rows_on rest = length-append g.done (row ∷ rest) ∙ omega (arith, g.count)

        pub no_room : (last : Bool) → step_at cells at ≡ Ok (record { row = row; next = next; last = last }) → has_row 3 m i ≡ false
            → ◌≡◌ {A = Result Walked WalkRefusal × List ℕ} (Err NoRoom, zeros (length m)) (laid (walked cells start) room)
        no_room last e f = rw long (over last e)
          where
            short : room < i * 3 + 3
            short = omega (arith, long, leb-false (i * 3 + 3) (length m) f)

            over : (t : Bool) → step_at cells at ≡ Ok (record { row = row; next = next; last = t }) → ◌≡◌ {A = Result Walked WalkRefusal × List ℕ} (Err NoRoom, zeros room) (laid (walked cells start) room)
            over true q =
                sym (ap (λ w. laid w room) (turn q) ∙ laid-over (behind g.done (stops (one row) Return)) room (omega (arith, short, rows_on [])))
            over false q =
                let rest = walk cells (256 - (i + 1)) next in
                sym (ap (λ w. laid w room) (turn q) ∙ laid-over (behind g.done (stops (row ∷ rest.rows) rest.why)) room (omega (arith, short, rows_on rest.rows)))

        module _ (has : has_row 3 m i ≡ true) where
          one_more : put_row 3 m i (numbers_in row) ≡ padded room (joined numbers_in (g.done ++ one row))
          one_more =
              let fit = leb-true (i * 3 + 3) (length m) has in
              let place : put_row 3 m i (numbers_in row) ≡ put_row 3 (padded room (joined numbers_in g.done)) (length g.done) (numbers_in row) = rw (sym g.memory, g.count) in
              place ∙ append-row row_layout wide room g.done row (omega (arith, fit, long, g.count))

          pub going_on : step_at cells at ≡ Ok (record { row = row; next = next; last = false }) → Going (put_row 3 m i (numbers_in row)) next (i + 1)
          going_on e = record {
            done = g.done ++ one row;
            count = length-append g.done (one row) ∙ omega (arith, g.count);
            few = omega arith;
            fits = omega (arith, long, leb-true (i * 3 + 3) (length m) has);
            memory = one_more;
            same = rw (append_assoc g.done (one row) (walk cells (256 - (i + 1)) next).rows) (sym (turn e));
          }

          pub at_return : step_at cells at ≡ Ok (record { row = row; next = next; last = true }) → ◌≡◌ {A = Result Walked WalkRefusal × List ℕ} (Ok (record { steps = i + 1; why = Return }), put_row 3 m i (numbers_in row)) (laid (walked cells start) room)
          at_return e =
              let rows = g.done ++ one row in
              let count : length rows ≡ i + 1 = length-append g.done (one row) ∙ omega (arith, g.count) in
              let fit = leb-true (i * 3 + 3) (length m) has in
              sym (ap (λ w. laid w room) (turn e) ∙ laid-fits (stops rows Return) room (omega (arith, count, fit, long)) ∙ rw (count, sym one_more))

-- what `store` comes to
pub ruleset stores = (not-stored, is-stored)
