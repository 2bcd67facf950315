-- The three ends of the search: done, image too long, too few rows. Assumes nothing.
use Rattle.std.specs.Prelude.{◌≡◌, ℕ, ◌*◌, ◌<◌, ◌≤◌, Bool, true, false, ◌||◌, List, length, ◌≢◌, nat_lt, refl, if◌then◌else◌, Result, Ok, Err}
use Rattle.std.proofs.Math.Path.{sym, ap}
use Rattle.std.proofs.Common.{◌∙◌, arith, lt-ltb, le-ltb}
use Rattle.std.proofs.lemmas.Bool.{false≢true}
use Rattle.std.proofs.Math.Option.{none, some}
use Rattle.lent.specs.declared.refusal.Refusal.{Refusal}
use Rattle.lent.specs.declared.refusal.Refusal.TheVariants.{ImageTooLong, TooFewRows}
use Rattle.lent.specs.Choice.{leading}
use Rattle.lent.specs.Rows.{zeros}
use Rattle.tables.specs.declared.fill.Fill.{Fill}
use Rattle.search_rules.specs.declared.Asked.{Asked}
use Rattle.search_rules.specs.Search.{Placing, Noting, placed, noted}
use Rattle.search.specs.declared.visit.Fills.{Fills}
use Rattle.search.specs.declared.SearchCounts.{SearchCounts}
use Rattle.search.specs.visit.Visits.{Stored, stored, segments_in}
use Rattle.search.specs.Outcome.{SearchLists, SearchOutcome, too_few, refusal_of, search_zeroed, search_filled, search_outcome_of, searched, SearchFound}
use Rattle.search.specs.Fills.{Fitted, Filled}

-- there are too many rows exactly if the code ran out of room
fitted-over : {width count : ℕ} {numbers before after : List ℕ} (f : Fill) → Fitted width count numbers before after f → nat_lt (length before) (count * width) ≡ f.over
fitted-over {width} {count} {numbers} {before} f h = go f.over refl
  where
    go : (t : Bool) → f.over ≡ t → nat_lt (length before) (count * width) ≡ t
    go true e = lt-ltb (length before) (count * width) (h.over e)
    go false e = let r = h.room e in le-ltb (length before) (count * width) (omega (arith, r))

-- a search that is refused is not done
is_done : Result SearchCounts Refusal → Bool
is_done (Ok rows) = true
is_done (Err r) = false

refused-never : {r : Refusal} {rows : SearchCounts} → Err r ≢ Ok rows
unfolding is_done
refused-never e = false≢true (ap is_done e)

module _ (cells : List ℕ) (a : Asked) (library : List ℕ) (n : ℕ) (l : SearchLists) where
  abbrev ps : List Placing
  ps = placed library cells a (segments_in l.stored n)

  abbrev ns : List Noting
  ns = noted library cells a (segments_in l.stored n)

  -- an image that is too long is refused, and nothing is written
  pub long-found : (positions goals : List ℕ) → 65536 < length cells → SearchFound cells a library n l (record { answer = Err ImageTooLong; left = l }) positions goals
  unfolding searched refusal_of leading
  long-found positions goals h = record { same = rw (lt-ltb 65536 (length cells) h); sought = λ rows e. absurd (refused-never e) }

  module _ (short : length cells ≤ 65536) (placed' positions' noted' goals' : List ℕ) (f : Fills)
      (r : Filled cells a library (segments_in l.stored n) l.placed l.noted placed' positions' noted' goals' f)
      (out : Bool) (o : out ≡ (f.placed.over || f.noted.over)) where
    few-is : too_few l ps ns ≡ out
    few-is = rw (fitted-over f.placed r.places, fitted-over f.noted r.notes) (sym o)

    refusal_is : (t : Bool) → too_few l ps ns ≡ t → refusal_of cells l ps ns ≡ (if t then some TooFewRows else none)
    unfolding refusal_of leading
    refusal_is true e = rw (le-ltb 65536 (length cells) short, e)
    refusal_is false e = rw (le-ltb 65536 (length cells) short, e)

    -- the rows are too many, and all that was lent is zero
    pub lacks-found : out ≡ true → {left : SearchLists} → left ≡ search_zeroed l → SearchFound cells a library n l (record { answer = Err TooFewRows; left = left }) positions' goals'
    unfolding searched
    lacks-found e {left} z = record {
      same = ap (λ x. record { answer = Err TooFewRows; left = x }) z ∙ sym (ap (λ x. search_outcome_of library x ps ns l) (refusal_is true (few-is ∙ e)));
      sought = λ rows q. absurd (refused-never q);
    }

    -- all rows are written
    neither : out ≡ false → (f.placed.over ≡ false) × (f.noted.over ≡ false)
    neither e = go f.placed.over f.noted.over (sym o ∙ e)
      where
        go : (p q : Bool) → (p || q) ≡ false → (p ≡ false) × (q ≡ false)
        go false q z = (refl, z)
        go true q z = absurd (false≢true (sym z))

    equal : {t : Stored} {p p' q q' : List ℕ} {i i' j j' : ℕ} → i ≡ i' → j ≡ j' → p ≡ p' → q ≡ q'
        → ◌≡◌ {A = SearchOutcome} (record { answer = Ok (record { placed = i; noted = j }); left = record { stored = t; placed = p; noted = q } }) (record { answer = Ok (record { placed = i'; noted = j' }); left = record { stored = t; placed = p'; noted = q' } })
    equal a b c d = rw (a, b, c, d) refl

    pub done-found : out ≡ false
        → SearchFound cells a library n l (record { answer = Ok (record { placed = f.placed.rows; noted = f.noted.rows }); left = record { stored = l.stored; placed = placed'; noted = noted' } }) positions' goals'
    unfolding searched search_filled
    done-found e =
        let p = r.places.fits (neither e).0 in
        let q = r.notes.fits (neither e).1 in
        record {
          same = equal p.1 q.1 p.0 q.0 ∙ sym (ap (λ x. search_outcome_of library x ps ns l) (refusal_is false (few-is ∙ e)));
          sought = λ rows d. r.sought (neither e).0 (neither e).1;
        }

-- lists that are cleared one by one
pub zeroed-is : (l : SearchLists) {segments references symbols bytes masks placed' noted' : List ℕ} → segments ≡ zeros (length l.stored.segments) → references ≡ zeros (length l.stored.references) → symbols ≡ zeros (length l.stored.symbols)
    → bytes ≡ zeros (length l.stored.bytes) → masks ≡ zeros (length l.stored.masks) → placed' ≡ zeros (length l.placed) → noted' ≡ zeros (length l.noted)
    → record { stored = stored segments references symbols bytes masks; placed = placed'; noted = noted' } ≡ search_zeroed l
unfolding search_zeroed
zeroed-is l a b c d e f g = rw (a, b, c, d, e, f, g) refl

-- zeros depend on the lengths only
pub zeroed-same : (t : Stored) (placed₀ noted₀ placed' noted' : List ℕ) → length placed' ≡ length placed₀ → length noted' ≡ length noted₀
    → search_zeroed (record { stored = t; placed = placed'; noted = noted' }) ≡ search_zeroed (record { stored = t; placed = placed₀; noted = noted₀ })
unfolding search_zeroed
zeroed-same t placed₀ noted₀ placed' noted' p q = rw (p, q) refl
