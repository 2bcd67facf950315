-- FROM BANK TO BANK: each list is that of the run on the bank's view as a single image, proved once over the bank's number. Assumes nothing.
use Prim.Native.Nat.{ℕ, zero, suc, ◌-◌, ◌*◌}
use Rattle.std.specs.Prelude.{◌≡◌, ◌⊎◌, Bool, true, false, drop, Ok, Err}
use Rattle.std.proofs.Math.Path.{refl, sym, ap}
use Rattle.std.proofs.Common.{◌∙◌, arith, length-drop, length-append, take-append-drop}
use Rattle.std.proofs.Math.Logic.{inl, inr}
use Rattle.std.proofs.lemmas.Bool.{false≢true}
use mathlib.Core.List.{List, ◌++◌, append_assoc}
use Rattle.std.proofs.Math.Option.{Option, none, some}
use Rattle.std.proofs.Math.ListN.{length, take}
use Rattle.std.proofs.Math.Seq.{take_at}
use Rattle.lent.specs.declared.refusal.Refusal.{Refusal}
use Rattle.lent.specs.declared.refusal.Refusal.TheVariants.{TooFewRows}
use Rattle.lent.specs.Refusals.{zeroes}
use Rattle.lent.specs.ListLaws.{rows-length, joined-append}
use Rattle.lent.specs.Lists.{joined}
use Rattle.lent.specs.Rows.{zeros, padded}
use Rattle.collect.specs.declared.stored.CollectCounts.{CollectCounts as Stored}
use Rattle.collect.specs.stored.Stores.{CollectLists as Collectable}
use Rattle.collect.specs.Outcome.{collect_filled}
use Rattle.listing.specs.Outcome.{find_outcome}
use Rattle.listing_rules.specs.declared.Line.{Line}
use Rattle.listing_rules.specs.Listing.{line_width, line_cells, line_numbers}
use Rattle.run.specs.declared.Settings.{Settings}
use Rattle.run.specs.declared.Counts.{Counts}
use Rattle.run.specs.Run.{Lent, lent_lists, Yield, asked_of, stages, counted, zeroed, filled_with, left_by, outcome_of, Answer}
use Rattle.run.specs.Given.{SearchOver, ListOver}
use Rattle.run.proofs.Answers.{SameLengths}
use Rattle.libfind.specs.Ends.{collectable, findable, concluded, finding_by, Filled}
use Rattle.libfind.specs.FindingLaws.{finding-nine, finding-none, finding-late}
use Rattle.libfind.specs.FoundLaws.{found-then}
use Rattle.bank_rules.specs.Banks.{bank_cells, shown, lines_to, last_to, most_to, given_to, needed_to, Has}
use Rattle.bank_rules.proofs.CutLaws.{cells-length}
use Rattle.banks.specs.Turns.{with_lines, FindsView}
use Rattle.bank_rules.proofs.OverLaws.{search-next, next-search, lines_next}

-- lines in numbers
numbers-length : (lines : List Line) → length (line_numbers lines) ≡ length lines * line_width
unfolding line_numbers
numbers-length lines = rows-length line_width line_cells (λ l. refl) lines

-- what an answer says
is_done : Answer → Bool
is_done (Ok c) = true
is_done (Err r) = false

refusal_in : Answer → Refusal
refusal_in (Ok c) = TooFewRows
refusal_in (Err r) = r

counts_in : Counts → Answer → Counts
counts_in d (Ok c) = c
counts_in d (Err r) = d

module _ (cells library : List ℕ) (s : Settings) (lent : Lent) {c : Stored} {left : Collectable} (f : Filled library s lent c left) where
  -- the lent lists once k banks are listed: those of the collection, the rows of the last bank, all lines so far
  unfoldable pub left_to : ℕ → Lent
  left_to zero = lent_lists left.segments left.references left.symbols left.bytes left.masks lent.placed lent.noted lent.lines
  left_to (suc k) = filled_with library (given_to cells library s (suc k)) lent

  -- where the next line stands
  abbrev pub place : ℕ → ℕ
  place k = length (lines_to cells library s k) * line_width

  -- k banks are listed, and all fit
  pub record Listed (k : ℕ) (now : Lent) : Type 0 where
    pub lists : now ≡ left_to k
    pub long : SameLengths now lent
    pub searched : SearchOver lent (needed_to cells library s k) → ⊥
    pub listed : ListOver lent (needed_to cells library s k) → ⊥

  abbrev pub collected : Lent
  collected = lent_lists left.segments left.references left.symbols left.bytes left.masks lent.placed lent.noted lent.lines

  pub none-listed : SameLengths collected lent → Listed zero collected
  unfolding left_to lines_to most_to
  none-listed h = record { lists = refl; long = h; searched = nothing; listed = λ o. omega (arith, o) }
    where
      nothing : SearchOver lent (needed_to cells library s zero) → ⊥
      nothing (inl o) = omega (arith, o)
      nothing (inr o) = omega (arith, o)

  -- those of the collection are as they were filled, and the lines so far stand in front
  collected-are : (k : ℕ) → collectable (left_to k) ≡ left
  unfolding left_to filled_with collect_filled
  collected-are zero = refl
  collected-are (suc k) = sym f.lists-are

  front-is : (k : ℕ) → take (place k) (left_to k).lines ≡ line_numbers (lines_to cells library s k)
  unfolding left_to lines_to filled_with line_numbers joined
  front-is zero = refl
  front-is (suc k) = take_at (line_numbers (lines_to cells library s (suc k))) _ (place (suc k)) (numbers-length (lines_to cells library s (suc k)))

  module _ (k : ℕ) (has : Has k cells) (now : Lent) (l : Listed k now) where
    abbrev y : Yield
    y = shown cells library s k

    -- what is lent for the bank: for the collection as at first, the rest as it is, of the lines those behind
    abbrev lent_now : Lent
    lent_now = lent_lists lent.segments lent.references lent.symbols lent.bytes lent.masks now.placed now.noted (drop (place k) now.lines)

    refilled : Filled library s lent_now c left
    refilled = record { counts-are = f.counts-are; lists-are = f.lists-are; room = f.room; tested = f.tested }

    came : {r : Answer} {after : Lent} → FindsView cells library s c k (place k) now r after
        → record { answer = r; left = with_lines after (drop (place k) after.lines) } ≡ outcome_of library (finding_by lent_now (counted y)) y lent_now
    came v =
        v.found
        ∙ ap (λ x. concluded c (find_outcome (bank_cells k cells) (asked_of s) s.skip library c.segments (findable x lent_now))) (ap collectable l.lists ∙ collected-are k)
        ∙ found-then (bank_cells k cells) (omega (arith, cells-length k cells has)) library s lent_now refilled

    -- the rows of the search are lent anew, and the lines that are left
    search-same : SearchOver lent_now (counted y) → SearchOver lent (counted y)
    search-same (inl o) = inl (omega (arith, o, l.long.placed))
    search-same (inr o) = inr (omega (arith, o, l.long.noted))

    same-search : SearchOver lent (counted y) → SearchOver lent_now (counted y)
    same-search (inl o) = inl (omega (arith, o, l.long.placed))
    same-search (inr o) = inr (omega (arith, o, l.long.noted))

    behind : length (drop (place k) now.lines) ≡ length lent.lines - place k
    behind = length-drop (place k) now.lines ∙ ap (λ n. n - place k) l.long.lines

    list_same : ListOver lent_now (counted y) → ListOver lent (needed_to cells library s (suc k))
    unfolding counted
    list_same o = omega (arith, o, behind, lines_next cells library s lent k)

    same-list : ListOver lent (needed_to cells library s (suc k)) → ListOver lent_now (counted y)
    unfolding counted
    same-list o = omega (arith, o, behind, lines_next cells library s lent k, l.listed)

    -- LISTED: one bank more
    lines_are : (rest : List ℕ) → rest ≡ padded (length (drop (place k) now.lines)) (line_numbers y.lines)
        → take (place k) now.lines ++ rest ≡ padded (length lent.lines) (line_numbers (lines_to cells library s (suc k)))
    unfolding lines_to line_numbers
    lines_are rest e =
        ap (λ x. take (place k) x.lines ++ rest) l.lists ∙ ap (λ x. x ++ rest) (front-is k) ∙ ap (λ x. before ++ x) e
        ∙ sym (append_assoc before more (zeros (length (drop (place k) now.lines) - length more)))
        ∙ ap (λ n. before ++ more ++ zeros n) count
        ∙ ap (padded (length lent.lines)) (sym both)
      where
        before : List ℕ
        before = line_numbers (lines_to cells library s k)

        more : List ℕ
        more = line_numbers y.lines

        both : line_numbers (lines_to cells library s k ++ y.lines) ≡ before ++ more
        both = joined-append line_cells (lines_to cells library s k) y.lines

        count : length (drop (place k) now.lines) - length more ≡ length lent.lines - length (before ++ more)
        count = omega (arith, behind, length-append before more, numbers-length (lines_to cells library s k))

    pub turn-done : {n : Counts} {after : Lent} → FindsView cells library s c k (place k) now (Ok n) after → SameLengths after lent → Listed (suc k) after × (n ≡ counted y)
    unfolding is_done counts_in left_to filled_with last_to stages
    turn-done {n} {after} v long = go (finding_by lent_now (counted y)) refl (came v)
      where
        go : (o : Option Refusal) → finding_by lent_now (counted y) ≡ o → record { answer = Ok n; left = with_lines after (drop (place k) after.lines) } ≡ outcome_of library o y lent_now
            → Listed (suc k) after × (n ≡ counted y)
        go (some r) q p = absurd (false≢true (sym (ap (λ o. is_done o.answer) p)))
        go none q p =
            let fits = finding-none lent_now (counted y) q in (
              record {
                lists = ap (λ x. with_lines x after.lines) (ap (λ o. o.left) p) ∙ filled (lines_after (ap (λ o. o.left.lines) p));
                long = long;
                searched = λ o. either (search-next cells library s lent k o) fits.0;
                listed = λ o. fits.1 (same-list o);
              },
              ap (λ o. counts_in n o.answer) p,
            )
          where
            either : SearchOver lent (needed_to cells library s k) ⊎ SearchOver lent (counted y) → (SearchOver lent_now (counted y) → ⊥) → ⊥
            either (inl o) never = l.searched o
            either (inr o) never = never (same-search o)

            lines_after : drop (place k) after.lines ≡ (filled_with library y lent_now).lines → after.lines ≡ (left_to (suc k)).lines
            lines_after e =
                sym (take-append-drop (place k) after.lines) ∙ ap (λ x. x ++ drop (place k) after.lines) v.kept
                ∙ lines_are (drop (place k) after.lines) e

            filled : {lines : List ℕ} → lines ≡ (left_to (suc k)).lines → with_lines (filled_with library y lent_now) lines ≡ left_to (suc k)
            filled e = rw (e, l.long.placed, l.long.noted) refl

    -- REFUSED: a bank does not fit, and nor do all
    pub record Stopped (r : Refusal) (after : Lent) : Type 0 where
      pub is : r ≡ TooFewRows
      pub case : SearchOver lent (needed_to cells library s (suc k)) ⊎ ListOver lent (needed_to cells library s (suc k))
      pub zero : (lines : List ℕ) → lines ≡ zeros (length after.lines) → with_lines after lines ≡ zeroed lent

    pub turn-refused : {r : Refusal} {after : Lent} → FindsView cells library s c k (place k) now (Err r) after → SameLengths after lent → Stopped r after
    unfolding is_done refusal_in zeroed
    turn-refused {r} {after} v long = go (finding_by lent_now (counted y)) refl (came v)
      where
        go : (o : Option Refusal) → finding_by lent_now (counted y) ≡ o → record { answer = Err r; left = with_lines after (drop (place k) after.lines) } ≡ outcome_of library o y lent_now
            → Stopped r after
        go none q p = absurd (false≢true (ap (λ o. is_done o.answer) p))
        go (some x) q p =
            let nine = finding-nine lent_now (counted y) q in
            record {
              is = ap (λ o. refusal_in o.answer) p ∙ nine.is;
              case = whole nine.case;
              zero = λ lines e. ap (λ o. with_lines o.left lines) p ∙ cleared (finding-late lent_now (counted y) q) e;
            }
          where
            whole : SearchOver lent_now (counted y) ⊎ ListOver lent_now (counted y) → SearchOver lent (needed_to cells library s (suc k)) ⊎ ListOver lent (needed_to cells library s (suc k))
            whole (inl o) = inl (next-search cells library s lent k (search-same o))
            whole (inr o) = inr (list_same o)

            cleared : zeroes x ≡ true → {lines : List ℕ} → lines ≡ zeros (length after.lines) → with_lines (left_by x lent_now) lines ≡ zeroed lent
            cleared late e = rw (late, e, long.lines, l.long.placed, l.long.noted) refl
