-- THE DEMANDS FOR WHO CALLS `sillmarble_find`, from its contract alone, in terms of the number that it gives, the counts and
-- the lent lists: they follow from those of the run. Assumes nothing.
use Rattle.std.specs.Prelude.{ℕ, ◌+◌, ◌-◌, ◌*◌, ◌≤◌, ◌<◌, ◌%◌, ◌≡◌, ◌↔◌, ◌⊎◌, length, get_or}
use Rattle.std.proofs.Math.Path.{refl, ap}
use Rattle.std.proofs.Common.{sym, ◌∙◌, arith, get_or-append-add}
use mathlib.Core.List.{List, ◌++◌}
use Rattle.std.proofs.Math.Decide.{dec_lt}
use Rattle.std.proofs.Math.ListN.{drop}
use Rattle.std.proofs.lemmas.List.{get_or-replicate}
use Rattle.std.proofs.lemmas.List.Edits.{sets-eq}
use Rattle.lent.specs.declared.refusal.Refusal.{Refusal}
use Rattle.lent.specs.ListLaws.{rows-length}
use Rattle.lent.specs.OneOutcome.{Determines, by-equation}
use Rattle.lent.specs.Refusals.{refusal_number}
use Rattle.lent.specs.Rows.{zeros, padded, cell_of}
use Rattle.lent.specs.RowLaws.{padded-length, cell-there, cell-lacks, put-there, put-lacks, put-length}
use Rattle.image.specs.declared.cover.Stretches.{Stretches}
use Rattle.image.specs.View.{within, view}
use Rattle.image.proofs.ViewLaws.{Inside, Agree}
use Rattle.image.specs.Cover.{cover_of}
use Rattle.omf51.specs.File.{modules_in}
use Rattle.listing_rules.specs.declared.Line.{Line}
use Rattle.listing_rules.specs.Listing.{line_width, line_cells, line_numbers}
use Rattle.listing_rules.specs.LineLayout.{line_at}
use Rattle.run.specs.declared.Settings.{Settings}
use Rattle.run.specs.Run.{library_read, Lent, Outcome, counted, zeroed, filled_with, run_seen, run, number_of, counts_of, asked_of, cover, Answer}
use Rattle.run.specs.Given.{Given, NothingRefused}
use Rattle.run.proofs.Answers.{SameLengths, Sound, yielded}
use Rattle.run.specs.Own.{Own}
use Rattle.run.proofs.Withheld.{Fit, withholding, same-cover-run, plain-run}
use Rattle.run.proofs.Demands.{memory as run-memory, same-lengths as run-lengths, refused-exactly as run-refused, answered-exactly as run-answered, own_row as run-own-row, stretch-alone as run_alone}
use Rattle.exported.specs.Exported.{Handed, handed, handed_run, counts_in, count_numbers}

-- the contract of `sillmarble_find`: its number, and the counts and the eight lists as it leaves them, are those of the run;
-- s is what `settings_of` makes of the rule set, the edition, the depth, the minimum, the skip amount and the stretches
abbrev pub Contract : List ℕ → List ℕ → Settings → List ℕ → Lent → Handed → Type 0
Contract image library s counts lent h = h ≡ handed_run image library s counts lent

-- the counts in the first seven places, if there are as many, and nothing written if there are fewer
counts-front : (counts : List ℕ) (a : Answer) → 7 ≤ length counts → counts_in counts a ≡ count_numbers (counts_of a) ++ drop 7 counts
unfolding counts_in
counts-front counts a h =
    put-there 7 counts 0 (count_numbers (counts_of a)) h ∙ sets-eq (count_numbers (counts_of a)) counts 0 h

counts-none : (counts : List ℕ) (a : Answer) → length counts < 7 → counts_in counts a ≡ counts
unfolding counts_in
counts-none counts a h = put-lacks 7 counts 0 (count_numbers (counts_of a)) h

-- a row behind those of the list has grade 0
behind : (lines : List Line) (room i : ℕ) → length lines * line_width ≤ room → length lines ≤ i
    → (line_at (padded room (line_numbers lines)) i).grade ≡ 0
unfolding line_numbers
behind lines room i h b = ap (λ n. n % 256) (go (dec_lt room (i * line_width + line_width)))
  where
    m : List ℕ
    m = padded room (line_numbers lines)

    taken : length (line_numbers lines) ≡ length lines * line_width
    taken = rows-length line_width line_cells (λ l. refl) lines

    whole : length m ≡ room
    whole = padded-length room (line_numbers lines) (omega (arith, taken))

    zero-from : (k n : ℕ) → length (line_numbers lines) + k ≡ n → n < room → get_or m n 0 ≡ 0
    zero-from k n e l =
        ap (λ x. get_or m x 0) (sym e)
        ∙ get_or-append-add (line_numbers lines) (zeros (room - length (line_numbers lines))) k 0
        ∙ get_or-replicate (room - length (line_numbers lines)) k 0 0 (omega (arith, e, l))

    go : Dec (room < i * line_width + line_width) → cell_of line_width m i 1 ≡ 0
    go (yes l) = cell-lacks line_width m i 1 (omega (arith, l, whole))
    go (no l) =
        cell-there line_width m i 1 (omega (arith, l, whole)) (omega arith)
        ∙ zero-from (i * line_width + 1 - length lines * line_width) (i * line_width + 1) (omega (arith, b, taken)) (omega (arith, l))

module _ (image library : List ℕ) (s : Settings) (counts : List ℕ) (lent : Lent) where
  -- what the caller has to find, by the number
  pub record HandedSound (h : Handed) : Type 0 where
    -- with seven places for the counts: on 0 they are the numbers of rows, on a refusal zeros; what is behind them stays
    pub counts-done : h.number ≡ 0 → 7 ≤ length counts → h.counts ≡ count_numbers (counted (yielded image library s lent)) ++ drop 7 counts
    pub counts-refused : 1 ≤ h.number → 7 ≤ length counts → h.counts ≡ zeros 7 ++ drop 7 counts
    -- with fewer places none is written
    pub counts-short : length counts < 7 → h.counts ≡ counts
    -- on 0 each lent list holds its stage's rows, the rest zero; 9 to 13 set all to zero, and the others write nothing
    pub left-done : h.number ≡ 0 → h.left ≡ filled_with library (yielded image library s lent) lent
    pub left-zero : 9 ≤ h.number → h.number ≤ 13 → h.left ≡ zeroed lent
    pub left_alone : 1 ≤ h.number → (h.number < 9) ⊎ (13 < h.number) → h.left ≡ lent

  abbrev outcome : Outcome
  outcome = run image library s lent

  -- ONE OUTCOME: any two that the contract allows are equal
  pub one-outcome : Determines (Contract image library s counts lent)
  one-outcome = by-equation (handed_run image library s counts lent)

  run_sound : Sound image library s lent outcome
  run_sound = run-memory image library s lent outcome refl

  sound : HandedSound (handed counts outcome)
  unfolding handed
  sound = record {
    counts-done = λ e l. counts-front counts outcome.answer l ∙ ap (λ c. count_numbers c ++ drop 7 counts) (run_sound.counts-done e);
    counts-refused = λ e l. counts-front counts outcome.answer l ∙ ap (λ c. count_numbers c ++ drop 7 counts) (run_sound.counts-refused e);
    counts-short = λ l. counts-none counts outcome.answer l;
    left-done = run_sound.left-done;
    left-zero = run_sound.left-zero;
    left_alone = run_sound.left_alone;
  }

  own-graded : s.rules ≡ 1 → number_of outcome.answer ≡ 0 → (i : ℕ) → 1 ≤ (line_at outcome.left.lines i).grade
      → Own library (view image (cover s)) (asked_of s) (modules_in (library_read library s)) (line_at outcome.left.lines i).name (line_at outcome.left.lines i).address
  unfolding counted filled_with
  own-graded r z i g = go (dec_lt i (counts_of outcome.answer).lines)
    where
      lines : List Line
      lines = (yielded image library s lent).lines

      room : length lines * line_width ≤ length lent.lines
      room = omega (arith, ((run-answered image library s lent outcome refl).0 z).listed)

      past : length lines ≤ i → (line_at outcome.left.lines i).grade ≡ 0
      past b = ap (λ x. (line_at x.lines i).grade) (run_sound.left-done z) ∙ behind lines (length lent.lines) i room b

      go : Dec (i < (counts_of outcome.answer).lines)
          → Own library (view image (cover s)) (asked_of s) (modules_in (library_read library s)) (line_at outcome.left.lines i).name (line_at outcome.left.lines i).address
      go (yes l) = run-own-row image library s lent outcome refl r z i l g
      go (no l) = absurd (omega (arith, g, past (omega (arith, l, ap (λ x. x.lines) (run_sound.counts-done z)))))

  module _ (h : Handed) (c : Contract image library s counts lent h) where
    is-handed : h ≡ handed counts outcome
    unfolding handed_run
    is-handed = c

    -- THE TABLE OF REFUSALS: each number exactly in its case, and 0 exactly if none applies
    pub refused-exactly : (r : Refusal) → (h.number ≡ refusal_number r) ↔ Given image library s lent r
    unfolding handed
    refused-exactly r = rw is-handed (run-refused image library s lent outcome refl r)

    pub answered-exactly : (h.number ≡ 0) ↔ NothingRefused image library s lent
    unfolding handed
    answered-exactly = rw is-handed (run-answered image library s lent outcome refl)

    -- MEMORY AND COUNTS, by the number: the counts where seven places were lent, the rows and then zeros on 0
    pub memory : HandedSound h
    memory = rw is-handed sound

    pub same-lengths : (length h.counts ≡ length counts) × SameLengths h.left lent
    unfolding handed counts_in
    same-lengths =
        rw is-handed (put-length 7 counts 0 (count_numbers (counts_of outcome.answer)), run-lengths image library s lent outcome refl)

    -- OWN ADDRESS: each row of the list with a grade of 1 to 3, under rule set 1, as it is read from lent memory; a row
    -- behind the list's has grade 0, so that no count is asked for
    pub own_row : s.rules ≡ 1 → h.number ≡ 0 → (i : ℕ) → 1 ≤ (line_at h.left.lines i).grade
        → Own library (view image (cover s)) (asked_of s) (modules_in (library_read library s)) (line_at h.left.lines i).name (line_at h.left.lines i).address
    unfolding handed
    own_row = rw is-handed own-graded

-- THE STRETCHES: two images of one length that agree outside the cover give one outcome, if all else is equal
pub stretch-alone : (a b library : List ℕ) (s : Settings) (counts : List ℕ) (lent : Lent) → Agree a b (cover s)
    → (h k : Handed) → Contract a library s counts lent h → Contract b library s counts lent k → h ≡ k
unfolding handed_run
stretch-alone a b library s counts lent same h k c d =
    c ∙ ap (handed counts) (run_alone a b library s lent same (run a library s lent) (run b library s lent) refl refl) ∙ sym d

-- SAME COVER: two lists of stretches, neither refused with 16 or 4, that cover the same bytes give one outcome, if all else is equal
pub same-cover : (image library : List ℕ) (s : Settings) (counts : List ℕ) (lent : Lent) (v w : Stretches) → Fit image v → Fit image w
    → ((i : ℕ) → i < length image → within (cover_of v) i ≡ within (cover_of w) i)
    → (h k : Handed) → Contract image library (withholding s v) counts lent h → Contract image library (withholding s w) counts lent k → h ≡ k
unfolding handed_run
same-cover image library s counts lent v w f g same h k c d = c ∙ ap (handed counts) (same-cover-run image library s lent v w f g same) ∙ sym d

-- NOTHING WITHHELD: where no stretch has a byte it hands over the run on the image itself
pub nothing-withheld : (image library : List ℕ) (s : Settings) (counts : List ℕ) (lent : Lent) → ((i : ℕ) → Inside (cover s) i → ⊥)
    → (h : Handed) → Contract image library s counts lent h → h ≡ handed counts (run_seen image library s lent)
unfolding handed_run
nothing-withheld image library s counts lent e h c = c ∙ ap (handed counts) (plain-run image library s lent e)
