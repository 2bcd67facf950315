-- WHAT IS PROVED OF A RUN ON A BOARD: from the contract of the entry point alone. Assumes nothing.
use Rattle.std.specs.Prelude.{ℕ, suc, ◌+◌, ◌-◌, ◌≤◌, ◌<◌, ◌≡◌, ◌↔◌, List, get_or, Ok, Err}
use Rattle.std.proofs.Math.Path.{refl, sym, ap}
use Rattle.std.proofs.Common.{subst, ◌∙◌, arith}
use Rattle.std.proofs.Math.ListN.{length, get_or-append}
use Rattle.lent.specs.declared.refusal.Refusal.{Refusal}
use Rattle.lent.specs.Choice.{leading}
use Rattle.lent.specs.OneOutcome.{Determines, by-equation}
use Rattle.lent.specs.Refusals.{refusal_number}
use Rattle.lent.specs.RefusalLaws.{numbered}
use Rattle.lent.specs.Rows.{zeros}
use Rattle.lent.specs.RowLaws.{padded-length}
use Rattle.image.specs.View.{view}
use Rattle.image.proofs.ViewLaws.{Agree, same_view}
use Rattle.image.specs.fixup.Target.{rules_of}
use Rattle.omf51.specs.File.{modules_in}
use Rattle.listing_rules.specs.declared.Line.{Line}
use Rattle.listing_rules.specs.LineLayout.{line_at}
use Rattle.run.specs.declared.Settings.{Settings}
use Rattle.run.specs.Run.{Lent, Outcome, library_read, stages, counted, refusals, filled_with, number_of, counts_of, cover, Answer}
use Rattle.run.proofs.Answers.{SameLengths, SoundBy, sound-by, filled-lengths, kept_by}
use Rattle.run.proofs.ListedRows.{grades, row-is-line}
use Rattle.run.proofs.Demands.{Contract as SingleContract, memory as single-memory, answered-exactly as single-answered}
use Rattle.bank_rules.specs.Banks.{bank_cells, banks_in, not_banked, shown, lines_to, each_to, given_to, needed_to, BankAnswer, BankOutcome, run_answer, bank_count, bank_lines, with_banks, banks_seen, find_banks, Has}
use Rattle.bank_rules.specs.Cut.{cut_settings}
use Rattle.bank_rules.proofs.CutLaws.{cut-cover, bank-view}
use Rattle.bank_rules.proofs.OverLaws.{lines-grow, given-needed, lines_next}
use Rattle.banks.specs.EntryLaws.{has-banks, answer-is, single-is}
use Rattle.banks.specs.Exactly.{Banked, is-banked, GivenBoard, NoneGiven, given-exactly, done-exactly}
use Rattle.banks.specs.BoardLaws.{each-length}
use Rattle.banks.specs.ListedBanks.{line_of, count_of, all-graded}

-- the contract of the entry point: its answer, and all that it leaves in lent memory, are those of the run on the board
abbrev pub Contract : List ℕ → List ℕ → Settings → Lent → BankOutcome → Type 0
Contract file library s lent o = o ≡ find_banks file library s lent

-- what a single run would be told of it
abbrev pub as_single : BankOutcome → Outcome
as_single o = record { answer = run_answer o.answer; left = o.left }

no_line : Line
no_line = record { address = 0; grade = 0; name = record { at = 0; len = 0 } }

module _ (file library : List ℕ) (s : Settings) (lent : Lent) where
  -- ONE OUTCOME: any two that the contract allows are equal
  pub one-outcome : Determines (Contract file library s lent)
  one-outcome = by-equation (find_banks file library s lent)

  abbrev cells : List ℕ
  cells = view file (cover s)

  abbrev n : ℕ
  n = banks_in (length file)

  -- as many banks as the file has, and the lines of each
  abbrev pub Counted : BankAnswer → Type 0
  Counted a = (bank_count a ≡ n) × ((k : ℕ) → k < n → get_or (bank_lines a) k 0 ≡ length (shown cells library s k).lines)

  -- what a bank's view gives is what its bytes give as one image, with what is cut for it
  module _ (k : ℕ) (has : Has k file) where
    single-lines : (stages (view (bank_cells k file) (cover (cut_settings k s))) library (cut_settings k s)).lines ≡ (shown cells library s k).lines
    unfolding stages
    single-lines = ap (λ x. (stages x library s).lines) (ap (view (bank_cells k file)) (cut-cover k s.withheld) ∙ sym (bank-view k file (cover s) has))

  module _ (o : BankOutcome) (c : Contract file library s lent o) where
    -- THE TABLE OF REFUSALS: each number exactly in its case, and 0 exactly if none applies
    pub refused-exactly : (r : Refusal) → (number_of (run_answer o.answer) ≡ refusal_number r) ↔ GivenBoard file library s lent r
    refused-exactly r = rw c (given-exactly file library s lent r)

    pub answered-exactly : (number_of (run_answer o.answer) ≡ 0) ↔ NoneGiven file library s lent
    answered-exactly = rw c (done-exactly file library s lent)

    -- MEMORY AND COUNTS: on 0 the rows of the collection and of the last bank's search, and the lines of all banks, then zeros, and the
    -- counts are those rows; nothing written on 1 to 8 and above 13, zeros on 9 to 13, no counts on either
    pub memory : SoundBy (counted (given_to cells library s n)) (filled_with library (given_to cells library s n) lent) lent (as_single o)
    memory =
        subst (SoundBy (counted (given_to cells library s n)) (filled_with library (given_to cells library s n) lent) lent) (sym (ap as_single c ∙ single-is file library s lent))
        (sound-by library (given_to cells library s n) lent (leading (refusals (not_banked (length file)) (length file) library s lent (needed_to cells library s n))))

    pub same-lengths : SameLengths o.left lent
    unfolding counted
    same-lengths = kept_by memory fits
      where
        fits : number_of (run_answer o.answer) ≡ 0 → SameLengths (filled_with library (given_to cells library s n) lent) lent
        fits z =
            let h = answered-exactly.0 z in
            filled-lengths library (given_to cells library s n) lent (rules_of s.rules) (modules_in (library_read library s)) refl
            h.reached.room (λ q. h.searched (given-needed cells library s lent n q)) h.listed

    told : o.answer ≡ with_banks n (each_to cells library s n) (run_answer o.answer)
    told = rw c (answer-is file library s lent)

    -- BANKS: on 0 there are as many as the file has, and each has its count of lines; with a refusal there is none
    pub banks-counted : number_of (run_answer o.answer) ≡ 0 → Counted o.answer
    banks-counted z = subst Counted (sym told) (go (run_answer o.answer) z)
      where
        go : (a : Answer) → number_of a ≡ 0 → Counted (with_banks n (each_to cells library s n) a)
        go (Ok d) e = (refl, λ k l. get_or-append (each_to cells library s n) (zeros (16 - length (each_to cells library s n))) 0 k (omega (arith, l, each-length cells library s n)) ∙ count_of cells library s k n l)
        go (Err r) e = absurd (omega (arith, e, numbered r))

    pub no-banks : 1 ≤ number_of (run_answer o.answer) → (bank_count o.answer ≡ 0) × (bank_lines o.answer ≡ zeros 16)
    no-banks z = subst (λ a. (bank_count a ≡ 0) × (bank_lines a ≡ zeros 16)) (sym told) (go (run_answer o.answer) z)
      where
        go : (a : Answer) → 1 ≤ number_of a → (bank_count (with_banks n (each_to cells library s n) a) ≡ 0) × (bank_lines (with_banks n (each_to cells library s n) a) ≡ zeros 16)
        go (Ok d) e = absurd (omega arith)
        go (Err r) e = (refl, refl)

    pub sixteen : length (bank_lines o.answer) ≡ 16
    sixteen = ap (λ a. length (bank_lines a)) told ∙ go (run_answer o.answer) refl
      where
        go : (a : Answer) → run_answer o.answer ≡ a → length (bank_lines (with_banks n (each_to cells library s n) a)) ≡ 16
        go (Ok d) e =
            let b = has-banks (length file) ((is-banked (length file)).1 (answered-exactly.0 (ap number_of e)).reached.accepted.image-fits) in
            padded-length 16 (each_to cells library s n) (omega (arith, each-length cells library s n, b.few))
        go (Err r) e = refl

    -- EACH LIST IS THE SINGLE IMAGE'S: for every bank, the run on its bytes as one image, with what is cut for it, lists as many lines, and the same ones
    pub each-list : number_of (run_answer o.answer) ≡ 0 → (k : ℕ) → k < n → (other : Lent) (p : Outcome) → SingleContract (bank_cells k file) library (cut_settings k s) other p → number_of p.answer ≡ 0
        → (get_or (bank_lines o.answer) k 0 ≡ (counts_of p.answer).lines)
        × ((i : ℕ) → i < (counts_of p.answer).lines → line_at o.left.lines (length (lines_to cells library s k) + i) ≡ line_at p.left.lines i)
    unfolding counted filled_with stages
    each-list z k l other p d w = (
      (banks-counted z).1 k l ∙ sym count,
      λ i h. row i (omega (arith, h, count)) ∙ sym (single i (omega (arith, h, count, ap length same))),
    )
      where
        whole : Banked (length file)
        whole = (answered-exactly.0 z).reached.accepted.image-fits

        has : Has k file
        has = omega (arith, l, (has-banks (length file) ((is-banked (length file)).1 whole)).whole)

        same : (stages (view (bank_cells k file) (cover (cut_settings k s))) library (cut_settings k s)).lines ≡ (shown cells library s k).lines
        same = single-lines k has

        count : (counts_of p.answer).lines ≡ length (shown cells library s k).lines
        count = ap (λ x. x.lines) ((single-memory (bank_cells k file) library (cut_settings k s) other p d).counts-done w) ∙ ap length same

        row : (i : ℕ) → i < length (shown cells library s k).lines → line_at o.left.lines (length (lines_to cells library s k) + i) ≡ get_or (shown cells library s k).lines i no_line
        row i h =
            ap (λ x. line_at x.lines (length (lines_to cells library s k) + i)) (memory.left-done z)
            ∙ row-is-line (lines_to cells library s n) no_line (length lent.lines) (length (lines_to cells library s k) + i) (all-graded cells library s n)
            (omega (arith, (answered-exactly.0 z).listed)) (omega (arith, h, lines-grow cells library s (suc k) n l, lines_next cells library s lent k))
            ∙ line_of cells library s no_line k n i l h

        single : (i : ℕ) → i < length (stages (view (bank_cells k file) (cover (cut_settings k s))) library (cut_settings k s)).lines → line_at p.left.lines i ≡ get_or (shown cells library s k).lines i no_line
        single i h =
            ap (λ x. line_at x.lines i) ((single-memory (bank_cells k file) library (cut_settings k s) other p d).left-done w)
            ∙ row-is-line (stages (view (bank_cells k file) (cover (cut_settings k s))) library (cut_settings k s)).lines no_line (length other.lines) i (λ m j. grades _ _ _ _ _ _ s.skip j)
            (omega (arith, ((single-answered (bank_cells k file) library (cut_settings k s) other p d).0 w).listed)) h
            ∙ ap (λ x. get_or x i no_line) same

-- THE STRETCHES: two files of one length that agree outside the cover give one outcome, for all banks together, if all else is equal
pub stretch-alone : (a b library : List ℕ) (s : Settings) (lent : Lent) → Agree a b (cover s)
    → (o p : BankOutcome) → Contract a library s lent o → Contract b library s lent p → o ≡ p
unfolding find_banks
stretch-alone a b library s lent h o p c d = c ∙ ap (λ x. banks_seen x library s lent) (same_view a b (cover s) h) ∙ sym d
