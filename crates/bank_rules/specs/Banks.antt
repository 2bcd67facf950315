-- A board with switched banks: its file, the views of its banks, what a run on it gives, refuses and leaves (W-210).
use Rattle.std.specs.Prelude.{ℕ, zero, suc, ◌+◌, ◌-◌, ◌*◌, ◌/◌, ◌%◌, ◌≤◌, max, Bool, not, ◌&&◌, List, [], ◌++◌, eqb, leb, length, take, drop, Result, Ok, Err}
use Rattle.std.proofs.Math.Option.{Option}
use Rattle.lent.specs.declared.refusal.Refusal.{Refusal}
use Rattle.lent.specs.declared.refusal.Refusal.TheVariants.{NotBanked}
use Rattle.lent.specs.Choice.{when}
use Rattle.lent.specs.Lists.{one}
use Rattle.lent.specs.Rows.{zeros, padded}
use Rattle.image.specs.View.{view}
use Rattle.listing_rules.specs.declared.Line.{Line}
use Rattle.run.specs.declared.Settings.{Settings}
use Rattle.run.specs.declared.Counts.{Counts}
use Rattle.run.specs.Run.{Lent, Yield, Outcome, segments_of, stages, counts_with, run_by, cover, Answer}
use Rattle.bank_rules.specs.declared.BankCounts.{BankCounts}

-- a file has 32 KiB of common code and 1 to 16 banks of 32 KiB, and nothing else
abbrev pub is_banked : ℕ → Bool
is_banked size = eqb (size % 32768) 0 && (leb 65536 size && leb size 557056)

-- how many banks it has
abbrev pub banks_in : ℕ → ℕ
banks_in size = size / 32768 - 1

-- a board's own refusal, in the place of an image's
abbrev pub not_banked : ℕ → Option Refusal
not_banked size = when (not (is_banked size)) NotBanked

-- where bank k begins in the file: behind the common part and the banks before it; banks count from 0
abbrev pub bank_start : ℕ → ℕ
bank_start k = 32768 * (k + 1)

-- a board has bank k
abbrev pub Has : ℕ → List ℕ → Type 0
Has k cells = 32768 * (k + 2) ≤ length cells

-- BANK k'S VIEW: the common part, and behind it the bank
unfoldable pub bank_cells : ℕ → List ℕ → List ℕ
bank_cells k cells = take 32768 cells ++ take 32768 (drop (bank_start k) cells)

-- a run on the cells of a board, which are those of its file with what is withheld
module _ (cells library : List ℕ) (s : Settings) where
  -- what a view gives: the stages of a run on it as a single image
  abbrev pub shown : ℕ → Yield
  shown k = stages (bank_cells k cells) library s

  -- of the first k banks: the lists, one after another
  unfoldable pub lines_to : ℕ → List Line
  lines_to zero = []
  lines_to (suc k) = lines_to k ++ (shown k).lines

  -- how many lines each has
  unfoldable pub each_to : ℕ → List ℕ
  each_to zero = []
  each_to (suc k) = each_to k ++ one (length (shown k).lines)

  -- the rows that the last of them gives
  unfoldable pub last_to : {A : Type 0} → (Yield → List A) → ℕ → List A
  last_to rows zero = []
  last_to rows (suc k) = rows (shown k)

  -- the most rows that one of them gives
  unfoldable pub most_to : {A : Type 0} → (Yield → List A) → ℕ → ℕ
  most_to rows zero = 0
  most_to rows (suc k) = max (most_to rows k) (length (rows (shown k)))

  -- what they give together: the segments once, the rows of the search for the last bank, the lines of all
  abbrev pub given_to : ℕ → Yield
  given_to k = record { segments = segments_of library s; placed = last_to (λ y. y.placed) k; noted = last_to (λ y. y.noted) k; lines = lines_to k }

  -- what has to fit into lent memory: rows of the search are lent for one bank at a time, lines for all together
  abbrev pub needed_to : ℕ → Counts
  needed_to k = counts_with (segments_of library s) (most_to (λ y. y.placed) k) (most_to (λ y. y.noted) k) (length (lines_to k))

-- the answer of a run on a board: its counts with those of the banks, or a refusal
abbrev pub BankAnswer : Type 0
BankAnswer = Result BankCounts Refusal

-- what is of the run in it
abbrev pub run_answer : BankAnswer → Answer
run_answer (Ok b) = Ok b.counts
run_answer (Err r) = Err r

-- how many banks there are, and how many lines each has; with a refusal there is neither bank nor line
abbrev pub bank_count : BankAnswer → ℕ
bank_count (Ok b) = b.banks
bank_count (Err r) = 0

abbrev pub bank_lines : BankAnswer → List ℕ
bank_lines (Ok b) = b.lines
bank_lines (Err r) = zeros 16

-- what a run on a board comes to: the answer, and the lent lists afterwards
pub record BankOutcome : Type 0 where
  pub answer : BankAnswer
  pub left : Lent

-- the answer of the run, with the lines of each of so many banks
abbrev pub with_banks : ℕ → List ℕ → Answer → BankAnswer
with_banks n each (Ok c) = Ok (record { counts = c; banks = n; lines = padded 16 each })
with_banks n each (Err r) = Err r

-- the run on the cells of a board: the refusals are those of a run, with the board's own
unfoldable pub banks_seen : List ℕ → List ℕ → Settings → Lent → BankOutcome
banks_seen cells library s lent =
    let n = banks_in (length cells) in
    let o : Outcome = run_by (not_banked (length cells)) (length cells) library s lent (needed_to cells library s n) (given_to cells library s n) in
    record { answer = with_banks n (each_to cells library s n) o.answer; left = o.left }

-- THE RUN on a board's file: it sees only the view of the file, in which the stretches are withheld
unfoldable pub find_banks : List ℕ → List ℕ → Settings → Lent → BankOutcome
find_banks file library s lent = banks_seen (view file (cover s)) library s lent
