-- What one bank's view comes to in the run on a board, once the segments are collected.
use Rattle.std.specs.Prelude.{ℕ, ◌≡◌, List, take, drop}
use Rattle.collect.specs.declared.stored.CollectCounts.{CollectCounts as Stored}
use Rattle.listing.specs.Outcome.{find_outcome}
use Rattle.run.specs.declared.Settings.{Settings}
use Rattle.run.specs.declared.Counts.{Counts}
use Rattle.run.specs.Run.{Lent, lent_lists, Outcome, asked_of, outcome_of, Answer}
use Rattle.libfind.specs.Ends.{given_lists, concluded, finding_by}
use Rattle.bank_rules.specs.Banks.{bank_cells, each_to, given_to, needed_to, BankOutcome, with_banks}

-- the same lists, of which the lines are others
abbrev pub with_lines : Lent → List ℕ → Lent
with_lines l lines = lent_lists l.segments l.references l.symbols l.bytes l.masks l.placed l.noted lines

-- what lies before a place among the lines stays; from there on, and in the other lists, it is the run on the view
pub record FindsView (cells library : List ℕ) (s : Settings) (c : Stored) (k at : ℕ) (before : Lent) (r : Answer) (after : Lent) : Type 0 where
  pub kept : take at after.lines ≡ take at before.lines
  pub found : record { answer = r; left = with_lines after (drop at after.lines) }
      ≡ concluded c (find_outcome (bank_cells k cells) (asked_of s) s.skip library c.segments (given_lists (with_lines before (drop at before.lines))))

-- the counts before the first bank is searched, and with one bank more
abbrev pub without_rows : Stored → Counts
without_rows c = record { segments = c.segments; references = c.references; symbols = c.symbols; pattern = c.pattern; placed = 0; noted = 0; lines = 0 }

abbrev pub joined_counts : Counts → Counts → ℕ → Counts
joined_counts c next lines = record {
  segments = c.segments;
  references = c.references;
  symbols = c.symbols;
  pattern = c.pattern;
  placed = next.placed;
  noted = next.noted;
  lines = lines;
}

-- the outcome on a board whose lent lists are these, once the segments are collected: by 9 for what is found
abbrev pub board_by : List ℕ → List ℕ → Settings → ℕ → Lent → BankOutcome
board_by cells library s n lent =
    let o : Outcome = outcome_of library (finding_by lent (needed_to cells library s n)) (given_to cells library s n) lent in
    record { answer = with_banks n (each_to cells library s n) o.answer; left = o.left }
