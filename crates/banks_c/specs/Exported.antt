-- What the exported function for boards gives its callers: plain numbers instead of settings, answers and counts.
use Rattle.std.specs.Prelude.{ℕ, List}
use Rattle.lent.specs.Rows.{put_row}
use Rattle.run.specs.declared.Settings.{Settings}
use Rattle.run.specs.Run.{Lent, number_of}
use Rattle.exported.specs.Exported.{counts_in}
use Rattle.bank_rules.specs.Banks.{BankOutcome, run_answer, bank_lines, find_banks}

-- what the caller gets: the number, the counts, the lines of each bank, and the lent lists
pub record HandedBanks : Type 0 where
  pub number : ℕ
  pub counts : List ℕ
  pub each : List ℕ
  pub left : Lent

-- the number; the seven counts, and the lines of each of 16 banks, in the first places of what is lent for them, if there are as many
unfoldable pub handed : List ℕ → List ℕ → BankOutcome → HandedBanks
handed counts each o = record {
  number = number_of (run_answer o.answer);
  counts = counts_in counts (run_answer o.answer);
  each = put_row 16 each 0 (bank_lines o.answer);
  left = o.left;
}

-- what the caller gets of the run on a board's file and a library
unfoldable pub handed_banks : List ℕ → List ℕ → Settings → List ℕ → List ℕ → Lent → HandedBanks
handed_banks file library s counts each lent = handed counts each (find_banks file library s lent)
