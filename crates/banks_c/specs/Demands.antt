-- WHAT IS PROVED OF THE EXPORTED FUNCTION FOR BOARDS: from its contract alone. Assumes nothing.
use Rattle.std.specs.Prelude.{ℕ, ◌≡◌, ◌↔◌, List, length}
use Rattle.std.proofs.Math.Path.{refl}
use Rattle.std.proofs.Common.{sym, ap, ◌∙◌}
use Rattle.lent.specs.declared.refusal.Refusal.{Refusal}
use Rattle.lent.specs.Rows.{put_row}
use Rattle.lent.specs.OneOutcome.{Determines, by-equation}
use Rattle.lent.specs.Refusals.{refusal_number}
use Rattle.image.proofs.ViewLaws.{Agree}
use Rattle.run.specs.declared.Settings.{Settings}
use Rattle.run.specs.Run.{Lent, number_of, cover}
use Rattle.run.proofs.Answers.{SameLengths}
use Rattle.exported.specs.Exported.{counts_in}
use Rattle.bank_rules.specs.Banks.{BankOutcome, run_answer, bank_lines, find_banks}
use Rattle.banks.specs.Exactly.{GivenBoard, NoneGiven}
use Rattle.banks.specs.Demands.{refused-exactly as board-refused, answered-exactly as board-answered, same-lengths as board-lengths, sixteen as board-sixteen, stretch-alone as board-alone}
use Rattle.banks_c.specs.Exported.{HandedBanks, handed, handed_banks}

abbrev pub Contract : List ℕ → List ℕ → Settings → List ℕ → List ℕ → Lent → HandedBanks → Type 0
Contract file library s counts each lent h = h ≡ handed_banks file library s counts each lent

-- by the settings, what the run came to, the number, the counts and the lines of each bank
pub handed-over : (file library : List ℕ) (s t : Settings) (counts each : List ℕ) (lent : Lent) (r : ℕ) (after : List ℕ) (o : BankOutcome)
    → s ≡ t → o ≡ find_banks file library s lent → r ≡ number_of (run_answer o.answer) → after ≡ counts_in counts (run_answer o.answer)
    → {lines : List ℕ} → lines ≡ put_row (length (bank_lines o.answer)) each 0 (bank_lines o.answer)
    → (record { number = r; counts = after; each = lines; left = o.left }) ≡ handed_banks file library t counts each lent
unfolding handed_banks handed
handed-over file library s t counts each lent r after o same ran number counted e =
    rw (number, counted, e, board-sixteen file library s lent o ran) (ap (handed counts each) (ran ∙ ap (λ x. find_banks file library x lent) same))

module _ (file library : List ℕ) (s : Settings) (counts each : List ℕ) (lent : Lent) where
  -- ONE OUTCOME: any two that the contract allows are equal
  pub one-outcome : Determines (Contract file library s counts each lent)
  one-outcome = by-equation (handed_banks file library s counts each lent)

  module _ (h : HandedBanks) (c : Contract file library s counts each lent h) where
    is-handed : h ≡ handed counts each (find_banks file library s lent)
    unfolding handed_banks
    is-handed = c

    -- THE TABLE OF REFUSALS: each number exactly in its case, and 0 exactly if none applies
    pub refused-exactly : (r : Refusal) → (h.number ≡ refusal_number r) ↔ GivenBoard file library s lent r
    unfolding handed
    refused-exactly r = rw is-handed (board-refused file library s lent (find_banks file library s lent) refl r)

    pub answered-exactly : (h.number ≡ 0) ↔ NoneGiven file library s lent
    unfolding handed
    answered-exactly = rw is-handed (board-answered file library s lent (find_banks file library s lent) refl)

    pub same-lengths : SameLengths h.left lent
    unfolding handed
    same-lengths = rw is-handed (board-lengths file library s lent (find_banks file library s lent) refl)

-- THE STRETCHES: two files of one length that agree outside the cover give one outcome, if all else is equal
pub stretch-alone : (a b library : List ℕ) (s : Settings) (counts each : List ℕ) (lent : Lent) → Agree a b (cover s)
    → (h k : HandedBanks) → Contract a library s counts each lent h → Contract b library s counts each lent k → h ≡ k
unfolding handed_banks
stretch-alone a b library s counts each lent same h k c d =
    c ∙ ap (handed counts each) (board-alone a b library s lent same (find_banks a library s lent) (find_banks b library s lent) refl refl) ∙ sym d
