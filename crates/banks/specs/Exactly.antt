-- Demand 1 for a board: each refusal exactly in its case, 18 in the place of 2. Assumes nothing.
use Rattle.std.specs.Prelude.{ℕ, ◌+◌, ◌*◌, ◌%◌, ◌≤◌, ◌≡◌, refl, ◌↔◌, Bool, true, false, not, ◌||◌, List, eqb, length}
use Rattle.std.proofs.Common.{sym, ap, arith, eq-eqb, le-leb}
use Rattle.std.proofs.Math.Logic.Iff
use Rattle.std.proofs.Math.Option.{some}
use Rattle.lent.specs.declared.refusal.Refusal.{Refusal}
use Rattle.lent.specs.declared.refusal.Refusal.TheVariants.{ImageTooLong, NotBanked}
use Rattle.lent.specs.Choice.{when}
use Rattle.lent.specs.FirstOf.{none≢some}
use Rattle.lent.specs.Refusals.{refusal_number}
use Rattle.lent.specs.RefusalLaws.{same_number}
use Rattle.image.specs.View.{view}
use Rattle.run.specs.declared.Settings.{Settings}
use Rattle.run.specs.Run.{Lent, run_by, number_of, cover}
use Rattle.run.specs.Given.{Shape, GivenBy, NothingRefusedBy}
use Rattle.run.proofs.StageLaws.{when-some, when-none, not-over, Worded}
use Rattle.run.proofs.Refused.{given_by, done-by}
use Rattle.bank_rules.specs.Banks.{is_banked, banks_in, not_banked, given_to, needed_to, run_answer, find_banks}
use Rattle.banks.specs.EntryLaws.{has-banks, single-is}

-- 32 KiB of common code and 1 to 16 banks of 32 KiB, in words
pub record Banked (size : ℕ) : Type 0 where
  pub banks : ℕ
  pub some-bank : 1 ≤ banks
  pub few : banks ≤ 16
  pub whole : size ≡ 32768 * (1 + banks)

pub is-banked : (size : ℕ) → (is_banked size ≡ true) ↔ Banked size
is-banked size = (
  (λ e. let h = has-banks size e in record { banks = banks_in size; some-bank = h.some-bank; few = h.few; whole = omega (arith, h.whole) }),
  λ b. rw (eq-eqb (size % 32768) 0 (omega (arith, b.whole)), le-leb 65536 size (omega (arith, b.whole, b.some-bank)), le-leb size 557056 (omega (arith, b.whole, b.few))) refl,
)

-- a board's own refusal is 18, and never 2
abbrev pub board : ℕ → Shape
board size = record { size = size; Long = ⊥; Unbanked = Banked size → ⊥; Fine = Banked size }

board-words : (size : ℕ) → Worded (board size) (not_banked size)
board-words size = record {
  long = ((λ e. never (not (is_banked size)) e), λ e. absurd e);
  unbanked = Iff.trans (when-some (not (is_banked size)) NotBanked) (Iff.trans (flips (is_banked size)) (not-over (is_banked size) (is-banked size)));
  fine = Iff.trans (when-none (not (is_banked size)) NotBanked) (Iff.trans (flips-back (is_banked size)) (is-banked size));
  told = λ r e. two (not (is_banked size)) r e;
}
  where
    flips : (t : Bool) → (not t ≡ true) ↔ (t ≡ false)
    flips true = ((λ e. sym e), λ e. sym e)
    flips false = ((λ e. refl), λ e. refl)

    flips-back : (t : Bool) → (not t ≡ false) ↔ (t ≡ true)
    flips-back true = ((λ e. refl), λ e. refl)
    flips-back false = ((λ e. sym e), λ e. sym e)

    two : (t : Bool) (r : Refusal) → when t NotBanked ≡ some r → (eqb 2 (refusal_number r) || eqb 18 (refusal_number r)) ≡ true
    two true r e = rw (← same_number e) refl
    two false r e = absurd (none≢some e)

    never : (t : Bool) → when t NotBanked ≡ some ImageTooLong → ⊥
    never true e = let n = same_number e in omega (arith, n)
    never false e = none≢some e

module _ (file library : List ℕ) (s : Settings) (lent : Lent) where
  abbrev n : ℕ
  n = banks_in (length file)

  abbrev cells : List ℕ
  cells = view file (cover s)

  -- the table of refusals for a board: what has to fit is the most rows of a bank, and the lines of all
  abbrev pub GivenBoard : Refusal → Type 0
  GivenBoard = GivenBy (board (length file)) library s lent (needed_to cells library s n)

  abbrev pub NoneGiven : Type 0
  NoneGiven = NothingRefusedBy (board (length file)) library s lent (needed_to cells library s n)

  number_is : number_of (run_answer (find_banks file library s lent).answer) ≡ number_of (run_by (not_banked (length file)) (length file) library s lent (needed_to cells library s n) (given_to cells library s n)).answer
  number_is = ap (λ o. number_of o.answer) (single-is file library s lent)

  pub given-exactly : (r : Refusal) → (number_of (run_answer (find_banks file library s lent).answer) ≡ refusal_number r) ↔ GivenBoard r
  given-exactly r = rw number_is (given_by (board (length file)) (not_banked (length file)) (board-words (length file)) library s lent (needed_to cells library s n) (given_to cells library s n) r)

  pub done-exactly : (number_of (run_answer (find_banks file library s lent).answer) ≡ 0) ↔ NoneGiven
  done-exactly = rw number_is (done-by (board (length file)) (not_banked (length file)) (board-words (length file)) library s lent (needed_to cells library s n) (given_to cells library s n))
