-- THE STEPS MAKE UP THE RUN ON A BOARD: the beginning, the collection, and then the banks. Assumes nothing.
use Rattle.std.specs.Prelude.{ℕ, ◌+◌, ◌*◌, ◌%◌, ◌≤◌, ◌≡◌, Bool, true, false, not, ◌&&◌, List, eqb, leb, length, Ok, Err}
use Rattle.std.proofs.Math.Path.{refl, ap}
use Rattle.std.proofs.Common.{sym, subst, ◌∙◌, inr, arith, eqb-true, leb-true}
use Rattle.std.proofs.Math.Option.{Option, none, some}
use Rattle.std.proofs.lemmas.Bool.{not-false}
use Rattle.lent.specs.declared.refusal.Refusal.{Refusal}
use Rattle.lent.specs.declared.refusal.Refusal.TheVariants.{NotBanked}
use Rattle.lent.specs.Choice.{when, or_else}
use Rattle.lent.specs.ChoiceLaws.{both}
use Rattle.lent.specs.FirstOf.{none≢some}
use Rattle.lent.specs.Refusals.{zeroes}
use Rattle.lent.specs.RefusalLaws.{same_number, zeroes-not}
use Rattle.lent.specs.Rows.{zeros}
use Rattle.image.specs.View.{view}
use Rattle.image.proofs.ViewLaws.{view-length}
use Rattle.image.specs.fixup.Target.{rules_of}
use Rattle.omf51.specs.Module.{module_at}
use Rattle.omf51.specs.File.{file_refusal}
use Rattle.library.specs.Gathered.{items_at}
use Rattle.collect.specs.declared.stored.CollectCounts.{CollectCounts as Stored}
use Rattle.collect.specs.stored.Stores.{CollectLists as Collectable}
use Rattle.collect.specs.Outcome.{collect_filled, collection}
use Rattle.run.specs.declared.Settings.{Settings}
use Rattle.run.specs.declared.Counts.{Counts}
use Rattle.run.specs.Run.{Lent, lent_lists, Outcome, library_read, zeroed, filled_with, run_by, cover, Answer}
use Rattle.run.proofs.Answers.{SameLengths}
use Rattle.run.proofs.StageLaws.{when-none}
use Rattle.libfind.specs.Begin.{settings_refusal, Begun}
use Rattle.libfind.specs.Ends.{collectable, finding_by, Filled}
use Rattle.libfind.specs.EndLaws as end
use Rattle.libfind.specs.FindingLaws.{finding-late}
use Rattle.bank_rules.specs.Banks.{is_banked, banks_in, not_banked, lines_to, each_to, most_to, given_to, needed_to, BankOutcome, run_answer, with_banks, banks_seen, find_banks}
use Rattle.banks.specs.Turns.{board_by}

-- 18 writes nothing
mild : (size : ℕ) (r : Refusal) → not_banked size ≡ some r → zeroes r ≡ false
mild size r e = go (not (is_banked size)) e
  where
    go : (t : Bool) → when t NotBanked ≡ some r → zeroes r ≡ false
    go true q = zeroes-not r (inr (omega (arith, same_number q)))
    go false q = absurd (none≢some q)

-- a board has its banks
pub record Banks (size : ℕ) : Type 0 where
  pub some-bank : 1 ≤ banks_in size
  pub few : banks_in size ≤ 16
  pub whole : 32768 * (banks_in size + 1) ≡ size

pub has-banks : (size : ℕ) → is_banked size ≡ true → Banks size
has-banks size e =
    let outer = both (eqb (size % 32768) 0) (leb 65536 size && leb size 557056) e in
    let inner = both (leb 65536 size) (leb size 557056) outer.1 in
    let even = eqb-true (size % 32768) 0 outer.0 in
    let least = leb-true 65536 size inner.0 in
    let most = leb-true size 557056 inner.1 in
    record { some-bank = omega (arith, even, least, most); few = omega (arith, even, least, most); whole = omega (arith, even, least, most) }

abbrev pub BegunBoard : List ℕ → List ℕ → Settings → ℕ → Type 0
BegunBoard file library s first = Begun (not_banked (length file)) (length file) library s first

pub begun-banks : (file library : List ℕ) (s : Settings) (first : ℕ) → BegunBoard file library s first → Banks (length file)
begun-banks file library s first b = has-banks (length file) (not-false (is_banked (length file)) ((when-none (not (is_banked (length file))) NotBanked).0 b.accepted.image-fits))

-- lists that are as long as those that were lent, of which the last three are the same
module _ (library : List ℕ) (s : Settings) (lent : Lent) (c : Stored) (left : Collectable) where
  abbrev before : Lent
  before = lent_lists left.segments left.references left.symbols left.bytes left.masks lent.placed lent.noted lent.lines

  pub refilled : SameLengths before lent → Filled library s lent c left → Filled library s before c left
  unfolding collect_filled
  refilled h f = record {
    counts-are = f.counts-are;
    lists-are = f.lists-are ∙ rw (h.segments, h.references, h.symbols, h.bytes, h.masks) refl;
    room = rw (h.segments, h.references, h.symbols, h.bytes, h.masks) f.room;
    tested = f.tested;
  }

  finding-same : (c : Counts) → finding_by before c ≡ finding_by lent c
  unfolding finding_by
  finding-same c = refl

  pub same-board : (cells : List ℕ) (n : ℕ) → SameLengths before lent → board_by cells library s n before ≡ board_by cells library s n lent
  unfolding filled_with zeroed
  same-board cells n h = go (finding_by lent (needed_to cells library s n)) refl
    where
      go : (o : Option Refusal) → finding_by lent (needed_to cells library s n) ≡ o → board_by cells library s n before ≡ board_by cells library s n lent
      go none q = rw (finding-same (needed_to cells library s n), q, h.segments, h.references, h.symbols, h.bytes, h.masks) refl
      go (some r) q = rw (finding-same (needed_to cells library s n), q, finding-late lent (needed_to cells library s n) q, h.segments, h.references, h.symbols, h.bytes, h.masks) refl

module _ (file library : List ℕ) (s : Settings) (lent : Lent) where
  abbrev size : ℕ
  size = length file

  abbrev n : ℕ
  n = banks_in size

  abbrev cells : List ℕ
  cells = view file (cover s)

  abbrev banked : Outcome → BankOutcome
  banked o = record { answer = with_banks n (each_to cells library s n) o.answer; left = o.left }

  -- the view of the file is as long as the file
  board-is : banked (run_by (not_banked size) size library s lent (needed_to cells library s n) (given_to cells library s n)) ≡ find_banks file library s lent
  unfolding find_banks banks_seen
  board-is =
      ap (λ m. let k = banks_in m in let o : Outcome = run_by (not_banked m) m library s lent (needed_to cells library s k)
      (given_to cells library s k) in record { answer = with_banks k (each_to cells library s k) o.answer; left = o.left })
      (sym (view-length file (cover s)))

  -- a refusal has no banks
  pub answer-is : (find_banks file library s lent).answer
      ≡ with_banks (banks_in (length file)) (each_to (view file (cover s)) library s (banks_in (length file))) (run_answer (find_banks file library s lent).answer)
  answer-is = subst (λ o. o.answer ≡ with_banks n (each_to cells library s n) (run_answer o.answer)) board-is
      (again (run_by (not_banked size) size library s lent (needed_to cells library s n) (given_to cells library s n)).answer)
    where
      again : (a : Answer) → with_banks n (each_to cells library s n) a ≡ with_banks n (each_to cells library s n) (run_answer (with_banks n (each_to cells library s n) a))
      again (Ok c) = refl
      again (Err r) = refl

  -- without its banks it is a run by its refusals
  pub single-is : record { answer = run_answer (find_banks file library s lent).answer; left = (find_banks file library s lent).left }
      ≡ run_by (not_banked (length file)) (length file) library s lent (needed_to (view file (cover s)) library s (banks_in (length file)))
      (given_to (view file (cover s)) library s (banks_in (length file)))
  single-is = ap (λ o. record { answer = run_answer o.answer; left = o.left }) (sym board-is) ∙ bare
      (run_by (not_banked size) size library s lent (needed_to cells library s n) (given_to cells library s n))
    where
      bare : (o : Outcome) → record { answer = run_answer (banked o).answer; left = o.left } ≡ o
      bare o = go o.answer o.left
        where
          go : (a : Answer) (l : Lent) → ◌≡◌ {A = Outcome} (record { answer = run_answer (with_banks n (each_to cells library s n) a); left = l }) (record { answer = a; left = l })
          go (Ok c) l = refl
          go (Err r) l = refl

  -- REFUSED EARLY: nothing is written
  pub refused-early : {r : Refusal} → or_else (settings_refusal (not_banked size) size (length library) s) (file_refusal (library_read library s)) ≡ some r
      → record { answer = Err r; left = lent } ≡ find_banks file library s lent
  refused-early e = ap banked (end.refused-early (not_banked size) (mild size) size library s lent (most_to cells library s (λ y. y.placed) n)
      (most_to cells library s (λ y. y.noted) n) (length (lines_to cells library s n)) (given_to cells library s n) e) ∙ board-is

  module _ {first : ℕ} (b : BegunBoard file library s first) where
    -- REFUSED BY THE COLLECTION: all that was lent is set to zero
    pub refused-collecting : {r : Refusal} {left : Collectable} {placed noted lines : List ℕ}
        → record { answer = Err r; left = left } ≡ collection (rules_of s.rules) library (items_at library (module_at library) first) (collectable lent)
        → placed ≡ zeros (length lent.placed) → noted ≡ zeros (length lent.noted) → lines ≡ zeros (length lent.lines)
        → record { answer = Err r; left = lent_lists left.segments left.references left.symbols left.bytes left.masks placed noted lines } ≡ find_banks file library s lent
    refused-collecting e u v w =
        ap banked (end.refused-collecting (not_banked size) (mild size) size library s lent (most_to cells library s (λ y. y.placed) n)
        (most_to cells library s (λ y. y.noted) n) (length (lines_to cells library s n)) (given_to cells library s n) b e u v w) ∙ board-is

    -- COLLECTED: the rest of the run is the banks
    pub collected-filled : {c : Stored} {left : Collectable}
        → record { answer = Ok c; left = left } ≡ collection (rules_of s.rules) library (items_at library (module_at library) first) (collectable lent) → Filled library s lent c left
    collected-filled e = end.collected-filled (not_banked size) (mild size) size library s lent 0 0 0 (given_to cells library s n) b e

    pub banks-then : {c : Stored} {left : Collectable} → Filled library s lent c left → board_by cells library s n lent ≡ find_banks file library s lent
    banks-then f =
        ap banked (sym (end.run-found (not_banked size) (mild size) size library s lent (most_to cells library s (λ y. y.placed) n)
        (most_to cells library s (λ y. y.noted) n) (length (lines_to cells library s n)) (given_to cells library s n) b f))
        ∙ board-is
