-- The loop over the banks comes to the run on the board. Assumes nothing.
use Prim.Native.Nat.{ℕ, zero, suc, ◌+◌, ◌*◌, ◌≤◌, ◌<◌}
use Rattle.std.specs.Prelude.{◌≡◌, List, length, set, Ok, Err}
use Rattle.std.proofs.Math.Path.{refl, ap, subst}
use Rattle.std.proofs.Common.{sym, ◌∙◌, length-append}
use native.Mathlib.Omega.{arith}
use Rattle.lent.specs.declared.refusal.Refusal.{Refusal}
use Rattle.lent.specs.declared.refusal.Refusal.TheVariants.{TooFewRows}
use Rattle.lent.specs.Lists.{one}
use Rattle.lent.specs.Rows.{zeros, padded}
use Rattle.lent.specs.RowLaws.{padded-nil, padded-set}
use Rattle.collect.specs.declared.stored.CollectCounts.{CollectCounts as Stored}
use Rattle.collect.specs.Outcome.{counted_in}
use Rattle.run.specs.declared.Settings.{Settings}
use Rattle.run.specs.declared.Counts.{Counts}
use Rattle.run.specs.Run.{Lent, segments_of, counts_with, counted, filled_with}
use Rattle.run.proofs.Answers.{SameLengths}
use Rattle.libfind.specs.Ends.{collectable, Filled}
use Rattle.libfind.specs.FindingLaws.{nine-finding, none-finding}
use Rattle.bank_rules.specs.Banks.{shown, lines_to, each_to, last_to, given_to, needed_to, Has}
use Rattle.banks.specs.Turns.{with_lines, FindsView, without_rows, joined_counts, board_by}
use Rattle.bank_rules.proofs.OverLaws.{over-grows, lines_next}
use Rattle.banks.specs.TurnLaws.{place, Listed, left_to, none-listed, turn-done, turn-refused}

pub each-length : (cells library : List ℕ) (s : Settings) (k : ℕ) → length (each_to cells library s k) ≡ k
unfolding each_to
each-length cells library s zero = refl
each-length cells library s (suc k) = omega (arith, length-append (each_to cells library s k) (one (length (shown cells library s k).lines)), each-length cells library s k)

module _ (cells library : List ℕ) (s : Settings) (n : ℕ) (lent : Lent) (c : Stored) where
  -- k banks are shown: what is lent now, the counts, and the lines of each
  pub record Shown (k : ℕ) (now : Lent) (counts : Counts) (each : List ℕ) : Type 0 where
    pub within : k ≤ n
    pub filled : Filled library s lent c (collectable lent)
    pub listed : Listed cells library s lent filled k now
    pub counts-are : counts ≡ counted (given_to cells library s k)
    pub each-are : each ≡ padded 16 (each_to cells library s k)

  pub shown-starts : Filled library s lent c (collectable lent) → {counts : Counts} → counts ≡ without_rows c → Shown 0 lent counts (zeros 16)
  unfolding counted counted_in lines_to last_to each_to
  shown-starts f e = record {
    within = omega arith;
    filled = f;
    listed = none-listed cells library s lent f (record { segments = refl; references = refl; symbols = refl; bytes = refl; masks = refl; placed = refl; noted = refl; lines = refl });
    counts-are = e ∙ ap without_rows f.counts-are;
    each-are = padded-nil 16;
  }

  module _ {k : ℕ} {now : Lent} {counts : Counts} {each : List ℕ} (h : Shown k now counts each) where
    -- the lines so far fit
    lines_are : counts.lines ≡ length (lines_to cells library s k)
    unfolding counted
    lines_are = ap (λ x. x.lines) h.counts-are

    there : (P : ℕ → Type 0) → P (counts.lines * 4) → P (place cells library s lent h.filled k)
    there P v = subst (λ m. P (m * 4)) lines_are v

    pub shown-room : counts.lines * 4 ≤ length now.lines
    shown-room = omega (arith, lines_are, h.listed.listed, h.listed.long.lines)

    module _ (more : k < n) (has : Has k cells) {after : Lent} (long : SameLengths after now) where
      keeps : SameLengths after lent
      keeps = let l = h.listed.long in record {
        segments = long.segments ∙ l.segments;
        references = long.references ∙ l.references;
        symbols = long.symbols ∙ l.symbols;
        bytes = long.bytes ∙ l.bytes;
        masks = long.masks ∙ l.masks;
        placed = long.placed ∙ l.placed;
        noted = long.noted ∙ l.noted;
        lines = long.lines ∙ l.lines;
      }

      pub shown-on : {next : Counts} → FindsView cells library s c k (counts.lines * 4) now (Ok next) after → k < 16
          → Shown (k + 1) after (joined_counts counts next (counts.lines + next.lines)) (set each k next.lines)
      unfolding counted last_to lines_to each_to
      shown-on {next} v l =
          let t = turn-done cells library s lent h.filled k has now h.listed (there (λ x. FindsView cells library s c k x now (Ok next) after) v) keeps in
          let one_more : suc k ≡ k + 1 = omega arith in
          subst (λ j. Shown j after (joined_counts counts next (counts.lines + next.lines)) (set each k next.lines)) one_more
          (record {
            within = omega (arith, more);
            filled = h.filled;
            listed = t.0;
            counts-are = rw (h.counts-are, t.1)
                (ap (λ m. counts_with (segments_of library s) (length (shown cells library s k).placed) (length (shown cells library s k).noted) m) (sym (lines_next cells library s lent k)));
            each-are = rw (h.each-are, t.1) (padded-set 16 (each_to cells library s k) (length (shown cells library s k).lines) k (each-length cells library s k) l);
          })

      pub shown-stops : {r : Refusal} {lines : List ℕ} → FindsView cells library s c k (counts.lines * 4) now (Err r) after → lines ≡ zeros (length after.lines)
          → record { answer = Err r; left = with_lines after lines } ≡ board_by cells library s n lent
      shown-stops {r} {lines} v e =
          let t = turn-refused cells library s lent h.filled k has now h.listed (there (λ x. FindsView cells library s c k x now (Err r) after) v) keeps in
          let nine = nine-finding lent (needed_to cells library s n) (over-grows cells library s lent (suc k) n more t.case) in
          rw (nine, t.is) (ap (λ x. record { answer = Err TooFewRows; left = x }) (t.zero lines e))

    -- ALL BANKS ARE LISTED
    pub shown-ends : n ≤ k → 1 ≤ n → record { answer = Ok (record { counts = counts; banks = n; lines = each }); left = now } ≡ board_by cells library s n lent
    unfolding left_to
    shown-ends all some-bank =
        let last : k ≡ n = omega (arith, all, h.within) in
        subst (λ j. record { answer = Ok (record { counts = counts; banks = j; lines = each }); left = now } ≡ board_by cells library s j lent) last
        (rw (none-finding lent (needed_to cells library s k) h.listed.searched h.listed.listed, h.counts-are, h.each-are, h.listed.lists, full k (omega (arith, last, some-bank))) refl)
      where
        full : (j : ℕ) → 1 ≤ j → left_to cells library s lent h.filled j ≡ filled_with library (given_to cells library s j) lent
        full zero l = absurd (omega arith)
        full (suc j) l = refl
