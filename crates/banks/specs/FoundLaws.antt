-- The run on a bank's bytes, with what is cut, is the run on the bank's view of the board. Assumes nothing.
use Rattle.std.specs.Prelude.{ℕ, ◌-◌, ◌≤◌, ◌≡◌, List, ◌++◌, length, take, drop}
use Rattle.std.proofs.Common.{sym, ap, ◌∙◌, append-nil, arith, length-drop, drop_of_length-le, take_all, drop_at, length-take-le}
use borrow.Rule.Slice.PartMut.{put_mid, take_put}
use Rattle.image.specs.View.{view}
use Rattle.collect.specs.declared.stored.CollectCounts.{CollectCounts as Stored}
use Rattle.listing.specs.Outcome.{find_outcome}
use Rattle.run.specs.declared.Settings.{Settings}
use Rattle.run.specs.Run.{Lent, Outcome, asked_of, cover, Answer}
use Rattle.libfind.specs.Ends.{given_lists, concluded, FindsCollected}
use Rattle.bank_rules.specs.Banks.{bank_cells, Has}
use Rattle.bank_rules.specs.Cut.{cut_settings}
use Rattle.bank_rules.proofs.CutLaws.{cells-length, cut-cover, bank-view}
use Rattle.banks.specs.Turns.{with_lines, FindsView}

module _ (file library : List ℕ) (s : Settings) (c : Stored) (k at : ℕ) (has : Has k file) (before after : Lent) (within : at ≤ length before.lines) where
  -- the lines that the view gets: those from the place on
  abbrev pub lent : List ℕ
  lent = take (length before.lines - at) (drop at before.lines)

  lent_is : lent ≡ drop at before.lines
  lent_is = take_all (length before.lines - at) (drop at before.lines) (omega (arith, length-drop at before.lines))

  -- and as they are put back
  put_is : (lines : List ℕ) → drop at (put_mid at (length before.lines - at) before.lines lines) ≡ lines
  put_is lines =
      drop_at (take at before.lines) (lines ++ drop (length before.lines - at) (drop at before.lines)) at (length-take-le at before.lines within)
      ∙ ap (λ l. lines ++ l) (drop_of_length-le (drop at before.lines) {i = length before.lines - at} (omega (arith, length-drop at before.lines)))
      ∙ append-nil lines

  seen-is : {seen : List ℕ} {t : Settings} → seen ≡ bank_cells k file → t ≡ cut_settings k s → view seen (cover t) ≡ bank_cells k (view file (cover s))
  seen-is {seen} {t} e f =
      ap (λ l. view l (cover t)) e ∙ ap (λ u. view (bank_cells k file) (cover u)) f
      ∙ ap (view (bank_cells k file)) (cut-cover k s.withheld) ∙ sym (bank-view k file (cover s) has)

  abbrev outcome : List ℕ → Settings → Lent → Outcome
  outcome cells u l = concluded c (find_outcome cells (asked_of u) u.skip library c.segments (given_lists l))

  pub finds-view : {seen : List ℕ} {t : Settings} {r : Answer} {lines : List ℕ} → seen ≡ bank_cells k file → t ≡ cut_settings k s
      → FindsCollected seen library t c (with_lines before lent) r (with_lines after lines)
      → after.lines ≡ put_mid at (length before.lines - at) before.lines lines → FindsView (view file (cover s)) library s c k at before r after
  finds-view {seen} {t} {r} {lines} e f found put = record {
    kept = ap (take at) put ∙ take_put at (length before.lines - at) before.lines lines within;
    found = ap (λ l. record { answer = r; left = with_lines after l }) (ap (drop at) put ∙ put_is lines)
        ∙ found (omega (arith, ap length e, cells-length k file has))
        ∙ ap (λ cells. outcome cells t (with_lines before lent)) (seen-is e f)
        ∙ ap (λ u. outcome (bank_cells k (view file (cover s))) u (with_lines before lent)) f
        ∙ ap (λ l. outcome (bank_cells k (view file (cover s))) s (with_lines before l)) lent_is;
  }
