-- Lines written into lent memory from the back, and what stands in front then. Assumes nothing.
use Rattle.std.specs.Prelude.{ℕ, ◌+◌, ◌*◌, ◌≤◌, ◌≡◌, length}
use Rattle.std.proofs.Common.{sym, ◌∙◌, arith, length-append, take-append-drop, take-take, take_at, drop_at, length-take-le}
use Rattle.std.proofs.Math.Path.{ap}
use mathlib.Core.List.{List, [], ◌∷◌, ◌++◌, append_assoc}
use Rattle.std.proofs.Math.ListN.{take, drop}
use Rattle.std.proofs.Math.Seq.{sets-eq}
use Rattle.std.proofs.lemmas.List.{take-append-le}
use Rattle.lent.specs.Lists.{joined}
use Rattle.lent.specs.ListLaws.{joined-append}
use Rattle.lent.specs.Rows.{put_row}
use Rattle.lent.specs.RowLaws.{put-there}
use Rattle.listing_rules.specs.declared.Line.{Line}
use Rattle.listing_rules.specs.Listing.{line_width, line_cells, line_numbers}
use Rattle.listing_rules.specs.FrontLines.{Fronts}
use Rattle.listing_rules.proofs.FrontLineLaws.{numbers-length}
use Rattle.listing.specs.past_end.Beyond.{Wrote}

-- none yet
pub wrote_none : (end : ℕ) (m : List ℕ) → Wrote [] end end m m
unfolding line_numbers joined
wrote_none end m = sym (take-append-drop (end * line_width) m)

-- one more in front of them
module _ (new : List Line) (l : Line) (k end : ℕ) (m m' : List ℕ) (room : (k + 1) * line_width ≤ length m) (long : length m' ≡ length m) (h : Wrote new (k + 1) end m m') where
  abbrev behind : List ℕ
  behind = line_numbers new ++ drop (end * line_width) m

  abbrev before : List ℕ
  before = take ((k + 1) * line_width) m

  before-long : length before ≡ (k + 1) * line_width
  before-long = length-take-le ((k + 1) * line_width) m room

  front_same : take (k * line_width) m' ≡ take (k * line_width) m
  front_same =
      ap (take (k * line_width)) h
      ∙ take-append-le (k * line_width) before behind (omega (arith, before-long))
      ∙ take-take (k * line_width) ((k + 1) * line_width) m (omega arith)

  back-same : drop (k * line_width + line_width) m' ≡ behind
  back-same = ap (drop (k * line_width + line_width)) h ∙ drop_at before behind (k * line_width + line_width) (omega (arith, before-long))

  pub wrote-more : Wrote (l ∷ new) k end m (put_row line_width m' k (line_cells l))
  unfolding line_numbers joined
  wrote-more =
      put-there line_width m' k (line_cells l) (omega (arith, room, long))
      ∙ sets-eq (line_cells l) m' (k * line_width) (omega (arith, room, long))
      ∙ ap (λ xs. (xs ++ line_cells l) ++ drop (k * line_width + line_width) m') front_same
      ∙ ap (λ xs. (take (k * line_width) m ++ line_cells l) ++ xs) back-same
      ∙ append_assoc (take (k * line_width) m) (line_cells l) behind
      ∙ ap (λ xs. take (k * line_width) m ++ xs) (sym (append_assoc (line_cells l) (line_numbers new) (drop (end * line_width) m)))

-- all of them stand behind those that stood in front
pub front-more : (lines new : List Line) (m m' : List ℕ) (end : ℕ) → Fronts lines m → end ≡ length lines + length new → end * line_width ≤ length m
    → length m' ≡ length m → Wrote new (length lines) end m m' → Fronts (lines ++ new) m'
unfolding line_numbers
front-more lines new m m' end h e room long w =
    let n : length (lines ++ new) ≡ end = length-append lines new ∙ sym e in
    let front : length (take (length lines * line_width) m) ≡ length lines * line_width = length-take-le (length lines * line_width) m h.room in
    record {
      room = omega (arith, n, room, long);
      numbers =
          ap (take (length (lines ++ new) * line_width)) (w ∙ sym (append_assoc (take (length lines * line_width) m) (line_numbers new) (drop (end * line_width) m)))
          ∙ take_at (take (length lines * line_width) m ++ line_numbers new) (drop (end * line_width) m) (length (lines ++ new) * line_width)
          (length-append (take (length lines * line_width) m) (line_numbers new) ∙ omega (arith, front, numbers-length new, n, e))
          ∙ ap (λ xs. xs ++ line_numbers new) h.numbers
          ∙ sym (joined-append line_cells lines new);
    }
