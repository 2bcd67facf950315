-- All lines: the positions come first and then what is past them. Assumes nothing.
use Rattle.std.specs.Prelude.{ℕ, ◌-◌, ◌*◌, ◌/◌, ◌<◌, ◌≤◌, ◌≡◌, refl, true, false, length, take, drop}
use Rattle.std.proofs.Common.{sym, ◌∙◌, arith, length-drop, drop_of_length-le, take_all, length-take-le}
use Rattle.std.proofs.Math.Path.{ap, subst}
use Rattle.std.proofs.lemmas.Bool.{false≢true}
use mathlib.Core.List.{List, [], ◌++◌, append-nil}
use Rattle.lent.specs.Lists.{joined, from}
use Rattle.lent.specs.Rows.{zeros, padded}
use Rattle.tables.specs.declared.fill.Fill.{Fill}
use Rattle.image.specs.declared.fixup.Rules.{Rules}
use Rattle.tables.specs.by_name.Tables.{table, Tabled}
use Rattle.search_rules.specs.SearchRows.{noted_sheet}
use Rattle.search.specs.Fills.{Fitted}
use Rattle.listing_rules.specs.Listing.{SkipAmount, lines_at, leftovers, listing, line_width, line_numbers}
use Rattle.listing_rules.specs.FrontLines.{Front, Extends}
use Rattle.listing_rules.proofs.FrontLineLaws.{numbers-length}
use Rattle.listing.specs.position.RowsAt.{Known, segments_of}
use Rattle.listing.specs.Listed.{list_of, Leaves}

-- no lines stand in front of any memory
pub no_lines : (m : List ℕ) → Front [] m (record { rows = 0; over = false })
unfolding line_numbers joined
no_lines m = record { counted = λ e. refl; fits = λ e. record { room = omega arith; numbers = refl }; over = λ e. absurd (false≢true e) }

-- numbers behind some are cleared; there are none behind the end
pub behind-none : (m : List ℕ) (count : ℕ) → length m < count → m ≡ take count m ++ zeros (length m - count)
behind-none m count h =
    let z : length m - count ≡ 0 = omega arith in
    sym (ap (λ k. take count m ++ zeros k) z ∙ append-nil (take count m) ∙ take_all count m (omega arith))

pub behind-cleared : (m : List ℕ) (count : ℕ) (new : List ℕ) → count ≤ length m → new ≡ zeros (length (take (length m - count) (drop count m)))
    → take count m ++ (new ++ drop (length m - count) (drop count m)) ≡ take count m ++ zeros (length m - count)
behind-cleared m count new h e =
    let long : length (drop count m) ≡ length m - count = length-drop count m in
    ap (λ xs. take count m ++ xs)
    (ap (λ xs. new ++ xs) (drop_of_length-le (drop count m) {i = length m - count} (omega (arith, long)))
    ∙ append-nil new
    ∙ e
    ∙ ap zeros (length-take-le (length m - count) (drop count m) (omega (arith, long))))

-- WHAT IS LEFT: too many lines, or all of them and then zeros
pub leaves-over : (m : List ℕ) (f : Fill) → f.over ≡ true → Leaves m f m
leaves-over m f e lines h z = absurd (false≢true (sym z ∙ e))

pub leaves_none : (m : List ℕ) (f : Fill) → length m / 4 < f.rows → Leaves m f m
leaves_none m f l lines h z = absurd (omega (arith, l, h.counted z, (h.fits z).room))

pub leaves-cleared : (m : List ℕ) (f : Fill) (m' : List ℕ) → m' ≡ take (f.rows * 4) m ++ zeros (length m - f.rows * 4) → Leaves m f m'
leaves-cleared m f m' e lines h z =
    let n : f.rows * 4 ≡ length lines * line_width = ap (λ k. k * 4) (h.counted z) in
    e
    ∙ ap (λ k. take k m ++ zeros (length m - k)) n
    ∙ ap (λ xs. xs ++ zeros (length m - length lines * line_width)) (h.fits z).numbers
    ∙ ap (λ k. line_numbers lines ++ zeros (length m - k)) (sym (numbers-length lines))

module _ (cells : List ℕ) (skip : SkipAmount) {rules : Rules} {library segments references : List ℕ} {n : ℕ} {placed positions noted goals : List ℕ} (k : Known rules library segments references n placed positions noted goals) where
  pub names-tabled : (names : ℕ) → length k.ns ≡ names → Tabled noted_sheet library k.ns (table noted goals (record { rows = names; over = false }))
  names-tabled names e = subst (λ j. Tabled noted_sheet library k.ns (table noted goals (record { rows = j; over = false }))) e k.sought.notings

  -- ALL OF THEM: what stands inside the image, and then what is past its end
  pub all_listed : (end : ℕ) → length cells ≡ end → (m m₁ m₂ m' : List ℕ) (f₁ f₂ : Fill) → length m₂ ≡ length m
      → Extends (joined (lines_at library cells k.a (segments_of cells k) k.ps k.ns skip) (from 0 (length cells))) m (record { rows = 0; over = false }) m₁ f₁
      → Extends (leftovers end skip k.ns) m₁ f₁ m₂ f₂ → Leaves m₂ f₂ m'
      → Fitted line_width (length (list_of cells skip k)) (line_numbers (list_of cells skip k)) m m' f₂
  unfolding listing
  all_listed end is m m₁ m₂ m' f₁ f₂ same inside past left =
      record {
        fits = λ e. (left (list_of cells skip k) front e ∙ ap (λ j. padded j (line_numbers (list_of cells skip k))) same, front.counted e);
        room = λ e over. omega (arith, over, (front.fits e).room, same);
        over = λ e. omega (arith, front.over e, same);
      }
    where
      front : Front (list_of cells skip k) m₂ f₂
      front = subst (λ j. Front (joined (lines_at library cells k.a (segments_of cells k) k.ps k.ns skip) (from 0 (length cells)) ++ leftovers j skip k.ns) m₂ f₂) (sym is)
          (past (joined (lines_at library cells k.a (segments_of cells k) k.ps k.ns skip) (from 0 (length cells))) (inside [] (no_lines m)))
