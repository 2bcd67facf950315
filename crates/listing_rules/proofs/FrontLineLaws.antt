-- Lines are put one after another into lent memory. Assumes nothing.
use Rattle.std.specs.Prelude.{ℕ, ◌+◌, ◌*◌, ◌≤◌, ◌<◌, ◌≡◌, refl, true, List, [], ◌++◌, length, take, drop}
use Rattle.std.proofs.Common.{sym, ap, subst, ◌∙◌, append_assoc, append-nil, mul-le-mul_right, arith, length-append, take-take, take_at, length-take-le}
use Rattle.std.proofs.lemmas.Bool.{false≢true}
use Rattle.std.proofs.lemmas.List.Edits.{sets-eq}
use Rattle.std.proofs.lemmas.List.{take-append-le}
use Rattle.lent.specs.Lists.{one}
use Rattle.lent.specs.ListLaws.{rows-length, joined_snoc}
use Rattle.lent.specs.Rows.{put_row}
use Rattle.lent.specs.RowLaws.{put-there, put-length}
use Rattle.tables.specs.declared.fill.Fill.{Fill}
use Rattle.listing_rules.specs.declared.Line.{Line}
use Rattle.listing_rules.specs.Listing.{line_width, line_cells, line_numbers}
use Rattle.listing_rules.specs.FrontLines.{Fronts, Front, Extends, LeadsTo}

pub numbers-length : (lines : List Line) → length (line_numbers lines) ≡ length lines * line_width
unfolding line_numbers
numbers-length lines = rows-length line_width line_cells (λ l. refl) lines

-- A ROW PUT at or behind a place leaves what stands in front of it
put-split : (m : List ℕ) (k : ℕ) (l : Line) → k * line_width + line_width ≤ length m
    → put_row line_width m k (line_cells l) ≡ (take (k * line_width) m ++ line_cells l) ++ drop (k * line_width + line_width) m
put-split m k l room = put-there line_width m k (line_cells l) room ∙ sets-eq (line_cells l) m (k * line_width) room

split-length : (m : List ℕ) (k : ℕ) (l : Line) → k * line_width + line_width ≤ length m → length (take (k * line_width) m ++ line_cells l) ≡ k * line_width + line_width
split-length m k l room =
    length-append (take (k * line_width) m) (line_cells l) ∙ ap (λ n. n + line_width) (length-take-le (k * line_width) m (omega arith))

pub put_front : (m : List ℕ) (i k : ℕ) (l : Line) → i ≤ k → k * line_width + line_width ≤ length m → take (i * line_width) (put_row line_width m k (line_cells l)) ≡ take (i * line_width) m
put_front m i k l h room =
    let below : i * line_width ≤ k * line_width = mul-le-mul_right line_width h in
    let at : length (take (k * line_width) m) ≡ k * line_width = length-take-le (k * line_width) m (omega arith) in
    ap (take (i * line_width)) (put-split m k l room)
    ∙ take-append-le (i * line_width) (take (k * line_width) m ++ line_cells l) (drop (k * line_width + line_width) m) (omega (arith, below, split-length m k l room))
    ∙ take-append-le (i * line_width) (take (k * line_width) m) (line_cells l) (omega (arith, below, at))
    ∙ take-take (i * line_width) (k * line_width) m below

-- and the line that is put behind those in front is one of them
pub put_next : (lines : List Line) (m : List ℕ) (l : Line) → Fronts lines m → length lines * line_width + line_width ≤ length m
    → Fronts (lines ++ one l) (put_row line_width m (length lines) (line_cells l))
unfolding line_numbers
put_next lines m l h room =
    let n : length (lines ++ one l) ≡ length lines + 1 = length-append lines (one l) in
    let w : length (lines ++ one l) * line_width ≡ length lines * line_width + line_width = omega (arith, n) in
    record {
      room = omega (arith, w, room, put-length line_width m (length lines) (line_cells l));
      numbers =
          ap (take (length (lines ++ one l) * line_width)) (put-split m (length lines) l room)
          ∙ take_at (take (length lines * line_width) m ++ line_cells l) (drop (length lines * line_width + line_width) m) (length (lines ++ one l) * line_width)
          (split-length m (length lines) l room ∙ sym w)
          ∙ ap (λ xs. xs ++ line_cells l) h.numbers
          ∙ sym (joined_snoc line_cells lines l);
    }

-- too many stay too many
over-more : (lines new : List Line) (m : List ℕ) → length m < length lines * line_width → length m < length (lines ++ new) * line_width
over-more lines new m h = omega (arith, h, length-append lines new)

pub extends-none : (m : List ℕ) (f : Fill) → Extends [] m f m f
extends-none m f lines h = subst (λ ls. Front ls m f) (sym (append-nil lines)) h

pub extends-over : (new : List Line) (m : List ℕ) (f : Fill) → f.over ≡ true → Extends new m f m f
extends-over new m f e lines h = record {
  counted = λ z. absurd (false≢true (sym z ∙ e));
  fits = λ z. absurd (false≢true (sym z ∙ e));
  over = λ z. over-more lines new m (h.over e);
}

-- FROM LINE TO LINE: all are left at first; some are added; none is left
module _ (all : List Line) (m₀ : List ℕ) (f₀ : Fill) where
  pub leads-first : LeadsTo all m₀ f₀ all m₀ f₀
  leads-first m f h = h

  pub leads-on : {left rest : List Line} (new : List Line) {m m' : List ℕ} {f f' : Fill} → left ≡ new ++ rest → LeadsTo left m f all m₀ f₀ → Extends new m f m' f'
      → LeadsTo rest m' f' all m₀ f₀
  leads-on {left} {rest} new {m} {m'} {f} {f'} e h step m'' f'' more =
      h m'' f'' (λ lines front. subst (λ ls. Front ls m'' f'') (append_assoc lines new rest ∙ ap (λ ls. lines ++ ls) (sym e)) (more (lines ++ new) (step lines front)))

  pub leads-same : {left rest : List Line} {m : List ℕ} {f : Fill} → left ≡ rest → LeadsTo left m f all m₀ f₀ → LeadsTo rest m f all m₀ f₀
  leads-same {m = m} {f = f} e h = subst (λ ls. LeadsTo ls m f all m₀ f₀) e h

  pub leads-last : {left : List Line} {m : List ℕ} {f : Fill} → left ≡ [] → LeadsTo left m f all m₀ f₀ → Extends all m₀ f₀ m f
  leads-last {m = m} {f = f} e h = h m f (subst (λ ls. Extends ls m f m f) (sym e) (extends-none m f))

  pub leads-over : {left : List Line} {m : List ℕ} {f : Fill} → f.over ≡ true → LeadsTo left m f all m₀ f₀ → Extends all m₀ f₀ m f
  leads-over {left} {m} {f} e h = h m f (extends-over left m f e)
