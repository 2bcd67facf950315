-- The lines of a region in memory: what is read, and what a put leaves. Assumes nothing.
use Prim.Native.Nat.{ℕ, suc, ◌+◌, ◌*◌, ◌≤◌, ◌<◌}
use Rattle.std.specs.Prelude.{◌≡◌, length, set, take, drop}
use Rattle.std.proofs.Math.Path.{sym, ap, fun_ext}
use Rattle.std.proofs.Common.{◌∙◌, suc-mul, mul-le-mul_right, arith, length-append, take_at, drop_at, length-take-le}
use mathlib.Core.List.{List, [], ◌∷◌, ◌++◌, append_assoc}
use Rattle.std.proofs.Math.Decide.{dec_lt}
use Rattle.std.proofs.Math.ListN.{get_or, get_or-append, get_or-eq_default}
use Rattle.std.proofs.Math.Seq.{sets, split_at, get_or-append-add}
use Rattle.std.proofs.lemmas.List.Edits.{sets-eq}
use Rattle.std.proofs.lemmas.List.{set_split}
use Rattle.lent.specs.Lists.{joined}
use Rattle.lent.specs.ListLaws.{rows-length, joined-append, joined_at}
use Rattle.lent.specs.Rows.{cell_of, put_row, Layout, row_at}
use Rattle.lent.specs.RowLaws.{cell-there, cell-past, put-there, Wide, Back}
use Rattle.listing_rules.specs.declared.Line.{Line}
use Rattle.listing_rules.specs.Listing.{line_width, line_cells, line_numbers}
use Rattle.listing_rules.specs.LineLayout.{line_layout, line_at}
use Rattle.listing_rules.proofs.LineLayoutLaws.{line-width, line-back}
use Rattle.listing.specs.order.Order.{Region, memory}
use Rattle.listing.specs.order.Passes.{no_line, placed}

-- a run of stores over as many numbers
stored-over : (p old new q : List ℕ) (n : ℕ) → length p ≡ n → length old ≡ length new → sets (p ++ (old ++ q)) n new ≡ p ++ (new ++ q)
stored-over p old new q n e w =
    let long = length-append p (old ++ q) in
    let more = length-append old q in
    let seam : length (p ++ old) ≡ n + length new = omega (arith, length-append p old) in
    sets-eq new (p ++ (old ++ q)) n (omega arith)
    ∙ ap (λ xs. xs ++ new ++ drop (n + length new) (p ++ (old ++ q))) (take_at p (old ++ q) n e)
    ∙ ap (λ xs. p ++ new ++ drop (n + length new) xs) (sym (append_assoc p old q))
    ∙ ap (λ xs. p ++ new ++ xs) (drop_at (p ++ old) q (n + length new) seam)
    ∙ append_assoc p new q

module _ {R : Type 0} (l : Layout R) (wide : Wide l) (rows : List R) (rest : List ℕ) (i : ℕ) (there : i < length rows) where
  row-there : i * l.width + l.width ≤ length (joined l.cells rows ++ rest)
  row-there =
      omega (arith, suc-mul i l.width, mul-le-mul_right l.width there, rows-length l.width l.cells wide rows, length-append (joined l.cells rows) rest)

  -- a row of those in front
  pub front-row : (d : R) → Back l (get_or rows i d) → row_at l (joined l.cells rows ++ rest) i ≡ get_or rows i d
  front-row d back = ap l.read (fun_ext (λ j. go j (dec_lt j l.width))) ∙ back
    where
      m : List ℕ
      m = joined l.cells rows ++ rest

      below : i * l.width + l.width ≤ length (joined l.cells rows)
      below = omega (arith, suc-mul i l.width, mul-le-mul_right l.width there, rows-length l.width l.cells wide rows)

      go : (j : ℕ) → Dec (j < l.width) → cell_of l.width m i j ≡ get_or (l.cells (get_or rows i d)) j 0
      go j (yes k) =
          cell-there l.width m i j row-there k
          ∙ get_or-append (joined l.cells rows) rest 0 (i * l.width + j) (omega (arith, below))
          ∙ joined_at l.width l.cells wide d rows i j there k
      go j (no k) = cell-past l.width m i j (omega arith) ∙ sym (get_or-eq_default (l.cells (get_or rows i d)) 0 (omega (arith, wide (get_or rows i d))))

  pub front-put : (r : R) → put_row l.width (joined l.cells rows ++ rest) i (l.cells r) ≡ joined l.cells (set rows i r) ++ rest
  unfolding joined
  front-put r =
      put-there l.width (joined l.cells rows ++ rest) i (l.cells r) row-there
      ∙ ap (λ xs. sets xs (i * l.width) (l.cells r)) apart
      ∙ stored-over a (l.cells (get_or rows i r)) (l.cells r) (b ++ rest) (i * l.width) a-long (wide (get_or rows i r) ∙ sym (wide r))
      ∙ sym (ap (λ xs. joined l.cells xs ++ rest) (set_split rows i r there) ∙ joint r)
    where
      a : List ℕ
      a = joined l.cells (take i rows)

      b : List ℕ
      b = joined l.cells (drop (suc i) rows)

      a-long : length a ≡ i * l.width
      a-long = rows-length l.width l.cells wide (take i rows) ∙ ap (λ n. n * l.width) (length-take-le i rows (omega arith))

      joint : (x : R) → joined l.cells (take i rows ++ x ∷ drop (suc i) rows) ++ rest ≡ a ++ (l.cells x ++ (b ++ rest))
      joint x =
          ap (λ xs. xs ++ rest) (joined-append l.cells (take i rows) (x ∷ drop (suc i) rows))
          ∙ append_assoc a (l.cells x ++ b) rest
          ∙ ap (λ xs. a ++ xs) (append_assoc (l.cells x) b rest)

      apart : joined l.cells rows ++ rest ≡ a ++ (l.cells (get_or rows i r) ++ (b ++ rest))
      apart = ap (λ xs. joined l.cells xs ++ rest) (split_at rows i r there) ∙ joint (get_or rows i r)

-- a place behind a list
pub set-behind : {A : Type 0} (xs ys : List A) (i : ℕ) (v : A) → set (xs ++ ys) (length xs + i) v ≡ xs ++ set ys i v
set-behind [] ys i v = let e : 0 + i ≡ i = omega arith in rw e
set-behind (x ∷ xs) ys i v = let e : suc (length xs) + i ≡ suc (length xs + i) = omega arith in rw e (ap (λ zs. x ∷ zs) (set-behind xs ys i v))

-- of a region: any of its places is read as it stands, and put alone
module _ {library : List ℕ} {from n : ℕ} (r : Region library from n) (lines : List Line) (m : List ℕ) (holds : m ≡ memory r lines) (i : ℕ) (there : i < length lines) where
  inside : from + i < length (r.done ++ lines)
  inside = omega (arith, length-append r.done lines, r.done-long)

  pub region-line : (placed lines i).grade < 256 → line_at m (from + i) ≡ placed lines i
  unfolding line_numbers
  region-line g =
      let at : get_or (r.done ++ lines) (from + i) no_line ≡ placed lines i =
      ap (λ k. get_or (r.done ++ lines) (k + i) no_line) (sym r.done-long) ∙ get_or-append-add r.done lines i no_line in
      ap (λ xs. line_at xs (from + i)) holds
      ∙ front-row line_layout line-width (r.done ++ lines) r.rest (from + i) inside no_line (line-back (get_or (r.done ++ lines) (from + i) no_line) (omega (arith, g, ap (λ x. x.grade) at)))
      ∙ at

  pub region-put : (x : Line) → put_row line_width m (from + i) (line_cells x) ≡ memory r (set lines i x)
  unfolding line_numbers
  region-put x =
      ap (λ xs. put_row line_width xs (from + i) (line_cells x)) holds
      ∙ front-put line_layout line-width (r.done ++ lines) r.rest (from + i) inside x
      ∙ ap (λ k. joined line_cells (set (r.done ++ lines) (k + i) x) ++ r.rest) (sym r.done-long)
      ∙ ap (λ xs. joined line_cells xs ++ r.rest) (set-behind r.done lines i x)
