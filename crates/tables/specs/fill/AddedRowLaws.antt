-- Rows added to lent memory, one after another. Assumes nothing.
use Rattle.std.specs.Prelude.{◌≡◌, ℕ, List, [], ◌++◌, length, ◌≢◌}
use Rattle.std.proofs.Common.{sym, subst, append-nil, append_assoc}
use Rattle.lent.specs.Lists.{one}
use Rattle.lent.specs.Rows.{Layout}
use Rattle.lent.specs.RowLaws.{Wide}
use Rattle.tables.specs.declared.fill.Fill.{Fill}
use Rattle.tables.specs.fill.FilledRows.{one_more, put_more, Filling, Adds, Leads}
use Rattle.tables.specs.fill.FilledRowLaws.{filled_more}

module _ {R : Type 0} (l : Layout R) where
  pub adds_none : (m : List ℕ) (f : Fill) → Adds l [] m f m f
  adds_none m f rows h = rw append-nil h

  pub adds_one : Wide l → (l.width ≢ 0) → (m : List ℕ) (f : Fill) (r : R) → Adds l (one r) m f (put_more l f r m) (one_more f l.width (length m))
  adds_one wide some m f r rows h = filled_more l wide some rows m f r h

  pub adds-both : (a b : List R) {m n k : List ℕ} {f g h : Fill} → Adds l a m f n g → Adds l b n g k h → Adds l (a ++ b) m f k h
  adds-both a b {m} {n} {k} {f} {g} {h} p q rows x = subst (λ r. Filling l r k h) (append_assoc rows a b) (q (rows ++ a) (p rows x))

  -- one thing more is added, and then nothing is left
  pub lead-on : (a : List R) {left rest all : List R} {m₀ m n : List ℕ} {f₀ f g : Fill} → left ≡ a ++ rest → Adds l a m f n g → Leads l left m f all m₀ f₀
      → Leads l rest n g all m₀ f₀
  lead-on a {left} {rest} {all} {m₀} {m} {n} {f₀} {f} {g} e p w k h q =
      w k h (subst (λ xs. Adds l xs m f k h) (sym e) (adds-both a rest {m = m} {n = n} {k = k} {f = f} {g = g} {h = h} p q))

  pub all-added : {left all : List R} {m₀ m : List ℕ} {f₀ f : Fill} → left ≡ [] → Leads l left m f all m₀ f₀ → Adds l all m₀ f₀ m f
  all-added {left} {all} {m₀} {m} {f₀} {f} e w = w m f (subst (λ xs. Adds l xs m f m f) (sym e) (adds_none m f))
