-- One row more has one outcome, by the contract alone; so has what is added to memory that held rows. Assumes nothing.
use Rattle.std.specs.Prelude.{◌≡◌, ℕ, Bool, true, false, List, ◌++◌, length, refl}
use Rattle.std.proofs.Common.{sym, ap, ◌∙◌, arith}
use Rattle.lent.specs.ChoiceLaws.{same_test}
use Rattle.lent.specs.Lists.{joined}
use Rattle.lent.specs.OneOutcome.{Determines, by-equation}
use Rattle.lent.specs.Rows.{Layout, padded}
use Rattle.tables.specs.declared.fill.Fill.{Fill}
use Rattle.tables.specs.fill.FilledRows.{one_more, put_more, Filling, Adds}

pub one-more-one : (f : Fill) (width len : ℕ) → Determines (λ r. r ≡ one_more f width len)
one-more-one f width len = by-equation (one_more f width len)

-- so has every function that appends a row: what it answers, and memory afterwards
abbrev pub Appended : {R : Type 0} → Layout R → Fill → R → List ℕ → List ℕ × Fill → Type 0
Appended l f r m out = (out.0 ≡ put_more l f r m) × (out.1 ≡ one_more f l.width (length m))

pub appended_one : {R : Type 0} (l : Layout R) (f : Fill) (r : R) (m : List ℕ) → Determines (Appended l f r m)
appended_one l f r m a b p q = rw (p.0, p.1, q.0, q.1)

-- whether there was room; and if so, how many rows there are, and memory
pub record OneFilling (a : List ℕ) (g : Fill) (b : List ℕ) (h : Fill) : Type 0 where
  pub over : g.over ≡ h.over
  pub rows : g.over ≡ false → g.rows ≡ h.rows
  pub memory : g.over ≡ false → a ≡ b

module _ {R : Type 0} (l : Layout R) where
  too_many : {rows : List R} {a b : List ℕ} {g h : Fill} → length a ≡ length b → Filling l rows a g → Filling l rows b h → g.over ≡ true → h.over ≡ true
  too_many {h = h} long p q e = go h.over refl
    where
      go : (t : Bool) → h.over ≡ t → h.over ≡ true
      go true f = f
      go false f = absurd (omega (arith, p.over e, (q.fits f).room, long))

  pub filling-one : (rows : List R) (a b : List ℕ) (g h : Fill) → length a ≡ length b → Filling l rows a g → Filling l rows b h → OneFilling a g b h
  filling-one rows a b g h long p q = record {
    over = over;
    rows = λ e. (p.fits e).number ∙ sym (q.fits (sym over ∙ e)).number;
    memory = λ e. (p.fits e).memory ∙ ap (λ n. padded n (joined l.cells rows)) long ∙ sym (q.fits (sym over ∙ e)).memory;
  }
    where
      over : g.over ≡ h.over
      over = same_test g.over h.over (too_many long p q) (too_many (sym long) q p)

  -- the functions that add rows, where memory held rows or was too small for them
  pub adds_one : (rows new : List R) (m a b : List ℕ) (f g h : Fill) → Filling l rows m f → length a ≡ length m → length b ≡ length m
      → Adds l new m f a g → Adds l new m f b h → OneFilling a g b h
  adds_one rows new m a b f g h held p q x y = filling-one (rows ++ new) a b g h (p ∙ sym q) (x rows held) (y rows held)
