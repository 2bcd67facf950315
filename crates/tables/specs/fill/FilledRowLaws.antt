-- Laws of lent memory that gets one row more. Assumes nothing.
use Rattle.std.specs.Prelude.{◌≡◌, ℕ, zero, suc, ◌+◌, ◌*◌, ◌<◌, ◌≤◌, Bool, true, false, List, [], ◌++◌, length, nat_le, if◌then◌else◌}
use Rattle.std.proofs.Math.Path.{refl}
use Rattle.std.proofs.Common.{sym, ap, ◌∙◌, suc-mul, arith, length-append}
use Rattle.std.proofs.lemmas.Bool.{false≢true}
use borrow.Author.Tests.{le-leb, lt-leb, leb-true, leb-false, eq-eqb, ne_eqb}
use Rattle.lent.specs.Lists.{one, joined}
use Rattle.lent.specs.Rows.{zeros, padded, put_row, Layout}
use Rattle.lent.specs.RowLaws.{Wide, padded-nil, append-row, put-length}
use Rattle.tables.specs.declared.fill.Fill.{Fill}
use Rattle.tables.specs.fill.FilledRows.{no_more, one_more, put_more, Holds, Filling}

-- what one more comes to, case by case
module _ (f : Fill) (width len : ℕ) where
  pub stays-over : f.over ≡ true → one_more f width len ≡ f
  unfolding one_more
  stays-over e = rw e

  module _ (room : f.over ≡ false) where
    pub no-width : width ≡ 0 → one_more f width len ≡ no_more f
    unfolding one_more
    no-width e = rw (room, eq-eqb width 0 e)

    module _ (wide : width ≡ 0 → ⊥) where
      pub more-fits : f.rows * width + width ≤ len → one_more f width len ≡ record { rows = f.rows + 1; over = false }
      unfolding one_more
      more-fits h = rw (room, ne_eqb width 0 wide, le-leb (f.rows * width + width) len h)

      pub more-lacks : len < f.rows * width + width → one_more f width len ≡ no_more f
      unfolding one_more
      more-lacks h = rw (room, ne_eqb width 0 wide, lt-leb (f.rows * width + width) len h)

-- nothing yet: memory of zeros
pub none_filled : {R : Type 0} (l : Layout R) (m : List ℕ) → m ≡ zeros (length m) → Filling l [] m (record { rows = 0; over = false })
unfolding joined
none_filled l m z = record { fits = λ e. record { number = refl; room = omega arith; memory = z ∙ padded-nil (length m) }; over = λ e. absurd (false≢true e) }

-- ONE ROW MORE: it is held behind the others, or there are too many
module _ {R : Type 0} (l : Layout R) (wide : Wide l) (some : l.width ≡ 0 → ⊥) (rows : List R) (m : List ℕ) (f : Fill) (r : R) where
  longer : length (rows ++ one r) * l.width ≡ length rows * l.width + l.width
  longer = ap (λ n. n * l.width) (length-append rows (one r)) ∙ omega (arith, suc-mul (length rows) l.width)

  over-more : length m < length rows * l.width + l.width → Filling l (rows ++ one r) m (no_more f)
  over-more h = record { fits = λ e. absurd (false≢true (sym e)); over = λ e. omega (arith, longer) }

  holds_more : Holds l rows m f → length rows * l.width + l.width ≤ length m
      → Filling l (rows ++ one r) (put_row l.width m f.rows (l.cells r)) (record { rows = f.rows + 1; over = false })
  holds_more h k = record {
    fits = λ e. record {
      number = ap (λ n. n + 1) h.number ∙ sym (length-append rows (one r));
      room = omega (arith, longer, long);
      memory = there ∙ ap (λ n. padded n (joined l.cells (rows ++ one r))) (sym long);
    };
    over = λ e. absurd (false≢true e);
  }
    where
      long : length (put_row l.width m f.rows (l.cells r)) ≡ length m
      long = put-length l.width m f.rows (l.cells r)

      there : put_row l.width m f.rows (l.cells r) ≡ padded (length m) (joined l.cells (rows ++ one r))
      there =
          ap (λ x. put_row l.width x f.rows (l.cells r)) h.memory
          ∙ ap (λ n. put_row l.width (padded (length m) (joined l.cells rows)) n (l.cells r)) h.number
          ∙ append-row l wide (length m) rows r k

  pub filled_more : Filling l rows m f → Filling l (rows ++ one r) (put_more l f r m) (one_more f l.width (length m))
  unfolding put_more
  filled_more g = go f.over refl
    where
      known : {k : Fill} → one_more f l.width (length m) ≡ k → Filling l (rows ++ one r) (if k.over then m else put_row l.width m f.rows (l.cells r)) k
          → Filling l (rows ++ one r) (if (one_more f l.width (length m)).over then m else put_row l.width m f.rows (l.cells r)) (one_more f l.width (length m))
      known e x = rw e x

      fresh : f.over ≡ false → Holds l rows m f → (t : Bool) → nat_le (length rows * l.width + l.width) (length m) ≡ t
          → Filling l (rows ++ one r) (if (one_more f l.width (length m)).over then m else put_row l.width m f.rows (l.cells r)) (one_more f l.width (length m))
      fresh e h true t =
          let k = leb-true (length rows * l.width + l.width) (length m) t in
          known (more-fits f l.width (length m) e some (rw h.number k)) (holds_more h k)
      fresh e h false t =
          let k = leb-false (length rows * l.width + l.width) (length m) t in
          known (more-lacks f l.width (length m) e some (rw h.number k)) (over-more k)

      go : (t : Bool) → f.over ≡ t
          → Filling l (rows ++ one r) (if (one_more f l.width (length m)).over then m else put_row l.width m f.rows (l.cells r)) (one_more f l.width (length m))
      go true e = known (stays-over f l.width (length m) e) (rw e (record { fits = λ q. absurd (false≢true (sym q)); over = λ q. omega (arith, longer, g.over e) }))
      go false e = fresh e (g.fits e) (nat_le (length rows * l.width + l.width) (length m)) refl

-- rows that fit are no more than memory has numbers
pub few-rows : (n width : ℕ) {len : ℕ} → 0 < width → n * width + width ≤ len → n + 1 ≤ len
few-rows n width p h = omega (arith, times n)
  where
    times : (k : ℕ) → k ≤ k * width
    times zero = omega arith
    times (suc k) = omega (arith, times k, suc-mul k width)

-- memory after one row more, by whether there was room
pub put-none : {R : Type 0} (l : Layout R) (f : Fill) (r : R) (m : List ℕ) → (one_more f l.width (length m)).over ≡ true → put_more l f r m ≡ m
unfolding put_more
put-none l f r m e = rw e

pub put-behind : {R : Type 0} (l : Layout R) (f : Fill) (r : R) (m : List ℕ) → (one_more f l.width (length m)).over ≡ false
    → put_more l f r m ≡ put_row l.width m f.rows (l.cells r)
unfolding put_more
put-behind l f r m e = rw e

pub put-more-length : {R : Type 0} (l : Layout R) (f : Fill) (r : R) (m : List ℕ) → length (put_more l f r m) ≡ length m
unfolding put_more
put-more-length l f r m = go (one_more f l.width (length m)).over
  where
    go : (t : Bool) → length (if t then m else put_row l.width m f.rows (l.cells r)) ≡ length m
    go true = refl
    go false = put-length l.width m f.rows (l.cells r)
