-- Lines put in order by their names. Assumes nothing.
use Rattle.std.specs.Prelude.{ℕ, ◌≡◌, Bool, List, reverse, length}
use Rattle.std.proofs.Common.{sym, ap, ◌∙◌}
use Rattle.lent.specs.Lists.{sorted}
use Rattle.lent.specs.Members.{◌among◌}
use Rattle.lent.specs.Parts.{bytes_of, before}
use Rattle.listing_rules.specs.declared.Line.{Line}
use Rattle.listing.specs.order.InOrder.{Strict, Comparable, Rising}
use Rattle.listing_rules.proofs.NameOrderLaws.{before-never, before-through, before-neither}
use Rattle.listing.specs.order.InsertLaws.{every-mine, turned}
use Rattle.listing.specs.order.InOrderLaws.{in_order}
use Rattle.listing.specs.order.Order.{by_name, Apart}
use Rattle.listing.specs.order.Passes.{no_line, placed}

pub by_name_lem : (library : List ℕ) → Strict (by_name library)
by_name_lem library = record {
  never = λ x. before-never (bytes_of library x.name);
  through = λ x y z p q. before-through (bytes_of library x.name) (bytes_of library y.name) (bytes_of library z.name) p q;
}

-- it is told by the bytes of the names
pub by_bytes : (library : List ℕ) (x y : Line) {a b : List ℕ} {t : Bool} → a ≡ bytes_of library x.name → b ≡ bytes_of library y.name → t ≡ before a b → by_name library x y ≡ t
by_bytes library x y {a} p q e = ap (λ s. before s (bytes_of library y.name)) (sym p) ∙ ap (before a) (sym q) ∙ sym e

-- of the lines of a position, of which no two share a name, one comes before the other
pub apart-compare : (library : List ℕ) (lines : List Line) → Apart library lines → Comparable (by_name library) (λ x. x among lines)
apart-compare library lines apart x y i j p q = apart x y i j (before-neither (bytes_of library x.name) (bytes_of library y.name) p q)

module _ (library : List ℕ) where
  pub sorted-reverse : (xs : List Line) → Apart library xs → sorted (by_name library) (reverse xs) ≡ sorted (by_name library) xs
  sorted-reverse xs apart = turned (by_name library) (by_name_lem library) (λ y. y among xs) (apart-compare library xs apart) xs (every-mine xs)

  -- lines that are in order stay as they are
  pub sorted-rising : (xs : List Line) → Apart library xs → Rising (by_name library) (length xs) (placed xs) → sorted (by_name library) xs ≡ xs
  sorted-rising xs apart up = in_order (by_name library) (by_name_lem library) (λ y. y among xs) (apart-compare library xs apart) no_line xs (every-mine xs) up
