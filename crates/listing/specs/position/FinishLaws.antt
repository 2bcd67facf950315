-- The lines of a position: left out, too many, or put in order. Assumes nothing.
use Rattle.std.specs.Prelude.{ℕ, ◌+◌, ◌*◌, ◌/◌, ◌≤◌, ◌<◌, ◌≡◌, Bool, true, false, List, [], ◌∷◌, ◌++◌, map, reverse, length, take, drop, if◌then◌else◌}
use Rattle.std.proofs.Math.Path.{refl}
use Rattle.std.proofs.Common.{sym, ap, subst, ◌∙◌, append-nil, le-div_iff_mul-le, arith, take-append-drop, length-append, take_at}
use Rattle.std.proofs.lemmas.Bool.{false≢true}
use Rattle.std.proofs.lemmas.List.{length-reverse}
use Rattle.lent.specs.Lists.{keep, fold, insert, sorted}
use Rattle.lent.specs.Members.{◌among◌}
use Rattle.image.specs.declared.fixup.Rules.{Rules}
use Rattle.listing_rules.specs.declared.Line.{Line}
use Rattle.listing_rules.specs.Listing.{SkipAmount, noted_line, best, crowded, graded_at, lines_at, line_width, line_numbers}
use Rattle.listing_rules.specs.FrontLines.{Fronts, Front}
use Rattle.listing_rules.proofs.FrontLineLaws.{numbers-length}
use Rattle.listing.specs.order.Order.{by_name, Apart, Region, Orders}
use Rattle.listing.specs.order.OrderLaws.{sorted-reverse}
use Rattle.listing.specs.declared.position.Best.{Best}
use Rattle.listing.specs.position.Bests.{Bests}
use Rattle.listing.specs.position.RowsAt.{Known, segments_of, stays_at, line_of, noted_at_it}
use Rattle.listing.specs.position.ApartLaws.{of_reverse, best-apart, best-small}
use Rattle.listing.specs.position.PositionLines.{listed}

-- in order, they are as many
insert-length : {A : Type 0} (less : A → A → Bool) (x : A) (ys : List A) → length (insert less x ys) ≡ length ys + 1
unfolding insert
insert-length less x [] = refl
insert-length less x (y ∷ ys) = go (less x y) (insert-length less x ys)
  where
    go : (t : Bool) → length (insert less x ys) ≡ length ys + 1 → length (if t then x ∷ y ∷ ys else y ∷ insert less x ys) ≡ length (y ∷ ys) + 1
    go true e = omega arith
    go false e = omega (arith, e)

pub sorted-length : {A : Type 0} (less : A → A → Bool) (xs : List A) → length (sorted less xs) ≡ length xs
unfolding sorted fold
sorted-length {A} less xs = go [] xs ∙ omega arith
  where
    go : (ys zs : List A) → length (fold (λ l x. insert less x l) ys zs) ≡ length ys + length zs
    go ys [] = omega arith
    go ys (z ∷ zs) = go (insert less z ys) zs ∙ omega (arith, insert-length less z ys)

module _ (library : List ℕ) (skip : SkipAmount) (m : List ℕ) (from : ℕ) (b : Best) (lines all : List Line) (long : length lines ≡ from) (h : Bests lines all m b) where
  abbrev names : List Line
  names = best all

  by_count : (t : Bool) → t ≡ crowded skip b.count → listed library skip all ≡ (if t then [] else sorted (by_name library) names)
  by_count t e = ap (λ c. if crowded skip c then [] else sorted (by_name library) names) (sym h.count) ∙ ap (λ u. if u then [] else sorted (by_name library) names) (sym e)

  -- LEFT OUT
  pub finish-crowded : (t : Bool) → t ≡ crowded skip b.count → t ≡ true → Front (lines ++ listed library skip all) m (record { rows = from; over = false })
  finish-crowded t e z =
      subst (λ ls. Front ls m (record { rows = from; over = false })) (sym (ap (λ ls. lines ++ ls) (by_count t e ∙ ap (λ u. if u then [] else sorted (by_name library) names) z) ∙ append-nil lines))
      (record { counted = λ y. sym long; fits = λ y. h.region.front; over = λ y. absurd (false≢true y) })

  module _ (t : Bool) (e : t ≡ crowded skip b.count) (z : t ≡ false) where
    is : listed library skip all ≡ sorted (by_name library) names
    is = by_count t e ∙ ap (λ u. if u then [] else sorted (by_name library) names) z

    many : length (lines ++ listed library skip all) ≡ from + b.count
    many = length-append lines (listed library skip all) ∙ omega (arith, long, ap length is, sorted-length (by_name library) names, h.count)

    -- TOO MANY
    pub finish-over : length m / 4 < from + b.count → Front (lines ++ listed library skip all) m (record { rows = from; over = true })
    finish-over l = record {
      counted = λ y. absurd (false≢true (sym y));
      fits = λ y. absurd (false≢true (sym y));
      over = λ y. omega (arith, l, many);
    }

    -- IN ORDER
    module _ (room : from + b.count ≤ length m / 4) (apart : Apart library names) (small : (x : Line) → x among names → x.grade < 256) where
      abbrev all_lines : List Line
      all_lines = lines ++ reverse names

      whole : length all_lines ≡ from + b.count
      whole = length-append lines (reverse names) ∙ omega (arith, long, length-reverse names, h.count)

      stand : Fronts all_lines m
      stand = h.region.whole (omega (arith, whole, (le-div_iff_mul-le {k = 4} {x = from + b.count} {y = length m} (omega arith)).0 room))

      abbrev region : Region library from b.count
      region = record {
        done = lines;
        lines = reverse names;
        rest = drop (length all_lines * line_width) m;
        done-long = long;
        long = length-reverse names ∙ sym h.count;
        small = λ x i. small x (of_reverse names i);
        apart = λ x y i j s. apart x y (of_reverse names i) (of_reverse names j) s;
      }

      pub finish-ordered : (m' : List ℕ) → length m' ≡ length m → Orders library m from b.count m'
          → Front (lines ++ listed library skip all) m' (record { rows = from + b.count; over = false })
      finish-ordered m' same orders =
          let numbers : m ≡ line_numbers all_lines ++ drop (length all_lines * line_width) m = sym (take-append-drop (length all_lines * line_width) m) ∙ ap (λ xs. xs ++ drop (length all_lines * line_width) m) stand.numbers in
          let after : m' ≡ line_numbers (lines ++ listed library skip all) ++ drop (length all_lines * line_width) m =
          orders region numbers ∙ ap (λ ls. line_numbers (lines ++ ls) ++ drop (length all_lines * line_width) m) (sorted-reverse library names apart ∙ sym is) in
          record {
            counted = λ y. sym many;
            fits = λ y. record {
              room = omega (arith, many, whole, stand.room, same);
              numbers =
                  ap (take (length (lines ++ listed library skip all) * line_width)) after
                  ∙ take_at (line_numbers (lines ++ listed library skip all)) (drop (length all_lines * line_width) m) (length (lines ++ listed library skip all) * line_width) (numbers-length (lines ++ listed library skip all));
            };
            over = λ y. absurd (false≢true y);
          }

-- THE LINES OF A POSITION are those of all names that were met there
module _ (cells : List ℕ) {rules : Rules} {library segments references : List ℕ} {n : ℕ} {placed positions noted goals : List ℕ} (k : Known rules library segments references n placed positions noted goals) (at : ℕ) where
  abbrev met : List Line
  met = map (line_of cells k) (keep (stays_at cells k at) k.ps) ++ map noted_line (keep (noted_at_it at) k.ns)

  pub met-apart : Apart library (best met)
  unfolding graded_at
  met-apart = best-apart library cells k.a (segments_of cells k) k.ps k.ns at k.sought.placings.single k.sought.notings.single

  pub met-small : (x : Line) → x among best met → x.grade < 256
  unfolding graded_at
  met-small = best-small library cells k.a (segments_of cells k) k.ps k.ns at

  pub met-listed : (skip : SkipAmount) → listed library skip met ≡ lines_at library cells k.a (segments_of cells k) k.ps k.ns skip at
  unfolding graded_at lines_at
  met-listed skip = refl
