-- The lines of the best grade, when one more line is met in front of the others. Assumes nothing.
use Rattle.std.specs.Prelude.{ℕ, ◌+◌, ◌*◌, ◌<◌, max, ◌≡◌, refl, eqb, length}
use Rattle.std.proofs.Common.{sym, ap, subst, ◌∙◌, arith, length-append}
use mathlib.Core.List.{List, [], ◌∷◌, ◌++◌, reverse, reverse-cons, append_assoc, append-nil}
use Rattle.std.proofs.Math.Decide.{dec_lt}
use borrow.Author.Tests.{eq-eqb, ne_eqb}
use Rattle.std.proofs.lemmas.List.{length-reverse}
use Rattle.lent.specs.Lists.{one, keep, fold}
use Rattle.lent.specs.Rows.{put_row}
use Rattle.lent.specs.RowLaws.{put-lacks, put-length}
use Rattle.listing_rules.specs.declared.Line.{Line}
use Rattle.listing_rules.specs.Listing.{best_grade, best, line_width, line_cells}
use Rattle.listing_rules.specs.FrontLines.{Fronts}
use Rattle.listing_rules.proofs.FrontLineLaws.{put_front, put_next}
use Rattle.listing.specs.declared.position.Best.{Best}
use Rattle.listing.specs.position.Bests.{Region, Bests}

-- the best grade of one more
max_of : (g : ℕ) (ls : List Line) → fold (λ b l. max b l.grade) g ls ≡ max g (best_grade ls)
unfolding fold best_grade
max_of g [] = omega arith
max_of g (x ∷ ls) = max_of (max g x.grade) ls ∙ omega (arith, max_of (max 0 x.grade) ls)

grade-of : (x : Line) (ls : List Line) → best_grade (x ∷ ls) ≡ max x.grade (best_grade ls)
unfolding fold best_grade
grade-of x ls = max_of (max 0 x.grade) ls ∙ omega arith

-- none is kept whose grade is above all
none_above : (g : ℕ) (ls : List Line) → best_grade ls < g → keep (λ l. eqb l.grade g) ls ≡ []
unfolding keep fold best_grade
none_above g [] h = refl
none_above g (x ∷ ls) h =
    let e = grade-of x ls in
    rw (ne_eqb x.grade g (omega (arith, e, h))) (none_above g ls (omega (arith, e, h)))

module _ (x : Line) (all : List Line) where
  pub lower-grade : x.grade < best_grade all → best_grade (x ∷ all) ≡ best_grade all
  lower-grade h = omega (arith, grade-of x all)

  pub lower-best : x.grade < best_grade all → best (x ∷ all) ≡ best all
  unfolding best keep
  lower-best h =
      ap (λ g. keep (λ l. eqb l.grade g) (x ∷ all)) (lower-grade h) ∙ rw (ne_eqb x.grade (best_grade all) (omega arith))

  pub higher-grade : best_grade all < x.grade → best_grade (x ∷ all) ≡ x.grade
  higher-grade h = omega (arith, grade-of x all)

  pub higher-best : best_grade all < x.grade → best (x ∷ all) ≡ one x
  unfolding best keep
  higher-best h =
      ap (λ g. keep (λ l. eqb l.grade g) (x ∷ all)) (higher-grade h)
      ∙ rw (eq-eqb x.grade x.grade refl) (ap (λ ls. x ∷ ls) (none_above x.grade all h))

  pub equal-grade : x.grade ≡ best_grade all → best_grade (x ∷ all) ≡ best_grade all
  equal-grade h = omega (arith, grade-of x all)

  pub equal-best : x.grade ≡ best_grade all → best (x ∷ all) ≡ x ∷ best all
  unfolding best keep
  equal-best h =
      ap (λ g. keep (λ l. eqb l.grade g) (x ∷ all)) (equal-grade h) ∙ rw (eq-eqb x.grade (best_grade all) h)

-- A LINE PUT behind those that stand there
module _ (lines ls : List Line) (m : List ℕ) (x : Line) (k : ℕ) (at : k ≡ length lines + length ls) where
  put_keeps : Fronts lines m → Fronts lines (put_row line_width m k (line_cells x))
  put_keeps h = go (dec_lt (length m) (k * line_width + line_width))
    where
      go : Dec (length m < k * line_width + line_width) → Fronts lines (put_row line_width m k (line_cells x))
      go (yes l) = subst (Fronts lines) (sym (put-lacks line_width m k (line_cells x) l)) h
      go (no l) = record {
        room = omega (arith, h.room, put-length line_width m k (line_cells x));
        numbers = put_front m (length lines) k x (omega (arith, at)) (omega (arith, l)) ∙ h.numbers;
      }

  pub region-put : Region lines ls m → Region lines (ls ++ one x) (put_row line_width m k (line_cells x))
  region-put r = record {
    front = put_keeps r.front;
    whole = λ room.
        let both : length (lines ++ ls) ≡ length lines + length ls = length-append lines ls in
        let more : length (lines ++ (ls ++ one x)) ≡ length lines + length ls + 1 = length-append lines (ls ++ one x) ∙ ap (λ n. length lines + n) (length-append ls (one x)) ∙ omega arith in
        let long = put-length line_width m k (line_cells x) in
        let here : length (lines ++ ls) ≡ k = both ∙ sym at in
        subst (λ n. Fronts (lines ++ (ls ++ one x)) (put_row line_width m n (line_cells x))) here
        (subst (λ zs. Fronts zs (put_row line_width m (length (lines ++ ls)) (line_cells x))) (append_assoc lines ls (one x))
        (put_next (lines ++ ls) m x (r.whole (omega (arith, room, more, long, both))) (omega (arith, room, more, long, both))));
  }

-- ONE MORE is met: its grade is below the best, above it, or equal
module _ (lines all : List Line) (m : List ℕ) (b : Best) (x : Line) (h : Bests lines all m b) where
  pub takes-lower : x.grade < b.grade → Bests lines (x ∷ all) m b
  takes-lower l =
      let less : x.grade < best_grade all = omega (arith, l, h.grade) in
      record {
        count = h.count ∙ ap length (sym (lower-best x all less));
        grade = h.grade ∙ sym (lower-grade x all less);
        region = subst (λ ls. Region lines (reverse ls) m) (sym (lower-best x all less)) h.region;
      }

  pub takes-higher : b.grade < x.grade → (from : ℕ) → length lines ≡ from → Bests lines (x ∷ all) (put_row line_width m from (line_cells x)) (record { count = 1; grade = x.grade })
  takes-higher l from e =
      let more : best_grade all < x.grade = omega (arith, l, h.grade) in
      let none : Region lines [] m = record { front = h.region.front; whole = λ r. subst (λ ls. Fronts ls m) (sym (append-nil lines)) h.region.front } in
      record {
        count = ap length (sym (higher-best x all more));
        grade = sym (higher-grade x all more);
        region =
            subst (λ ls. Region lines ls (put_row line_width m from (line_cells x))) (sym (ap reverse (higher-best x all more)))
            (region-put lines [] m x from (omega (arith, e)) none);
      }

  pub takes-equal : (x.grade < b.grade → ⊥) → (b.grade < x.grade → ⊥) → (from : ℕ) → length lines ≡ from
      → Bests lines (x ∷ all) (put_row line_width m (from + b.count) (line_cells x)) (record { count = b.count + 1; grade = b.grade })
  takes-equal l u from e =
      let same : x.grade ≡ best_grade all = omega (arith, l, u, h.grade) in
      let long : length (reverse (best all)) ≡ length (best all) = length-reverse (best all) in
      record {
        count = omega (arith, h.count, ap length (equal-best x all same));
        grade = h.grade ∙ sym (equal-grade x all same);
        region =
            subst (λ ls. Region lines ls (put_row line_width m (from + b.count) (line_cells x))) (sym (ap reverse (equal-best x all same) ∙ reverse-cons x (best all)))
            (region-put lines (reverse (best all)) m x (from + b.count) (omega (arith, e, h.count, long)) h.region);
      }
