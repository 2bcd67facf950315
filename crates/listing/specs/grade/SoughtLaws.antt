-- THE GRADE of a row that a search left is the definition's. Assumes nothing.
use Rattle.std.specs.Prelude.{ℕ, zero, suc, ◌+◌, ◌<◌, ◌≡◌, Bool, ◌&&◌, ◌||◌, length, if◌then◌else◌}
use Rattle.std.proofs.Math.Path.{refl, sym, ap, fun_ext}
use Rattle.std.proofs.Common.{◌∙◌, add-zero, lt-ltb, le-ltb}
use Rattle.std.proofs.Math.Bool.{true, false, and-true}
use mathlib.Core.List.{List, [], ◌∷◌, ◌++◌, map}
use Rattle.std.proofs.Math.Decide.{dec_lt}
use native.Mathlib.Omega.{arith}
use Rattle.std.proofs.Math.ListN.{get_or, get_or-eq_default, length-map}
use Rattle.lent.specs.declared.part.Part.{Part}
use Rattle.lent.specs.Lists.{all, joined, from}
use Rattle.image.specs.declared.fixup.Target.{Target}
use Rattle.image.specs.declared.fixup.Target.TheVariants.{At, PastEnd, Withheld}
use Rattle.segments.specs.declared.Goal.{Goal}
use Rattle.segments.specs.declared.Reference.{Reference}
use Rattle.segments.specs.Collect.{Collected}
use Rattle.tables.specs.by_name.TableLaws.{found-any}
use Rattle.segments.specs.recalled.Recall.{recalled_by, recalled_at, recalled}
use Rattle.search_rules.specs.declared.Asked.{Asked}
use Rattle.search_rules.specs.Search.{Placing, Noting, note_at, notes, is_valid, target_of, is_placed, is_noted}
use Rattle.search_rules.specs.SearchRows.{placed_sheet, noted_sheet}
use Rattle.search_rules.proofs.FindableLaws.{placed-reads, noted-reads}
use Rattle.listing_rules.specs.Listing.{no_segment, borne_out, grade}
use Rattle.listing.specs.grade.Grades.{is_found, asks_of, bears_out, references_of, grade_by, is_borne, row_grade}
use Rattle.search.specs.Fills.{Sought}

-- number i of a list that is made from numbers
from-length : (at k : ℕ) → length (from at k) ≡ k
unfolding from
from-length at zero = refl
from-length at (suc k) = ap suc (from-length (at + 1) k)

made_at : {A : Type 0} (f : ℕ → A) (d : A) (i at k : ℕ) → i < k → get_or (map f (from at k)) i d ≡ f (at + i)
unfolding from
made_at f d i at zero h = absurd (omega arith)
made_at f d zero at (suc k) h = ap f (sym (add-zero at))
made_at f d (suc i) at (suc k) h = made_at f d i (at + 1) k (omega arith) ∙ ap f (omega arith)

-- THE REFERENCES that are asked are those of the segment of that number
module _ (segments references symbols bytes masks : List ℕ) (n i : ℕ) where
  pub references-are : references_of segments references n i ≡ (get_or (recalled segments references symbols bytes masks n) i no_segment).references
  unfolding recalled recalled_by
  references-are = go (dec_lt i n)
    where
      go : Dec (i < n) → references_of segments references n i ≡ (get_or (map (recalled_at segments references symbols bytes masks) (from 0 n)) i no_segment).references
      go (yes h) =
          let e : 0 + i ≡ i = omega arith in
          rw (lt-ltb i n h) (sym (ap (λ g. g.references) (made_at (recalled_at segments references symbols bytes masks) no_segment i 0 n h ∙ ap (recalled_at segments references symbols bytes masks) e)))
      go (no h) =
          rw (le-ltb i n (omega arith))
          (sym (ap (λ g. g.references) (get_or-eq_default (map (recalled_at segments references symbols bytes masks) (from 0 n)) no_segment
          (omega (arith, length-map (from 0 n) (recalled_at segments references symbols bytes masks), from-length 0 n, h)))))

-- WHAT THEY ASK is that what they note is there
module _ (there : ℕ → Part → Bool) (cells : List ℕ) (a : Asked) (position : ℕ) where
  abbrev asks : Noting → Bool
  asks m = there m.target m.name

  one-asks : (valid : Bool) (goal : Goal) (t : Target) → all asks (note_at valid goal t) ≡ asks_of there goal t
  unfolding all
  one-asks valid goal PastEnd = refl
  one-asks valid goal Withheld = refl
  one-asks valid (Goal.Segment number) (At t) = refl
  one-asks valid (Goal.Name name) (At t) = and-true (there t name)

  all_both : (xs ys : List Noting) → all asks (xs ++ ys) ≡ (all asks xs && all asks ys)
  unfolding all
  all_both [] ys = refl
  all_both (x ∷ xs) ys = go (asks x) (all_both xs ys)
    where
      go : (t : Bool) → all asks (xs ++ ys) ≡ (all asks xs && all asks ys) → (t && all asks (xs ++ ys)) ≡ ((t && all asks xs) && all asks ys)
      go true e = e
      go false e = refl

  pub notes-ask : (valid : Bool) (rs : List Reference)
      → all asks (joined (λ r. note_at valid r.goal (target_of cells a position r)) rs) ≡ all (bears_out there cells a.rules position) rs
  unfolding all joined
  notes-ask valid [] = refl
  notes-ask valid (r ∷ rs) =
      all_both (note_at valid r.goal (target_of cells a position r)) (joined (λ q. note_at valid q.goal (target_of cells a position q)) rs)
      ∙ ap (λ t. t && all asks (joined (λ q. note_at valid q.goal (target_of cells a position q)) rs)) (one-asks valid r.goal (target_of cells a position r))
      ∙ ap (λ t. bears_out there cells a.rules position r && t) (notes-ask valid rs)

module _ (library cells : List ℕ) (a : Asked) (segments references symbols bytes masks : List ℕ) (n : ℕ) (ps : List Placing) (ns : List Noting)
    (placed positions noted goals : List ℕ) (sought : Sought library ps ns placed positions noted goals) where
  abbrev gs : List Collected
  gs = recalled segments references symbols bytes masks n

  -- what is found by links is there
  found-placed : is_found library 8 placed positions ≡ is_placed library ps
  found-placed = fun_ext (λ at. fun_ext (λ name. sym (found-any placed_sheet library placed-reads ps sought.placings refl at name)))

  pub found-noted : (at : ℕ) (name : Part) → is_found library 6 noted goals at name ≡ is_noted library ns at name
  found-noted at name = sym (found-any noted_sheet library noted-reads ns sought.notings refl at name)

  borne-is : (p : Placing) → is_borne cells library a.rules segments references n placed positions p.segment p.base ≡ borne_out library cells a gs ps ns p
  unfolding notes
  borne-is p =
      let g = get_or gs p.segment no_segment in
      ap (λ rs. all (bears_out (is_found library 8 placed positions) cells a.rules p.base) rs) (references-are segments references symbols bytes masks n p.segment)
      ∙ ap (λ there. all (bears_out there cells a.rules p.base) g.references) found-placed
      ∙ sym (notes-ask (is_placed library ps) cells a p.base (is_valid a g) g.references)

  pub grade-is : (p : Placing) (link alike : ℕ) → row_grade cells library a.rules segments references n placed positions noted goals (placed_sheet.row p link alike)
      ≡ (if p.valid || is_noted library ns p.position p.name then grade library cells a gs ps ns p else 0)
  unfolding grade
  grade-is p link alike =
      ap (λ t. grade_by p.valid t (is_borne cells library a.rules segments references n placed positions p.segment p.base)) (found-noted p.position p.name)
      ∙ ap (grade_by p.valid (is_noted library ns p.position p.name)) (borne-is p)
