-- What the code asks of the rows is what the definition of the grade asks. Assumes nothing.
use Rattle.std.specs.Prelude.{◌≡◌, refl, Bool, true, false, not, ◌&&◌, ◌||◌, List, [], ◌∷◌}
use Rattle.std.proofs.Common.{sym, ◌∙◌}
use Rattle.std.proofs.Math.Path.{ap}
use Rattle.std.proofs.lemmas.Bool.{not-true, not-false}
use Rattle.lent.specs.Lists.{all}
use Rattle.listing.specs.grade.Grades.{grade_by}

-- the code's answers, where it turns them round
pub turned-true : (t : Bool) {b : Bool} → t ≡ b → not t ≡ true → b ≡ false
turned-true t e f = sym e ∙ not-true t f

pub turned-false : (t : Bool) {b : Bool} → t ≡ b → not t ≡ false → b ≡ true
turned-false t e f = sym e ∙ not-false t f

-- a symbol that is neither valid nor noted where it stands, and one that is
pub dropped : {valid noted : Bool} → valid ≡ false → noted ≡ false → (valid || noted) ≡ false
dropped e f = rw (e, f)

pub kept-valid : {valid : Bool} (noted : Bool) → valid ≡ true → (valid || noted) ≡ true
kept-valid noted e = rw e

pub kept-noted : (valid : Bool) {noted : Bool} → noted ≡ true → (valid || noted) ≡ true
kept-noted true e = refl
kept-noted false e = e

-- THE GRADE, case by case
module _ (valid noted borne : Bool) where
  pub grade-dropped : (valid || noted) ≡ false → grade_by valid noted borne ≡ 0
  grade-dropped e = rw e

  module _ (kept : (valid || noted) ≡ true) where
    pub grade-one : borne ≡ false → grade_by valid noted borne ≡ 1
    grade-one e = rw (kept, e)

    pub grade-three : borne ≡ true → noted ≡ true → grade_by valid noted borne ≡ 3
    grade-three e f = rw (kept, e, f)

    pub grade-two : borne ≡ true → noted ≡ false → grade_by valid noted borne ≡ 2
    grade-two e f = rw (kept, e, f)

-- ONE AFTER ANOTHER: the first passes, the first fails, there is none
module _ {A : Type 0} (p : A → Bool) {xs rest : List A} {x : A} where
  pub all-on : xs ≡ x ∷ rest → p x ≡ true → all p xs ≡ all p rest
  unfolding all
  all-on e f = ap (all p) e ∙ ap (λ t. t && all p rest) f

  pub all-fails : xs ≡ x ∷ rest → p x ≡ false → all p xs ≡ false
  unfolding all
  all-fails e f = ap (all p) e ∙ ap (λ t. t && all p rest) f

pub all_end : {A : Type 0} (p : A → Bool) {xs : List A} → xs ≡ [] → all p xs ≡ true
unfolding all
all_end p e = ap (all p) e
