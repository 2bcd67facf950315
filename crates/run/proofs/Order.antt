-- The order of the refusals: a refusal comes from the stage that can give it, with none before. Assumes nothing.
use Rattle.std.specs.Prelude.{ℕ, ◌≡◌, refl, ◌⊎◌, ◌↔◌, Bool, true, not, List, [], ◌∷◌, ◌++◌, map}
use Rattle.std.proofs.Common.{sym, ap, ◌∙◌, inl, inr}
use Rattle.std.proofs.lemmas.Bool.{false≢true}
use Rattle.std.proofs.Math.Option.{Option, none, some}
use Rattle.lent.specs.declared.refusal.Refusal.{Refusal}
use Rattle.lent.specs.Choice.{or_else, leading}
use Rattle.lent.specs.ChoiceLaws.{both}
use Rattle.lent.specs.FirstOf.{Quiet, none≢some}
use Rattle.lent.specs.Lists.{all}
use Rattle.lent.specs.Refusals.{refusal_number}

-- what a stage comes to, and whether it can refuse with a number
pub record Stage : Type 0 where
  pub out : Option Refusal
  pub can : ℕ → Bool
  pub told : (r : Refusal) → out ≡ some r → can (refusal_number r) ≡ true

-- the first refusal of some stages
abbrev pub first_of : List Stage → Option Refusal
first_of stages = leading (map (λ g. g.out) stages)

-- none of some stages refuses
abbrev pub Silent : List Stage → Type 0
Silent stages = Quiet (λ g. g.out) stages

pub silent-both : (xs ys : List Stage) → Silent (xs ++ ys) ↔ (Silent xs × Silent ys)
silent-both [] ys = ((λ q. (tt, q)), λ q. q.1)
silent-both (x ∷ xs) ys =
    let rest = silent-both xs ys in (
      (λ q. let h = rest.0 q.1 in ((q.0, h.0), h.1)),
      λ h. (h.0.0, rest.1 (h.0.1, h.1)),
    )

-- a number that a stage never refuses with
abbrev pub beyond : ℕ → Stage → Bool
beyond n g = not (g.can n)

abbrev pub Beyond : Refusal → List Stage → Type 0
Beyond r stages = all (beyond (refusal_number r)) stages ≡ true

never : (r : Refusal) (g : Stage) → beyond (refusal_number r) g ≡ true → g.out ≡ some r → ⊥
never r g e q = false≢true (ap not (sym (g.told r q)) ∙ e)

-- one after another: this stage, or nothing here and then a later one
pub or-else : (g : Stage) (rest : List Stage) (r : Refusal)
    → (first_of (g ∷ rest) ≡ some r) ↔ ((g.out ≡ some r) ⊎ ((g.out ≡ none) × (first_of rest ≡ some r)))
unfolding leading
or-else g rest r = (there g.out, back)
  where
    there : (o : Option Refusal) → or_else o (first_of rest) ≡ some r → (o ≡ some r) ⊎ ((o ≡ none) × (first_of rest ≡ some r))
    there none e = inr (refl, e)
    there (some x) e = inl e

    back : (g.out ≡ some r) ⊎ ((g.out ≡ none) × (first_of rest ≡ some r)) → first_of (g ∷ rest) ≡ some r
    back (inl e) = rw e
    back (inr e) = rw e.0 e.1

-- a stage that can't give it comes to nothing, and a later one gives it
pass : {A : Type 0} (r : Refusal) (g : Stage) (rest : List Stage) → beyond (refusal_number r) g ≡ true → (first_of rest ≡ some r → A)
    → first_of (g ∷ rest) ≡ some r → (g.out ≡ none) × A
pass {A} r g rest e k q = go ((or-else g rest r).0 q)
  where
    go : (g.out ≡ some r) ⊎ ((g.out ≡ none) × (first_of rest ≡ some r)) → (g.out ≡ none) × A
    go (inl h) = absurd (never r g e h)
    go (inr h) = (h.0, k h.1)

pub after_none : (r : Refusal) (before rest : List Stage) → Beyond r before
    → (first_of (before ++ rest) ≡ some r) ↔ (Silent before × (first_of rest ≡ some r))
unfolding all
after_none r [] rest e = ((λ q. (tt, q)), λ q. q.1)
after_none r (g ∷ before) rest e =
    let p = both (beyond (refusal_number r) g) (all (beyond (refusal_number r)) before) e in
    let later = after_none r before rest p.1 in (
      (λ q. let h = pass r g (before ++ rest) p.0 later.0 q in ((h.0, h.1.0), h.1.1)),
      λ h. (or-else g (before ++ rest) r).1 (inr (h.0.0, later.1 (h.0.1, h.1))),
    )

nothing : (r : Refusal) (stages : List Stage) → Beyond r stages → first_of stages ≡ some r → ⊥
unfolding all leading
nothing r [] t q = none≢some q
nothing r (g ∷ rest) t q =
    let p = both (beyond (refusal_number r) g) (all (beyond (refusal_number r)) rest) t in
    (pass r g rest p.0 (nothing r rest p.1) q).1

-- a refusal that one stage alone can give: this one does, and none before it refuses
pub at_stage : (r : Refusal) (before : List Stage) (g : Stage) (later : List Stage) → Beyond r before → Beyond r later
    → (first_of (before ++ g ∷ later) ≡ some r) ↔ (Silent before × (g.out ≡ some r))
at_stage r before g later e f =
    let first = after_none r before (g ∷ later) e in
    let here = or-else g later r in
    ((λ q. let p = first.0 q in (p.0, only (here.0 p.1))), λ h. first.1 (h.0, here.1 (inl h.1)))
  where
    only : (g.out ≡ some r) ⊎ ((g.out ≡ none) × (first_of later ≡ some r)) → g.out ≡ some r
    only (inl h) = h
    only (inr h) = absurd (nothing r later f h.1)
