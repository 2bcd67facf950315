-- One reference, case by case; and references one after another, up to the first that fails. Assumes nothing.
use Rattle.std.specs.Prelude.{◌≡◌, ℕ, ◌+◌, Bool, true, false, not, ◌⊎◌, List, [], ◌∷◌, if◌then◌else◌, Ok, Err, is_ok, is_err}
use Rattle.std.proofs.Math.Path.{refl, sym, ap}
use Rattle.std.proofs.Common.{◌∙◌, inl, inr}
use Rattle.std.proofs.lemmas.Bool.{false≢true}
use Rattle.std.proofs.Math.Option.{Option, none, some}
use Rattle.lent.specs.declared.part.Part.{Part}
use Rattle.image.specs.declared.fixup.Rules.{Rules}
use Rattle.image.specs.declared.fixup.Target.{Target}
use Rattle.image.specs.declared.fixup.Target.TheVariants.{At, PastEnd, Withheld}
use Rattle.segments.specs.declared.SegmentNumber.{SegmentNumber}
use Rattle.segments.specs.declared.Goal.{Goal}
use Rattle.segments.specs.declared.Reference.{Reference}
use Rattle.segments.specs.recalled.Recall.{recalled}
use Rattle.search_rules.specs.declared.Failure.{Failure}
use Rattle.search_rules.specs.declared.Why.{Why}
use Rattle.search_rules.specs.Search.{Checked, failing, leads, failure, failed, failed_from}
use Rattle.search.specs.targets.Seats.{IsMatch}
use Rattle.search.specs.failed.Failures.{at_once, why_of, FailsBy}
use Rattle.search.specs.Store.{Stored}

module _ (cells : List ℕ) (store : Stored) (n : ℕ) (k : ℕ) (goal : Goal) (target : Target) where
  abbrev Fails : Checked → Type 0
  Fails q = FailsBy cells store n k goal target q

  -- without a target, whatever the goal
  pub fails-past : target ≡ PastEnd → Fails (failing k Why.PastEnd)
  fails-past e references symbols = sym (ap (λ t. failed k (failure cells (recalled store.segments references symbols store.bytes store.masks n) at_once goal t) (Ok tt)) e)

  pub fails-withheld : target ≡ Withheld → Fails (failing k Why.Withheld)
  fails-withheld e references symbols = sym (ap (λ t. failed k (failure cells (recalled store.segments references symbols store.bytes store.masks n) at_once goal t) (Ok tt)) e)

  -- with one, by the goal
  module _ (t : ℕ) (e : target ≡ At t) where
    by-goal : (g : Goal) → goal ≡ g → (q : Checked) → ((references symbols : List ℕ) → q ≡ failed k (failure cells (recalled store.segments references symbols store.bytes store.masks n) at_once g (At t)) (Ok tt))
        → Fails q
    by-goal g is q h references symbols = rw (e, is) (h references symbols)

    pub fails-name : (name : Part) → goal ≡ Goal.Name name → Fails (Ok tt)
    fails-name name g = by-goal (Goal.Name name) g (Ok tt) (λ references symbols. refl)

    module _ (number : SegmentNumber) (g : goal ≡ Goal.Segment number) (found : Bool) (h : IsMatch cells store n number t found) where
      abbrev answer : Bool → Checked
      answer b = failed k (if b then none else some Why.NoMatch) (Ok tt)

      pub fails-found : found ≡ true → Fails (Ok tt)
      fails-found f = by-goal (Goal.Segment number) g (Ok tt) (λ references symbols. ap answer (sym f ∙ h references symbols))

      pub fails-unmatched : found ≡ false → Fails (failing k Why.NoMatch)
      fails-unmatched f = by-goal (Goal.Segment number) g (failing k Why.NoMatch) (λ references symbols. ap answer (sym f ∙ h references symbols))

-- of a reference of a match, once its target is made
pub fails-led : (cells : List ℕ) (rules : Rules) (position : ℕ) (store : Stored) (n : ℕ) (k : ℕ) (r : Reference) (t : Target) → t ≡ leads cells rules position r
    → (q : Checked) → FailsBy cells store n k r.goal t q
    → (references symbols : List ℕ) → q ≡ failed k (why_of cells rules position (recalled store.segments references symbols store.bytes store.masks n) r) (Ok tt)
fails-led cells rules position store n k r t led q h references symbols =
    h references symbols ∙ ap (λ x. failed k (failure cells (recalled store.segments references symbols store.bytes store.masks n) at_once r.goal x) (Ok tt)) led

-- what is not held fails
pub failed_is : (q : Checked) → is_err q ≡ not (is_ok q)
failed_is (Ok u) = refl
failed_is (Err f) = refl

-- a step from one reference to the next, by the code's answer on it
module _ (why : Reference → Option Why) (k : ℕ) (r : Reference) (rest : List Reference) (f : Checked) (is : f ≡ failed k (why r) (Ok tt)) where
  pub first-here : {rs : List Reference} {e : Failure} → rs ≡ r ∷ rest → f ≡ Err e → failed_from why k rs ≡ f
  unfolding failed_from
  first-here e t = rw e (go (why r) is)
    where
      go : (w : Option Why) → f ≡ failed k w (Ok tt) → failed k w (failed_from why (k + 1) rest) ≡ f
      go none q = absurd (false≢true (ap is_ok (sym t ∙ q)))
      go (some w) q = sym q

  pub first-later : {rs : List Reference} {u : Unit} → rs ≡ r ∷ rest → f ≡ Ok u → failed_from why k rs ≡ failed_from why (k + 1) rest
  unfolding failed_from
  first-later e t = rw e (go (why r) is)
    where
      go : (w : Option Why) → f ≡ failed k w (Ok tt) → failed k w (failed_from why (k + 1) rest) ≡ failed_from why (k + 1) rest
      go none q = refl
      go (some w) q = absurd (false≢true (ap is_ok (sym q ∙ t)))

pub first-none : (why : Reference → Option Why) (k : ℕ) {rs : List Reference} → rs ≡ [] → failed_from why k rs ≡ (Ok tt)
unfolding failed_from
first-none why k e = rw e

-- references that are gone over to the end: what failed so far, or else the first of those that are left
abbrev pub or_else : Checked → Checked → Checked
or_else (Ok u) later = later
or_else (Err f) later = Err f

module _ (why : Reference → Option Why) (k : ℕ) where
  -- one more reference is asked only where none failed
  pub goes_on : (so_far now : Checked) (r : Reference) (rest : List Reference) {rs : List Reference} → rs ≡ r ∷ rest → (ok : Bool) → ok ≡ is_ok so_far
      → ((ok ≡ true) × (now ≡ failed k (why r) (Ok tt))) ⊎ ((ok ≡ false) × (now ≡ so_far)) → or_else now (failed_from why (k + 1) rest) ≡ or_else so_far (failed_from why k rs)
  unfolding failed_from
  goes_on (Ok tt) now r rest e ok o (inl (z, is)) = rw (is, e) (go (why r))
    where
      go : (w : Option Why) → or_else (failed k w (Ok tt)) (failed_from why (k + 1) rest) ≡ failed k w (failed_from why (k + 1) rest)
      go none = refl
      go (some w) = refl
  goes_on (Ok tt) now r rest e ok o (inr (z, is)) = absurd (false≢true (sym z ∙ o))
  goes_on (Err f) now r rest e ok o (inl (z, is)) = absurd (false≢true (sym o ∙ z))
  goes_on (Err f) now r rest e ok o (inr (z, is)) = rw is

  pub all_asked : (so_far : Checked) {rs : List Reference} → rs ≡ [] → or_else so_far (failed_from why k rs) ≡ so_far
  all_asked (Ok tt) e = first-none why k e
  all_asked (Err f) e = refl
