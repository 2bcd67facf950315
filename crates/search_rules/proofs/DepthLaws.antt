-- What a depth means: 0 is checking off and 1 checking on, as before there were depths; a match that holds to a depth holds
-- to every smaller one; notings do not depend on the depth. Assumes nothing.
use Prim.Native.Nat.{ℕ, zero, suc, ◌+◌, ◌-◌, ◌≤◌}
use Rattle.std.specs.Prelude.{◌≡◌, Bool, ◌&&◌, if◌then◌else◌}
use Rattle.std.proofs.Math.Path.{refl, ap}
use Rattle.std.proofs.Common.{sym, ◌∙◌, arith}
use Rattle.std.proofs.Math.Bool.{true, false, not, and-true}
use Rattle.std.proofs.lemmas.Bool.{false≢true}
use mathlib.Core.List.{List, [], ◌∷◌, map}
use Rattle.lent.specs.Lists.{all, is_in}
use Rattle.image.specs.declared.fixup.Rules.{Rules}
use Rattle.image.specs.declared.fixup.Target.{Target}
use Rattle.image.specs.declared.fixup.Target.TheVariants.{At, PastEnd, Withheld}
use Rattle.segments.specs.declared.Goal.{Goal}
use Rattle.segments.specs.declared.Reference.{Reference}
use Rattle.segments.specs.Collect.{Collected}
use Rattle.search_rules.specs.declared.Asked.{Asked}
use Rattle.search_rules.specs.Search.{Match, Placing, positions_of, leads, target_of, segment_of, holds_at, holds_to, is_valid, notes, noted, symbol_at, symbols_at}

-- BEFORE THERE WERE DEPTHS: a reference to a segment holds if that segment matches at the target, whatever that match refers to
abbrev pub held_once : List ℕ → List Collected → Goal → Target → Bool
held_once cells segments goal PastEnd = false
held_once cells segments goal Withheld = false
held_once cells segments (Goal.Segment number) (At t) = is_in (positions_of cells segments number) t
held_once cells segments (Goal.Name name) (At t) = true

-- all references of a match hold
abbrev pub holds_once : List ℕ → Asked → List Collected → Match → Bool
holds_once cells a segments m = all (λ r. held_once cells segments r.goal (target_of cells a m.position r)) m.segment.references

-- the symbols that a match places: with checking on, none if one of its references does not hold
abbrev pub symbols_once : Bool → List ℕ → Asked → List Collected → Match → List Placing
symbols_once check cells a segments m = if check && not (holds_once cells a segments m) then [] else map (symbol_at a m) m.segment.symbols

-- what a test says of all of a list, another says too, if they agree or if the one follows from the other
all_same : {p q : Reference → Bool} → ((r : Reference) → p r ≡ q r) → (rs : List Reference) → all p rs ≡ all q rs
unfolding all
all_same e [] = refl
all_same {p} {q} e (r ∷ rs) = ap (λ b. b && all p rs) (e r) ∙ ap (λ b. q r && b) (all_same e rs)

and-less : (a b : Bool) {c d : Bool} → (a ≡ true → c ≡ true) → (b ≡ true → d ≡ true) → (a && b) ≡ true → (c && d) ≡ true
and-less true true f g e = rw (f refl, g refl)
and-less true false f g e = absurd (false≢true e)
and-less false b f g e = absurd (false≢true e)

all-less : {p q : Reference → Bool} → ((r : Reference) → p r ≡ true → q r ≡ true) → (rs : List Reference) → all p rs ≡ true → all q rs ≡ true
unfolding all
all-less f [] e = refl
all-less {p} f (r ∷ rs) e = and-less (p r) (all p rs) (f r) (all-less f rs) e

module _ (cells : List ℕ) (rules : Rules) (segments : List Collected) where
  -- DEPTH 0 is checking off: every match holds
  pub depth-0 : (g : Collected) (position : ℕ) → holds_to cells rules segments 0 g position ≡ true
  unfolding holds_to
  depth-0 g position = refl

  once-at : (goal : Goal) (t : Target) → holds_at cells segments (λ h at. true) goal t ≡ held_once cells segments goal t
  once-at goal PastEnd = refl
  once-at goal Withheld = refl
  once-at (Goal.Segment number) (At t) = and-true (is_in (positions_of cells segments number) t)
  once-at (Goal.Name name) (At t) = refl

  -- DEPTH 1 is checking on, as it was
  pub depth-1 : (g : Collected) (position : ℕ) → holds_to cells rules segments 1 g position ≡ all (λ r. held_once cells segments r.goal (leads cells rules position r)) g.references
  unfolding holds_to
  depth-1 g position = all_same (λ r. once-at r.goal (leads cells rules position r)) g.references

  -- a reference that holds by a test holds by one that follows from it
  at_less : {p q : Collected → ℕ → Bool} → ((g : Collected) (at : ℕ) → p g at ≡ true → q g at ≡ true) → (goal : Goal) (t : Target)
      → holds_at cells segments p goal t ≡ true → holds_at cells segments q goal t ≡ true
  at_less f goal PastEnd e = e
  at_less f goal Withheld e = e
  at_less {p} f (Goal.Segment number) (At t) e = and-less (is_in (positions_of cells segments number) t) (p (segment_of segments number) t) (λ b. b) (f (segment_of segments number) t) e
  at_less f (Goal.Name name) (At t) e = e

  -- A MATCH THAT HOLDS TO A DEPTH holds to the next smaller one, and to every smaller one
  pub holds-less : (d : ℕ) (g : Collected) (position : ℕ) → holds_to cells rules segments (suc d) g position ≡ true → holds_to cells rules segments d g position ≡ true
  unfolding holds_to
  holds-less zero g position e = refl
  holds-less (suc d) g position e =
      all-less (λ r. at_less {p = λ h at. holds_to cells rules segments (suc d) h at} {q = λ h at. holds_to cells rules segments d h at} (λ h at. holds-less d h at) r.goal (leads cells rules position r))
      g.references e

  at-depth : {d e : ℕ} → d ≡ e → (g : Collected) (position : ℕ) → holds_to cells rules segments d g position ≡ true → holds_to cells rules segments e g position ≡ true
  at-depth same g position h = sym (ap (λ k. holds_to cells rules segments k g position) same) ∙ h

  steps-less : (k e : ℕ) (g : Collected) (position : ℕ) → holds_to cells rules segments (k + e) g position ≡ true → holds_to cells rules segments e g position ≡ true
  steps-less zero e g position h = at-depth (omega arith) g position h
  steps-less (suc k) e g position h = steps-less k e g position (holds-less (k + e) g position (at-depth (omega arith) g position h))

  pub holds-every-less : (d e : ℕ) → e ≤ d → (g : Collected) (position : ℕ) → holds_to cells rules segments d g position ≡ true → holds_to cells rules segments e g position ≡ true
  holds-every-less d e l g position h = steps-less (d - e) e g position (at-depth (omega (arith, l)) g position h)

-- so the symbols that a match places are those of checking off at depth 0, and those of checking on at depth 1
module _ (cells : List ℕ) (a : Asked) (segments : List Collected) (m : Match) where
  pub unchecked-symbols : a.depth ≡ 0 → symbols_at cells a segments m ≡ symbols_once false cells a segments m
  unfolding symbols_at
  unchecked-symbols e = ap (λ d. if holds_to cells a.rules segments d m.segment m.position then map (symbol_at a m) m.segment.symbols else []) e
      ∙ ap (λ b. if b then map (symbol_at a m) m.segment.symbols else []) (depth-0 cells a.rules segments m.segment m.position)

  pub checked-symbols : a.depth ≡ 1 → symbols_at cells a segments m ≡ symbols_once true cells a segments m
  unfolding symbols_at
  checked-symbols e = ap (λ d. if holds_to cells a.rules segments d m.segment m.position then map (symbol_at a m) m.segment.symbols else []) e
      ∙ ap (λ b. if b then map (symbol_at a m) m.segment.symbols else []) (depth-1 cells a.rules segments m.segment m.position)
      ∙ turned (holds_once cells a segments m)
    where
      turned : (b : Bool) → (if b then map (symbol_at a m) m.segment.symbols else []) ≡ (if true && not b then [] else map (symbol_at a m) m.segment.symbols)
      turned true = refl
      turned false = refl

-- THE NOTINGS are the same at every depth: a match that fails its check keeps its own
pub noted-any-depth : (library cells : List ℕ) (rules : Rules) (d e minimum : ℕ) (segments : List Collected)
    → noted library cells (record { rules = rules; depth = d; minimum = minimum }) segments ≡ noted library cells (record { rules = rules; depth = e; minimum = minimum }) segments
unfolding noted notes is_valid
noted-any-depth library cells rules d e minimum segments = refl
