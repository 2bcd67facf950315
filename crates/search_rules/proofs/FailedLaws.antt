-- The first reference of a match that fails: a match holds exactly if none does, and the one that is told fails, for the
-- reason that is told, while those before it do not. Assumes nothing.
use Prim.Native.Nat.{ℕ, zero, suc, ◌+◌, ◌<◌}
use Rattle.std.specs.Prelude.{◌≡◌, Ok, Err, is_ok, Bool, true, false, ◌&&◌, if◌then◌else◌}
use Rattle.std.proofs.Math.Path.{refl, ap}
use Rattle.std.proofs.Common.{sym, ◌∙◌, arith}
use mathlib.Core.List.{List, [], ◌∷◌}
use Rattle.std.proofs.Math.Option.{Option, none, some}
use Rattle.std.proofs.Math.ListN.{get_elem?}
use Rattle.lent.specs.FirstOf.{none≢some}
use Rattle.lent.specs.Lists.{is_in, all}
use Rattle.image.specs.declared.fixup.Rules.{Rules}
use Rattle.image.specs.declared.fixup.Target.{Target}
use Rattle.image.specs.declared.fixup.Target.TheVariants.{At, PastEnd, Withheld}
use Rattle.segments.specs.declared.Goal.{Goal}
use Rattle.segments.specs.declared.Reference.{Reference}
use Rattle.segments.specs.Collect.{Collected}
use Rattle.search_rules.specs.declared.Why.{Why}
use Rattle.search_rules.specs.Search.{Checked, failing, positions_of, leads, segment_of, holds_at, holds_to, failure, failed, failed_from, failed_to}

-- no reason is told
abbrev is_none : Option Why → Bool
is_none none = true
is_none (some why) = false

-- a reference holds exactly if there is no reason why it fails
module _ (cells : List ℕ) (segments : List Collected) (below : Collected → ℕ → Bool) where
  holds-unless : (goal : Goal) (t : Target) → holds_at cells segments below goal t ≡ is_none (failure cells segments below goal t)
  holds-unless goal PastEnd = refl
  holds-unless goal Withheld = refl
  holds-unless (Goal.Segment number) (At t) = go (is_in (positions_of cells segments number) t) (below (segment_of segments number) t)
    where
      go : (b c : Bool) → (b && c) ≡ is_none (if b then (if c then none else some Why.NotHeld) else some Why.NoMatch)
      go true true = refl
      go true false = refl
      go false c = refl
  holds-unless (Goal.Name name) (At t) = refl

-- of a list: all hold exactly if none is told
all-unless : (p : Reference → Bool) (why : Reference → Option Why) → ((r : Reference) → p r ≡ is_none (why r)) → (k : ℕ) (rs : List Reference)
    → all p rs ≡ is_ok (failed_from why k rs)
unfolding all failed_from
all-unless p why e k [] = refl
all-unless p why e k (r ∷ rest) = ap (λ t. t && all p rest) (e r) ∙ go (why r) (all-unless p why e (k + 1) rest)
  where
    go : (o : Option Why) → all p rest ≡ is_ok (failed_from why (k + 1) rest)
        → (is_none o && all p rest) ≡ is_ok (failed k o (failed_from why (k + 1) rest))
    go none h = h
    go (some w) h = refl

-- A MATCH HOLDS to a depth exactly if no reference of it fails there
pub holds-exactly : (cells : List ℕ) (rules : Rules) (segments : List Collected) (d : ℕ) (g : Collected) (position : ℕ)
    → holds_to cells rules segments d g position ≡ is_ok (failed_to cells rules segments d g position)
unfolding holds_to failed_to
holds-exactly cells rules segments zero g position = refl
holds-exactly cells rules segments (suc d) g position =
    all-unless _ (λ r. failure cells segments (λ h at. holds_to cells rules segments d h at) r.goal (leads cells rules position r))
    (λ r. holds-unless cells segments (λ h at. holds_to cells rules segments d h at) r.goal (leads cells rules position r)) 0 g.references

-- number i of some references fails for this reason, and none before it does
pub record FailsFirst (why : Reference → Option Why) (rs : List Reference) (i : ℕ) (w : Why) : Type 0 where
  pub reference : Reference
  pub there : get_elem? rs i ≡ some reference
  pub fails : why reference ≡ some w
  pub earlier : (j : ℕ) (r : Reference) → j < i → get_elem? rs j ≡ some r → why r ≡ none

module _ (why : Reference → Option Why) where
  abbrev number_in : Checked → ℕ
  number_in (Ok u) = 0
  number_in (Err f) = f.number

  abbrev reason_in : Checked → Option Why
  reason_in (Ok u) = none
  reason_in (Err f) = some f.why

  first-at : (k : ℕ) (rs : List Reference) (number : ℕ) (w : Why) → failed_from why k rs ≡ failing number w
      → (i : ℕ) × (number ≡ k + i) × FailsFirst why rs i w
  unfolding failed_from
  first-at k [] number w e = absurd (none≢some (ap reason_in e))
  first-at k (r ∷ rest) number w e = go (why r) refl (λ h. first-at (k + 1) rest number w h) e
    where
      go : (o : Option Why) → why r ≡ o → (failed_from why (k + 1) rest ≡ failing number w → (i : ℕ) × (number ≡ k + 1 + i) × FailsFirst why rest i w)
          → failed k o (failed_from why (k + 1) rest) ≡ failing number w → (i : ℕ) × (number ≡ k + i) × FailsFirst why (r ∷ rest) i w
      go (some v) q on h =
          let same : k ≡ number = ap number_in h in (
            0,
            omega (arith, same),
            record { reference = r; there = refl; fails = q ∙ ap reason_in h; earlier = λ j x l g. absurd (omega (arith, l)) },
          )
      go none q on h = later (on h)
        where
          later : (i : ℕ) × (number ≡ k + 1 + i) × FailsFirst why rest i w → (i : ℕ) × (number ≡ k + i) × FailsFirst why (r ∷ rest) i w
          later (i, n, f) = (
            suc i,
            omega (arith, n),
            record {
              reference = f.reference;
              there = f.there;
              fails = f.fails;
              earlier = before;
            },
          )
            where
              inside : Option Reference → Reference
              inside none = r
              inside (some x) = x

              before : (j : ℕ) (x : Reference) → j < suc i → get_elem? (r ∷ rest) j ≡ some x → why x ≡ none
              before zero x l g = ap why (sym (ap inside g)) ∙ q
              before (suc j) x l g = f.earlier j x (omega (arith, l)) g

-- THE FIRST THAT FAILS is the one that is told, with its reason; at depth 0 none is told
pub first-fails : (cells : List ℕ) (rules : Rules) (segments : List Collected) (d : ℕ) (g : Collected) (position number : ℕ) (w : Why)
    → failed_to cells rules segments (suc d) g position ≡ failing number w
    → FailsFirst (λ r. failure cells segments (λ h at. holds_to cells rules segments d h at) r.goal (leads cells rules position r)) g.references number w
unfolding failed_to
first-fails cells rules segments d g position number w e =
    let why : Reference → Option Why = λ r. failure cells segments (λ h at. holds_to cells rules segments d h at) r.goal (leads cells rules position r) in
    let f = first-at why 0 g.references number w e in
    let same : number ≡ f.0 = omega (arith, f.1) in
    rw same f.2
