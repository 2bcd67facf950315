-- What a link says: it leads to the first place of its key, and where it is 0 there is none. Assumes nothing.
use Rattle.std.specs.Prelude.{ℕ, zero, suc, ◌+◌, ◌-◌, ◌<◌, ◌≤◌, ◌≡◌, refl, Bool, true, false, List, eqb, length, if◌then◌else◌}
use Rattle.std.proofs.Common.{subst, arith, eqb-true}
use Rattle.std.proofs.Math.Option.{Option, none, some}
use Rattle.std.proofs.lemmas.Bool.{eqb-false}
use Rattle.tables.specs.links.First.{first_of, first_in, link_to}
use Rattle.tables.specs.links.Index.{key_at, link_from}

-- none of the numbers from one up to another passes a test
abbrev None : (ℕ → Bool) → ℕ → ℕ → Type 0
None p at end = (j : ℕ) → at ≤ j → j < end → p j ≡ false

record First (p : ℕ → Bool) (at end i : ℕ) : Type 0 where
  from : at ≤ i
  below : i < end
  passes : p i ≡ true
  earlier : None p at i

abbrev Is : (ℕ → Bool) → ℕ → ℕ → Option ℕ → Type 0
Is p at end none = None p at end
Is p at end (some i) = First p at end i

first-is : (p : ℕ → Bool) (n at : ℕ) → Is p at (at + n) (first_of p n at)
unfolding first_of
first-is p zero at = λ j a b. absurd (omega arith)
first-is p (suc n) at = go (p at) refl (first_of p n (at + 1)) (first-is p n (at + 1))
  where
    nor : p at ≡ false → (end : ℕ) → None p (at + 1) end → None p at end
    nor e end h j a b = step (eqb at j) refl
      where
        step : (t : Bool) → eqb at j ≡ t → p j ≡ false
        step true q = subst (λ i. p i ≡ false) (eqb-true at j q) e
        step false q = let d = eqb-false at j q in h j (omega (arith, d)) b

    go : (t : Bool) → p at ≡ t → (o : Option ℕ) → Is p (at + 1) (at + 1 + n) o → Is p at (at + suc n) (if t then some at else o)
    go true e o h = record { from = omega arith; below = omega arith; passes = e; earlier = λ j a b. absurd (omega arith) }
    go false e none h = nor e (at + suc n) (λ j a b. h j a (omega arith))
    go false e (some i) h = record { from = omega (arith, h.from); below = omega (arith, h.below); passes = h.passes; earlier = nor e i h.earlier }

-- the link of a key from a place on, which is not 0
pub record Leads (keys : List ℕ) (v at link : ℕ) : Type 0 where
  pub from : at < link
  pub within : link - 1 < length keys
  pub key : key_at keys (link - 1) ≡ v
  pub earlier : (j : ℕ) → at ≤ j → j < link - 1 → key_at keys j ≡ v → ⊥

module _ (keys : List ℕ) (v at : ℕ) where
  abbrev test : ℕ → Bool
  test j = eqb (key_at keys j) v

  found-is : at ≤ length keys → Is test at (length keys) (first_in test at (length keys))
  found-is h =
      let e : at + (length keys - at) ≡ length keys = omega arith in
      subst (λ end. Is test at end (first_in test at (length keys))) e (first-is test (length keys - at) at)

  pub link-leads : (link : ℕ) → at ≤ length keys → link ≡ link_from keys v at → 0 < link → Leads keys v at link
  link-leads link h e p = go (first_in test at (length keys)) (found-is h) e
    where
      go : (o : Option ℕ) → Is test at (length keys) o → link ≡ link_to o → Leads keys v at link
      go none i q = absurd (omega (arith, q))
      go (some k) i q =
          let back : k ≡ link - 1 = omega (arith, q) in
          let f : First test at (length keys) (link - 1) = subst (First test at (length keys)) back i in
          record { from = omega (arith, f.from); within = f.below; key = eqb-true (key_at keys (link - 1)) v f.passes; earlier = λ j a b. eqb-false (key_at keys j) v (f.earlier j a b) }

  pub link-ends : link_from keys v at ≡ 0 → (j : ℕ) → at ≤ j → j < length keys → key_at keys j ≡ v → ⊥
  link-ends e j a b = go (first_in test at (length keys)) (found-is (omega arith)) e
    where
      go : (o : Option ℕ) → Is test at (length keys) o → link_to o ≡ 0 → key_at keys j ≡ v → ⊥
      go none i q = eqb-false (key_at keys j) v (i j a b)
      go (some k) i q = absurd (omega (arith, q))
