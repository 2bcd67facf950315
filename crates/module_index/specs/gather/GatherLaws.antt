-- One thing more is gathered; and what is gathered is found by its key. Assumes nothing.
use Rattle.std.specs.Prelude.{ℕ, ◌+◌, ◌<◌, ◌≤◌, ◌≡◌, refl, List, [], ◌∷◌, ◌++◌, eqb, length, get_or, take, set}
use Rattle.std.proofs.Common.{sym, ap, subst, ◌∙◌, append-nil, add-one, arith, length-append, length-take, take-suc-set, get_or-set_same, get_or-set_other}
use Rattle.std.proofs.lemmas.List.{map-append, length-map}
use Rattle.std.proofs.Math.Decide.{dec_lt}
use Rattle.std.proofs.Math.ListN.{get_or-append}
use Rattle.std.proofs.Math.Seq.{get_or-append_seam}
use Rattle.lent.specs.Lists.{one, keep}
use Rattle.tables.specs.links.Things.{thing_of, keys_of, places_of}
use Rattle.tables.specs.links.ThingLaws.{keys-long, places-long, put-keys, put-places}
use Rattle.tables.specs.links.Index.{Linked}
use Rattle.tables.specs.links.Follow.{Follows}
use Rattle.tables.specs.links.FollowLaws.{links-follow}
use Rattle.module_index.specs.gather.Places.{Gathered}
use Rattle.module_index.specs.gather.Into.{Held}

-- `At p x` says that x is read at the place p of the library
module _ {A : Type 0} (key : A → ℕ) (At : ℕ → A → Type 0) (none : A) where
  abbrev pub Stands : List ℕ → ℕ → A → Type 0
  Stands places j x = At (get_or places j 0) x

  pub none-gathered : (things : List ℕ) → Held key Stands none [] things 0
  none-gathered things = record { number = refl; keyed = take-zero (keys_of things); stand = λ j h. absurd (omega arith) }
    where
      take-zero : (xs : List ℕ) → take 0 xs ≡ []
      take-zero [] = refl
      take-zero (x ∷ xs) = refl

  -- one thing more, its key and place stored behind the others
  pub gather-turn : (xs : List A) (things : List ℕ) (n : ℕ) (x : A) (p : ℕ) → n < length things → key x < 65536 → p < 1048576 → At p x
      → Held key Stands none xs things n → Held key Stands none (xs ++ one x) (set things n (thing_of (key x) p)) (n + 1)
  gather-turn xs things n x p a k b h g = rw (put-keys things n (key x) p k, put-places things n (key x) p k b) (record {
    number = omega (arith, g.number, length-append xs (one x));
    keyed = rw add-one (take-suc-set (keys_of things) n (key x) (omega (arith, keys-long things)) ∙ ap (λ ys. ys ++ (key x ∷ [])) g.keyed ∙ sym (map-append key xs (one x)));
    stand = λ j l. go j l (dec_lt j n);
  })
    where
      go : (j : ℕ) → j < n + 1 → Dec (j < n) → At (get_or (set (places_of things) n p) j 0) (get_or (xs ++ one x) j none)
      go j l (yes d) =
          let z : (j ≡ n → ⊥) = λ e. omega arith in
          rw (get_or-set_other (places_of things) n j p 0 z, get_or-append xs (one x) none j (omega (arith, g.number))) (g.stand j d)
      go j l (no d) =
          let same : j ≡ n = omega arith in
          rw same (rw (get_or-set_same (places_of things) n p 0 (omega (arith, places-long things))) (subst (λ i. At p (get_or (xs ++ one x) i none)) (sym g.number) (rw (get_or-append_seam xs x [] none) h)))

-- all are done once nothing is left
pub all_done : {A : Type 0} {all done left : List A} → done ++ left ≡ all → left ≡ [] → done ≡ all
all_done {A} {all} {done} w e = sym (append-nil done) ∙ ap (λ xs. done ++ xs) (sym e) ∙ w

-- once the keys are linked, the links of a key lead to the things of that key
pub gathered-follow : {A : Type 0} (key : A → ℕ) (is : ℕ → A → Type 0) (none : A) (xs : List A) (keys : List ℕ) (n : ℕ) (first next : List ℕ) → Gathered key is none xs keys n
    → Linked (take n keys) 0 first next → (k : ℕ) → k < 65536 → Follows is next 0 (get_or first k 0) (keep (λ x. eqb (key x) k) xs)
gathered-follow key is none xs keys n first next g l =
    links-follow is none key xs first next (subst (λ ks. Linked ks 0 first next) g.keyed l) (λ j h. g.stand j (omega (arith, g.number)))

-- so many keys are there, and can be lent to be linked
pub gathered-within : {A : Type 0} (key : A → ℕ) (is : ℕ → A → Type 0) (none : A) (xs : List A) (keys : List ℕ) (n : ℕ) → Gathered key is none xs keys n → n ≤ length keys
gathered-within key is none xs keys n g = omega (arith, length-take n keys, ap length g.keyed, length-map xs key, g.number)
