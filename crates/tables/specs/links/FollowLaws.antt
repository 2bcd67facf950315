-- Following the links of a key meets exactly the things of that key, in order. Assumes nothing.
use Rattle.std.specs.Prelude.{◌≡◌, ℕ, zero, suc, ◌+◌, ◌-◌, ◌<◌, ◌≤◌, Bool, true, false, List, [], ◌∷◌, map, length, get_or, drop, ◌==◌, nat_eq, slice_index, slice_index_or, if◌then◌else◌}
use Rattle.std.proofs.Math.Path.{refl, ap}
use Rattle.std.proofs.Common.{◌∙◌, eqb-true, drop_of_length-le}
use native.Mathlib.Omega.{arith}
use Rattle.std.proofs.lemmas.List.{length-map}
use Rattle.lent.specs.Lists.{keep}
use Rattle.lent.specs.PartLaws.{drop-turn}
use Rattle.tables.specs.links.FirstLaws.{first-none, first-hit, first-miss}
use Rattle.tables.specs.links.Index.{key_at, link_from, Linked}
use Rattle.tables.specs.links.Follow.{Follows}

key-at : {A : Type 0} (key : A → ℕ) (d : A) (xs : List A) (j : ℕ) → j < length xs → slice_index (map key xs) j ≡ key (slice_index_or xs j d)
key-at key d [] j h = absurd (omega arith)
key-at key d (x ∷ xs) zero h = refl
key-at key d (x ∷ xs) (suc j) h = key-at key d xs j (omega arith)

module _ {A : Type 0} (is : ℕ → A → Type 0) (none : A) (key : A → ℕ) (xs : List A) (first next : List ℕ) (l : Linked (map key xs) 0 first next)
    (stand : (j : ℕ) → j < length xs → is j (slice_index_or xs j none)) where
  module _ (k : ℕ) where
    abbrev keys : List ℕ
    keys = map key xs

    -- the things of the key from a place on
    abbrev from : ℕ → List A
    from i = keep (λ x. nat_eq (key x) k) (drop i xs)

    abbrev Met-from : ℕ → ℕ → Type 0
    Met-from last i = Follows is next last (link_from keys k i) (from i)

    long : length keys ≡ length xs
    long = length-map xs key

    -- the thing at a place: it is met if it has the key, or else passed over
    module _ (last i : ℕ) (h : i < length xs) (b : last ≤ i) where
      hit : nat_eq (key_at keys i) k ≡ true → Met-from (i + 1) (i + 1) → Follows is next last (link_from keys k i) (slice_index_or xs i none ∷ from (i + 1))
      unfolding Follows
      hit e rest =
          let back : i + 1 - 1 ≡ i = omega arith in
          let goes : get_or next i 0 ≡ link_from keys k (i + 1) = l.follows i (omega arith) (omega (arith, long)) ∙ ap (λ x. link_from keys x (i + 1)) (eqb-true (key_at keys i) k e) in
          rw
          (first-hit (λ j. nat_eq (key_at keys j) k) i (length keys) (omega (arith, long)) e, back, goes)
          (omega arith, (stand i h, rest))

      miss : nat_eq (key_at keys i) k ≡ false → Met-from last (i + 1) → Follows is next last (link_from keys k i) (from (i + 1))
      miss e rest = rw (first-miss (λ j. nat_eq (key_at keys j) k) i (length keys) (omega (arith, long)) e) rest

    follow-from : (n last i : ℕ) → length xs - i ≡ n → last ≤ i → Met-from last i
    unfolding keep Follows
    follow-from zero last i e b =
        rw (drop_of_length-le xs {i = i} (omega arith), first-none (λ j. nat_eq (key_at keys j) k) i (length keys) (omega (arith, long)))
    follow-from (suc n) last i e b =
        rw (drop-turn xs i none (omega arith)) (go (key (slice_index_or xs i none) == k) (ap (λ x. nat_eq x k) (key-at key none xs i (omega arith))) (λ m. follow-from n m (i + 1) (omega arith)))
      where
        go : (t : Bool) → (key_at keys i == k) ≡ t → ((m : ℕ) → m ≤ i + 1 → Met-from m (i + 1))
            → Follows is next last (link_from keys k i) (if t then slice_index_or xs i none ∷ from (i + 1) else from (i + 1))
        go true q rest = hit last i (omega arith) b q (rest (i + 1) (omega arith))
        go false q rest = miss last i (omega arith) b q (rest last (omega arith))

  pub links-follow : (k : ℕ) → k < 65536 → Follows is next 0 (slice_index first k) (keep (λ x. nat_eq (key x) k) xs)
  links-follow k h = rw (l.starts k h) (follow-from k (length xs) 0 0 (omega arith) (omega arith))

-- for whoever follows links: a link that is not above the last one ends the way, and one that is leads to the next thing
module _ {A : Type 0} (is : ℕ → A → Type 0) (next : List ℕ) where
  pub follows-none : (last : ℕ) → Follows is next last 0 []
  unfolding Follows
  follows-none last = refl

  pub follows-end : (last link : ℕ) (xs : List A) → link ≤ last → Follows is next last link xs → xs ≡ []
  unfolding Follows
  follows-end last link [] h f = refl
  follows-end last link (x ∷ xs) h f = absurd (omega (arith, f.0))

  pub record Met (link : ℕ) (xs : List A) : Type 0 where
    pub head : A
    pub rest : List A
    pub whole : xs ≡ head ∷ rest
    pub stands : is (link - 1) head
    pub goes_on : Follows is next link (slice_index next (link - 1)) rest

  pub follows-step : (last link : ℕ) (xs : List A) → last < link → Follows is next last link xs → Met link xs
  unfolding Follows
  follows-step last link [] h f = absurd (omega (arith, f))
  follows-step last link (x ∷ xs) h f = record { head = x; rest = xs; whole = refl; stands = f.1.0; goes_on = f.1.1 }
