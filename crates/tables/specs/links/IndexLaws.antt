-- Laws of the index: one place more is linked; the heads of all keys are 0 again after they were cleared. Assumes nothing.
use Rattle.std.specs.Prelude.{◌≡◌, ℕ, zero, suc, ◌+◌, ◌<◌, ◌≤◌, Bool, true, false, List, length, ◌==◌, ◌≢◌, nat_eq, slice_index, slice_index_or, slice_set, refl}
use Rattle.std.proofs.Common.{sym, ap, subst, ◌∙◌, arith, eqb-true, length-set, get_or-set_same, get_or-set_other}
use Rattle.std.proofs.lemmas.Bool.{eqb-false}
use Rattle.tables.specs.links.First.{link_to}
use Rattle.tables.specs.links.FirstLaws.{first-none, first-hit, first-miss}
use Rattle.tables.specs.links.Index.{key_at, link_from, LinkedIn, Linked, ClearedTo}

-- before any: heads that are all 0
pub none-linked : {bound : ℕ} (keys first next : List ℕ) → bound ≤ length first → length keys ≤ length next → ((key : ℕ) → key < bound → slice_index first key ≡ 0)
    → LinkedIn bound keys (length keys) first next
none-linked keys first next h r z = record {
  heads = h;
  room = r;
  starts = λ key k. z key k ∙ ap link_to (sym (first-none (λ j. nat_eq (key_at keys j) key) (length keys) (length keys) (omega arith)));
  follows = λ j a b. absurd (omega arith);
}

module _ {bound : ℕ} (keys first next : List ℕ) (i : ℕ) (within : i < length keys) (small : key_at keys i < bound) (l : LinkedIn bound keys (i + 1) first next) where
  starts-turn : (key : ℕ) → key < bound → slice_index (slice_set first (key_at keys i) (i + 1)) key ≡ link_from keys key i
  starts-turn key k = go (key_at keys i == key) refl
    where
      go : (t : Bool) → (key_at keys i == key) ≡ t → slice_index (slice_set first (key_at keys i) (i + 1)) key ≡ link_from keys key i
      go true e =
          let same : key_at keys i ≡ key = eqb-true (key_at keys i) key e in
          ap (λ x. slice_index (slice_set first (key_at keys i) (i + 1)) x) (sym same)
          ∙ get_or-set_same first (key_at keys i) (i + 1) 0 (omega (arith, l.heads))
          ∙ ap link_to (sym (first-hit (λ j. nat_eq (key_at keys j) key) i (length keys) within e))
      go false e =
          let other = eqb-false (key_at keys i) key e in
          get_or-set_other first (key_at keys i) key (i + 1) 0 (λ q. other (sym q))
          ∙ l.starts key k
          ∙ ap link_to (sym (first-miss (λ j. nat_eq (key_at keys j) key) i (length keys) within e))

  follows-turn : (j : ℕ) → i ≤ j → j < length keys → slice_index (slice_set next i (slice_index first (key_at keys i))) j ≡ link_from keys (key_at keys j) (j + 1)
  follows-turn j a b = go (i == j) refl
    where
      go : (t : Bool) → (i == j) ≡ t → slice_index (slice_set next i (slice_index first (key_at keys i))) j ≡ link_from keys (key_at keys j) (j + 1)
      go true e =
          let same : i ≡ j = eqb-true i j e in
          rw (← same) (get_or-set_same next i (slice_index first (key_at keys i)) 0 (omega (arith, l.room)) ∙ l.starts (key_at keys i) small)
      go false e =
          let other = eqb-false i j e in
          get_or-set_other next i j (slice_index first (key_at keys i)) 0 (λ q. other (sym q)) ∙ l.follows j (omega (arith, other)) b

  pub link-turn : LinkedIn bound keys i (slice_set first (key_at keys i) (i + 1)) (slice_set next i (slice_index first (key_at keys i)))
  link-turn = record {
    heads = rw length-set l.heads;
    room = rw length-set l.room;
    starts = starts-turn;
    follows = follows-turn;
  }

pub linked-at : {bound : ℕ} {keys first next : List ℕ} {i k : ℕ} → LinkedIn bound keys i first next → i ≡ k → LinkedIn bound keys k first next
linked-at {bound} {keys} {first} {next} l e = subst (λ n. LinkedIn bound keys n first next) e l

-- heads set to 0 again, one key after another
pub none-cleared : (keys first : List ℕ) → ClearedTo keys 0 first first
none-cleared keys first = record { long = refl; those = λ j h. absurd (omega arith); others = λ key h. refl }

pub clear-turn : (keys before after : List ℕ) (i : ℕ) → key_at keys i < length after → ClearedTo keys i before after → ClearedTo keys (i + 1) before (slice_set after (key_at keys i) 0)
clear-turn keys before after i h c = record {
  long = rw length-set c.long;
  those = λ j k. go j k (key_at keys i == key_at keys j) refl;
  others = λ key n. get_or-set_other after (key_at keys i) key 0 0 (λ q. n i (omega arith) (sym q)) ∙ c.others key (λ j k. n j (omega arith));
}
  where
    go : (j : ℕ) → j < i + 1 → (t : Bool) → (key_at keys i == key_at keys j) ≡ t → slice_index (slice_set after (key_at keys i) 0) (key_at keys j) ≡ 0
    go j k true e =
        ap (λ x. slice_index (slice_set after (key_at keys i) 0) x) (sym (eqb-true (key_at keys i) (key_at keys j) e)) ∙ get_or-set_same after (key_at keys i) 0 0 h
    go j k false e =
        let other = eqb-false (key_at keys i) (key_at keys j) e in
        get_or-set_other after (key_at keys i) (key_at keys j) 0 0 (λ q. other (sym q)) ∙ c.those j (before_last j k other)
      where
        before_last : (j : ℕ) → j < i + 1 → (key_at keys i ≢ key_at keys j) → j < i
        before_last j k n = step (i == j) refl
          where
            step : (t : Bool) → (i == j) ≡ t → j < i
            step true e = absurd (n (ap (key_at keys) (eqb-true i j e)))
            step false e = let d = eqb-false i j e in omega arith

pub all-cleared : (keys before after : List ℕ) (i : ℕ) → i ≡ length keys → ClearedTo keys i before after → ClearedTo keys (length keys) before after
all-cleared keys before after i e c = subst (λ n. ClearedTo keys n before after) e c

-- after linking and clearing every head is 0: that of one of the keys was cleared, and that of another was 0 before
module _ (keys first next after : List ℕ) (l : Linked keys 0 first next) (c : ClearedTo keys (length keys) first after) (key : ℕ) (small : key < 65536) where
  abbrev None-before : ℕ → Type 0
  None-before at = (j : ℕ) → j < at → key_at keys j ≢ key

  nor-this : (at : ℕ) → (key_at keys at == key) ≡ false → None-before at → None-before (at + 1)
  nor-this at e n j h = step (at == j) refl
    where
      step : (t : Bool) → (at == j) ≡ t → key_at keys j ≢ key
      step true z = rw (← eqb-true at j z) (eqb-false (key_at keys at) key e)
      step false z = let d = eqb-false at j z in n j (omega arith)

  unlinked-from : (n at : ℕ) → at + n ≡ length keys → None-before at → slice_index first key ≡ link_from keys key at → slice_index after key ≡ 0
  unlinked-from zero at e n h =
      c.others key (λ j k. n j (omega arith)) ∙ h ∙ ap link_to (first-none (λ j. nat_eq (key_at keys j) key) at (length keys) (omega arith))
  unlinked-from (suc m) at e n h = turn (key_at keys at == key) refl (unlinked-from m (at + 1) (omega arith))
    where
      turn : (t : Bool) → (key_at keys at == key) ≡ t → (None-before (at + 1) → slice_index first key ≡ link_from keys key (at + 1) → slice_index after key ≡ 0) → slice_index after key ≡ 0
      turn true q rest = ap (λ x. slice_index after x) (sym (eqb-true (key_at keys at) key q)) ∙ c.those at (omega arith)
      turn false q rest = rest (nor-this at q n) (h ∙ ap link_to (first-miss (λ j. nat_eq (key_at keys j) key) at (length keys) (omega arith) q))

  pub unlinked : slice_index_or after key 0 ≡ 0
  unlinked = unlinked-from (length keys) 0 (omega arith) (λ j h. absurd (omega arith)) (l.starts key small)
