-- Looking up and clearing has one outcome, by the contract alone; two tables of links agree
-- wherever they are followed. Assumes nothing.
use Rattle.std.specs.Prelude.{◌≡◌, ℕ, zero, suc, ◌<◌, ◌≤◌, Bool, true, false, List, length, take, ◌==◌, ◌≢◌, slice_index, refl}
use Rattle.std.proofs.Common.{sym, ◌∙◌, arith, eqb-true, ext_get_or}
use Rattle.std.proofs.lemmas.Bool.{eqb-false}
use Rattle.lent.specs.OneOutcome.{Determines, by-equation}
use Rattle.tables.specs.links.Things.{thing_of, keys_of}
use Rattle.tables.specs.links.Index.{key_at, LinkedIn, ClearedTo, Cleared}

-- `number_at` of heads; `key_at`, `place_at` and `next_at` of the keys, places or links of things
pub number-one : (numbers : List ℕ) (i : ℕ) → Determines (λ r. r ≡ slice_index numbers i)
number-one numbers i = by-equation (slice_index numbers i)

pub thing-one : (key place : ℕ) → Determines (λ r. (r ≡ thing_of key place) × (key < 65536))
thing-one key place a b p q = p.0 ∙ sym q.0

-- the head of a key is 0 if it is one of the keys, and else as it was: those from m on are looked at already
module _ (keys before : List ℕ) (n : ℕ) (a b : List ℕ) (p : ClearedTo keys n before a) (q : ClearedTo keys n before b) (key : ℕ) where
  abbrev None-from : ℕ → Type 0
  None-from m = (j : ℕ) → m ≤ j → j < n → key_at keys j ≢ key

  nor-at : (m : ℕ) → (key_at keys m == key) ≡ false → None-from (suc m) → None-from m
  nor-at m e none j l h = go (m == j) refl
    where
      go : (t : Bool) → (m == j) ≡ t → key_at keys j ≢ key
      go true z = rw (← eqb-true m j z) (eqb-false (key_at keys m) key e)
      go false z = let d = eqb-false m j z in none j (omega (arith, d)) h

  cleared-alike : (m : ℕ) → m ≤ n → None-from m → slice_index a key ≡ slice_index b key
  cleared-alike zero l none = p.others key (λ j h. none j (omega arith) h) ∙ sym (q.others key (λ j h. none j (omega arith) h))
  cleared-alike (suc m) l none = go (key_at keys m == key) refl (cleared-alike m (omega arith))
    where
      go : (t : Bool) → (key_at keys m == key) ≡ t → (None-from m → slice_index a key ≡ slice_index b key) → slice_index a key ≡ slice_index b key
      go true e rest = rw (← eqb-true (key_at keys m) key e) (p.those m (omega arith) ∙ sym (q.those m (omega arith)))
      go false e rest = rest (nor-at m e none)

pub unlink-one : (things : List ℕ) (n : ℕ) (before : List ℕ) → Determines (Cleared (take n (keys_of things)) before)
unlink-one things n before a b p q =
    let keys = take n (keys_of things) in
    ext_get_or 0 a b (p.long ∙ sym q.long) (λ key h. cleared-alike keys before (length keys) a b p q key (length keys) (omega arith) (λ j l k. absurd (omega arith)))

-- `link` (by its field `linked`): the head of each key, and the link of each place
pub link-one : {bound : ℕ} (keys first next first' next' : List ℕ) → LinkedIn bound keys 0 first next → LinkedIn bound keys 0 first' next'
    → ((key : ℕ) → key < bound → slice_index first key ≡ slice_index first' key) × ((j : ℕ) → j < length keys → slice_index next j ≡ slice_index next' j)
link-one keys first next first' next' p q =
    ((λ key h. p.starts key h ∙ sym (q.starts key h)), (λ j h. p.follows j (omega arith) h ∙ sym (q.follows j (omega arith) h)))
