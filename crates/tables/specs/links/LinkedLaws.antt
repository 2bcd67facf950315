-- Things are linked from the last to the first, each to the next of its key. Assumes nothing.
use Rattle.std.specs.Prelude.{◌≡◌, ℕ, zero, suc, ◌+◌, ◌-◌, ◌<◌, ◌≤◌, Bool, true, false, List, length, take, nat_eq, slice_index, slice_set, refl, if◌then◌else◌}
use Rattle.std.proofs.Common.{sym, ap, subst, ◌∙◌, arith, length-take, get_or-take}
use Rattle.std.proofs.Math.Option.{some}
use Rattle.tables.specs.links.First.{first_of, link_to}
use Rattle.tables.specs.links.Things.{thing_key, keys_of, next_of}
use Rattle.tables.specs.links.ThingLaws.{keys-long, next-long, key-is, key-small, linked_at, link-keys, link-places, link-next}
use Rattle.tables.specs.links.Index.{key_at, Linked, Ready, LinkedThings}
use Rattle.tables.specs.links.IndexLaws.{none-linked, link-turn}

-- a link is not above the number of keys
first-most : (p : ℕ → Bool) (n at : ℕ) → link_to (first_of p n at) ≤ at + n
unfolding first_of
first-most p zero at = omega arith
first-most p (suc n) at = go (p at) (first-most p n (at + 1))
  where
    go : (t : Bool) → link_to (first_of p n (at + 1)) ≤ at + 1 + n → link_to (if t then some at else first_of p n (at + 1)) ≤ at + suc n
    go true h = omega arith
    go false h = omega (arith, h)

module _ (things₀ : List ℕ) (n : ℕ) (within : n ≤ length things₀) where
  abbrev keys : List ℕ
  keys = take n (keys_of things₀)

  so-many : length keys ≡ n
  so-many = length-take n (keys_of things₀) ∙ omega (arith, keys-long things₀)

  pub none_yet : (first : List ℕ) → Ready things₀ n first → LinkedThings things₀ n n things₀ first
  none_yet first r = record {
    keys = refl;
    places = refl;
    linked = subst (λ i. Linked keys i first (next_of things₀)) so-many (none-linked keys first (next_of things₀) r.heads (omega (arith, so-many, next-long things₀)) r.clear);
  }

  module _ (i : ℕ) {things first : List ℕ} (h : i < n) (l : LinkedThings things₀ n (i + 1) things first) where
    abbrev key : ℕ
    key = thing_key (slice_index things i)

    pub same_key : key_at keys i ≡ key
    same_key = get_or-take n (keys_of things₀) i 0 h ∙ ap (λ ks. slice_index ks i) (sym l.keys) ∙ key-is things i

    pub small-key : key < 65536
    small-key = omega (arith, key-is things i, key-small things i)

    pub small-link : n < 268435456 → slice_index first key < 268435456
    small-link few =
        omega (arith, l.linked.starts key small-key, first-most (λ j. nat_eq (key_at keys j) key) (length keys - (i + 1)) (i + 1), so-many)

    pub one-linked : n < 268435456 → LinkedThings things₀ n i (linked_at things i (slice_index first key)) (slice_set first key (i + 1))
    one-linked few = record {
      keys = link-keys things i (slice_index first key) ∙ l.keys;
      places = link-places things i (slice_index first key) ∙ l.places;
      linked = rw
          (link-next things i (slice_index first key) (small-link few), ← same_key)
          (link-turn keys first (next_of things) i (omega (arith, so-many)) (omega (arith, same_key, small-key)) l.linked);
    }
