-- Gathered things whose keys are linked are indexed; and tables are blank at the start, and again once the keys are forgotten. Assumes nothing.
use Rattle.std.specs.Prelude.{ℕ, zero, suc, ◌<◌, ◌≤◌, ◌≡◌, refl, List, [], ◌∷◌, length, get_or, take}
use Rattle.std.proofs.Common.{sym, ap, subst, ◌∙◌, arith}
use Rattle.std.proofs.lemmas.List.{get_or-replicate}
use Rattle.lent.specs.Rows.{zeros}
use Rattle.tables.specs.links.Things.{keys_of, places_of, next_of}
use Rattle.tables.specs.links.ThingLaws.{keys-long}
use Rattle.tables.specs.links.Index.{Linked, Ready, LinkedThings, Cleared}
use Rattle.tables.specs.links.IndexLaws.{unlinked}
use Rattle.module_index.specs.gather.Places.{Gathered}
use Rattle.module_index.specs.gather.Into.{Roomy, Held, GatheredInto}
use Rattle.module_index.specs.gather.GatherLaws.{gathered-follow, gathered-within}
use Rattle.module_index.specs.Indexed.{Blank}
use Rattle.module_index.specs.IndexedTables.{IndexedInto}

-- within a list its default makes no difference
get_d_any : {A : Type 0} (xs : List A) (j : ℕ) (a b : A) → j < length xs → get_or xs j a ≡ get_or xs j b
get_d_any [] j a b h = absurd (omega arith)
get_d_any (x ∷ xs) zero a b h = refl
get_d_any (x ∷ xs) (suc j) a b h = get_d_any xs j a b (omega arith)

module _ {A : Type 0} (key : A → ℕ) (is : List ℕ → ℕ → A → Type 0) (none : A) {xs : List A} {things₀ gathered : List ℕ} {n : ℕ} (g : GatheredInto key is none xs things₀ gathered n) where
  within : n ≤ length gathered
  within = omega (arith, gathered-within key (is (places_of gathered)) none xs (keys_of gathered) n g.gathered, keys-long gathered)

  pub indexed-ready : {size : ℕ} {library first : List ℕ} → Blank size library things₀ first → Ready gathered n first
  indexed-ready b = record { within = within; few = omega (arith, within, g.long, b.few); heads = b.heads; clear = b.clear }

  -- linking leaves the keys and places as they were gathered
  pub indexed-linked : {first₀ things first : List ℕ} → LinkedThings gathered n 0 things first → length things ≡ length gathered → length first ≡ length first₀
      → IndexedInto is key xs things₀ first₀ things first n
  indexed-linked {things = things} {first = first} l t f =
      let held : Held key is none xs things n =
      subst (λ ks. Gathered key (is (places_of things)) none xs ks n) (sym l.keys) (subst (λ ps. Gathered key (is ps) none xs (keys_of gathered) n) (sym l.places) g.gathered) in
      let linked : Linked (take n (keys_of things)) 0 first (next_of things) = subst (λ ks. Linked (take n ks) 0 first (next_of things)) (sym l.keys) l.linked in
      record {
        number = g.gathered.number;
        keyed = held.keyed;
        stand = λ j h other. rw (get_d_any xs j other none (omega (arith, g.gathered.number))) (held.stand j h);
        meets = gathered-follow key (is (places_of things)) none xs (keys_of things) n first (next_of things) held linked;
        linked = linked;
        within = omega (arith, within);
        things-long = t ∙ g.long;
        first-long = f;
      }

-- zeros are blank
pub zeros-blank : {size : ℕ} {library things first : List ℕ} → Roomy size library things → length things < 268435456 → 65536 ≤ length first → first ≡ zeros (length first) → Blank size library things first
zeros-blank {first = first} r f h e = record {
  roomy = r;
  few = f;
  heads = h;
  clear = λ key k. ap (λ xs. get_or xs key 0) e ∙ get_or-replicate (length first) key 0 0 (omega arith);
}

-- tables are blank again once the linked keys are forgotten: their room depends on their lengths only
pub forgotten : {A : Type 0} {is : List ℕ → ℕ → A → Type 0} {key : A → ℕ} {xs : List A} {size : ℕ} {library things₀ first₀ things first after : List ℕ} {n : ℕ}
    → Blank size library things₀ first₀ → IndexedInto is key xs things₀ first₀ things first n → Cleared (take n (keys_of things)) first after → Blank size library things after
forgotten {things = things} {first = first} {after = after} {n = n} b i c = record {
  roomy = record { room = rw i.things-long b.roomy.room; short = b.roomy.short };
  few = omega (arith, b.few, i.things-long);
  heads = omega (arith, i.linked.heads, c.long);
  clear = λ key h. unlinked (take n (keys_of things)) first (next_of things) after i.linked c key h;
}
