-- Laws of things in a table: they are read and written by their keys, places and links. Assumes nothing.
use Rattle.std.specs.Prelude.{◌≡◌, ℕ, zero, suc, ◌<◌, List, [], ◌∷◌, map, length, set, slice_index, slice_index_or, slice_set, refl}
use Rattle.std.proofs.Math.Path.{ap}
use Rattle.std.proofs.Common.{◌∙◌, arith}
use Rattle.std.proofs.Math.ListN.{length-map, get_or-map}
use Rattle.std.proofs.Math.Seq.{map-set_same}
use Rattle.tables.specs.links.Things.{thing_key, thing_place, thing_next, thing_of, linked_to, keys_of, places_of, next_of}

-- in one number
of-key : (key place : ℕ) → key < 65536 → thing_key (thing_of key place) ≡ key
unfolding thing_key thing_of
of-key key place h = omega arith

of-place : (key place : ℕ) → key < 65536 → place < 1048576 → thing_place (thing_of key place) ≡ place
unfolding thing_place thing_of
of-place key place h l = omega arith

linked-key : (thing link : ℕ) → thing_key (linked_to thing link) ≡ thing_key thing
unfolding thing_key linked_to
linked-key thing link = omega arith

linked-place : (thing link : ℕ) → thing_place (linked_to thing link) ≡ thing_place thing
unfolding thing_place linked_to
linked-place thing link = omega arith

linked-next : (thing link : ℕ) → link < 268435456 → thing_next (linked_to thing link) ≡ link
unfolding thing_next linked_to
linked-next thing link h = omega arith

map-set : (f : ℕ → ℕ) (xs : List ℕ) (i x : ℕ) → map f (slice_set xs i x) ≡ slice_set (map f xs) i (f x)
map-set f [] i x = refl
map-set f (y ∷ ys) zero x = refl
map-set f (y ∷ ys) (suc i) x = ap (λ zs. f y ∷ zs) (map-set f ys i x)

module _ (things : List ℕ) where
  pub keys-long : length (keys_of things) ≡ length things
  unfolding keys_of
  keys-long = length-map things thing_key

  pub places-long : length (places_of things) ≡ length things
  unfolding places_of
  places-long = length-map things thing_place

  pub next-long : length (next_of things) ≡ length things
  unfolding next_of
  next-long = length-map things thing_next

  module _ (i : ℕ) where
    pub key-is : slice_index_or (keys_of things) i 0 ≡ thing_key (slice_index things i)
    unfolding keys_of thing_key
    key-is = get_or-map thing_key things i 0

    pub place_is : slice_index_or (places_of things) i 0 ≡ thing_place (slice_index things i)
    unfolding places_of thing_place
    place_is = get_or-map thing_place things i 0

    pub next-is : slice_index_or (next_of things) i 0 ≡ thing_next (slice_index things i)
    unfolding next_of thing_next
    next-is = get_or-map thing_next things i 0

    pub key-small : slice_index_or (keys_of things) i 0 < 65536
    unfolding thing_key
    key-small = omega (arith, key-is)

    pub place-small : slice_index_or (places_of things) i 0 < 1048576
    unfolding thing_place
    place-small = omega (arith, place_is)

    pub next_small : slice_index_or (next_of things) i 0 < 268435456
    unfolding thing_next
    next_small = omega (arith, next-is)

    -- a thing that is put
    module _ (key place : ℕ) (h : key < 65536) where
      pub put-keys : keys_of (slice_set things i (thing_of key place)) ≡ slice_set (keys_of things) i key
      unfolding keys_of
      put-keys = map-set thing_key things i (thing_of key place) ∙ ap (set (map thing_key things) i) (of-key key place h)

      pub put-places : place < 1048576 → places_of (slice_set things i (thing_of key place)) ≡ slice_set (places_of things) i place
      unfolding places_of
      put-places l = map-set thing_place things i (thing_of key place) ∙ ap (set (map thing_place things) i) (of-place key place h l)

    -- a thing that is linked
    module _ (link : ℕ) where
      abbrev pub linked_at : List ℕ
      linked_at = slice_set things i (linked_to (slice_index things i) link)

      pub link-keys : keys_of linked_at ≡ keys_of things
      unfolding keys_of
      link-keys = map-set_same thing_key things i (linked_to (slice_index things i) link) 0 (linked-key (slice_index things i) link)

      pub link-places : places_of linked_at ≡ places_of things
      unfolding places_of
      link-places = map-set_same thing_place things i (linked_to (slice_index things i) link) 0 (linked-place (slice_index things i) link)

      pub link-next : link < 268435456 → next_of linked_at ≡ slice_set (next_of things) i link
      unfolding next_of
      link-next h = map-set thing_next things i (linked_to (slice_index things i) link) ∙ ap (set (map thing_next things) i) (linked-next (slice_index things i) link h)
