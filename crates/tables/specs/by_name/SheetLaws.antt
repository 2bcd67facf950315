-- The rows of a table of named things: after one more thing, which row stands where, and after
-- one thing was changed. Assumes nothing.
use Rattle.std.specs.Prelude.{◌≡◌, ℕ, zero, suc, ◌<◌, Bool, true, false, List, [], ◌∷◌, ◌++◌, length, take, ◌==◌, slice_index_or, slice_set}
use Rattle.std.proofs.Math.Path.{refl, ap}
use Rattle.std.proofs.Common.{sym, ◌∙◌, append_assoc, append-nil, arith, eqb-true, length-set, ext_get_or, get_or-take, get_or-set_same, get_or-set_other}
use Rattle.std.proofs.Math.Decide.{dec_lt}
use Rattle.std.proofs.lemmas.Bool.{eqb-false}
use Rattle.std.proofs.lemmas.List.{take-set-le}
use Rattle.std.proofs.Math.Seq.{take-set-lt}
use Rattle.lent.specs.Lists.{one}
use Rattle.tables.specs.by_name.Newest.{newest}
use Rattle.tables.specs.by_name.NewestLaws.{newest-set}
use Rattle.tables.specs.by_name.Sheet.{Sheet, key_bucket, in_key, in_name, bucket_of, row_after, linked_from, linked}

module _ {A R : Type 0} (s : Sheet A R) (library : List ℕ) where
  linked-from-length : (earlier xs : List A) → length (linked_from s library earlier xs) ≡ length xs
  unfolding linked_from
  linked-from-length earlier [] = refl
  linked-from-length earlier (x ∷ xs) = ap suc (linked-from-length (earlier ++ one x) xs)

  pub linked-length : (xs : List A) → length (linked s library xs) ≡ length xs
  linked-length xs = linked-from-length [] xs

  from_more : (earlier xs : List A) (x : A)
      → linked_from s library earlier (xs ++ one x) ≡ linked_from s library earlier xs ++ one (row_after s library (earlier ++ xs) x)
  unfolding linked_from
  from_more earlier [] x = ap (λ ys. one (row_after s library ys x)) (sym (append-nil earlier))
  from_more earlier (y ∷ xs) x =
      ap (λ rows. row_after s library earlier y ∷ rows)
      (from_more (earlier ++ one y) xs x
      ∙ ap (λ ys. linked_from s library (earlier ++ one y) xs ++ one (row_after s library ys x)) (append_assoc earlier (one y) xs))

  -- ONE MORE: a row behind the others
  pub linked-more : (xs : List A) (x : A) → linked s library (xs ++ one x) ≡ linked s library xs ++ one (row_after s library xs x)
  linked-more xs x = from_more [] xs x

  from_at : (r : R) (d : A) (earlier xs : List A) (j : ℕ) → j < length xs
      → slice_index_or (linked_from s library earlier xs) j r ≡ row_after s library (earlier ++ take j xs) (slice_index_or xs j d)
  unfolding linked_from
  from_at r d earlier [] j h = absurd (omega arith)
  from_at r d earlier (x ∷ xs) zero h = ap (λ ys. row_after s library ys x) (sym (append-nil earlier))
  from_at r d earlier (x ∷ xs) (suc j) h =
      from_at r d (earlier ++ one x) xs j (omega arith)
      ∙ ap (λ ys. row_after s library ys (slice_index_or xs j d)) (append_assoc earlier (one x) (take j xs))

  pub linked-at : (r : R) (d : A) (xs : List A) (j : ℕ) → j < length xs
      → slice_index_or (linked s library xs) j r ≡ row_after s library (take j xs) (slice_index_or xs j d)
  linked-at r d xs j h = from_at r d [] xs j h

  -- ONE CHANGED: where it keeps its key and name, no other row changes
  module _ (d : A) (xs : List A) (j : ℕ) (y : A) (k : s.key y ≡ s.key (slice_index_or xs j d)) (n : s.name y ≡ s.name (slice_index_or xs j d)) where
    key-kept : (b i : ℕ) → newest (in_key s library b) (take i (slice_set xs j y)) ≡ newest (in_key s library b) (take i xs)
    key-kept b i = go (dec_lt j i)
      where
        go : Dec (j < i) → newest (in_key s library b) (take i (slice_set xs j y)) ≡ newest (in_key s library b) (take i xs)
        go (yes h) =
            ap (newest (in_key s library b)) (take-set-lt i xs j y h)
            ∙ newest-set (in_key s library b) d (take i xs) j y (rw (k, get_or-take i xs j d h))
        go (no h) = ap (newest (in_key s library b)) (take-set-le i xs j y (omega arith))

    name-kept : (b i : ℕ) → newest (in_name s library b) (take i (slice_set xs j y)) ≡ newest (in_name s library b) (take i xs)
    name-kept b i = go (dec_lt j i)
      where
        go : Dec (j < i) → newest (in_name s library b) (take i (slice_set xs j y)) ≡ newest (in_name s library b) (take i xs)
        go (yes h) =
            ap (newest (in_name s library b)) (take-set-lt i xs j y h)
            ∙ newest-set (in_name s library b) d (take i xs) j y (rw (k, n, get_or-take i xs j d h))
        go (no h) = ap (newest (in_name s library b)) (take-set-le i xs j y (omega arith))

    after_kept : (x : A) (i : ℕ) → row_after s library (take i (slice_set xs j y)) x ≡ row_after s library (take i xs) x
    after_kept x i =
        ap (λ link. s.row x link (newest (in_name s library (bucket_of s library x)) (take i (slice_set xs j y)))) (key-kept (key_bucket (s.key x)) i)
        ∙ ap (s.row x (newest (in_key s library (key_bucket (s.key x))) (take i xs))) (name-kept (bucket_of s library x) i)

    pub linked-set : j < length xs → linked s library (slice_set xs j y) ≡ slice_set (linked s library xs) j (row_after s library (take j xs) y)
    linked-set h =
        ext_get_or r (linked s library (slice_set xs j y)) (slice_set (linked s library xs) j r)
        (long ∙ length-set xs j y ∙ sym (linked-length xs) ∙ sym (length-set (linked s library xs) j r))
        (λ i b. go i (omega (arith, b, long, length-set xs j y)) (i == j) refl)
      where
        r : R
        r = row_after s library (take j xs) y

        long : length (linked s library (slice_set xs j y)) ≡ length (slice_set xs j y)
        long = linked-length (slice_set xs j y)

        there : (i : ℕ) → i < length xs → slice_index_or (linked s library (slice_set xs j y)) i r ≡ row_after s library (take i xs) (slice_index_or (slice_set xs j y) i d)
        there i b = linked-at r d (slice_set xs j y) i (omega (arith, b, length-set xs j y)) ∙ after_kept (slice_index_or (slice_set xs j y) i d) i

        go : (i : ℕ) → i < length xs → (t : Bool) → (i == j) ≡ t → slice_index_or (linked s library (slice_set xs j y)) i r ≡ slice_index_or (slice_set (linked s library xs) j r) i r
        go i b true e =
            there i b
            ∙ rw (
              eqb-true i j e,
              get_or-set_same xs j y d h,
              get_or-set_same (linked s library xs) j r r (omega (arith, h, linked-length xs)),
            )
        go i b false e =
            there i b
            ∙ ap (row_after s library (take i xs)) (get_or-set_other xs j i y d (eqb-false i j e))
            ∙ sym (linked-at r d xs i b)
            ∙ sym (get_or-set_other (linked s library xs) j i r r (eqb-false i j e))
