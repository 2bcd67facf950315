-- GOING OVER A BUCKET of keys: from its newest row back, each row's link leads to the next one, and what stands in between is in
-- other buckets. Assumes nothing.
use Rattle.std.specs.Prelude.{◌≡◌, ℕ, ◌+◌, ◌-◌, ◌<◌, ◌≤◌, Bool, true, false, List, [], ◌∷◌, ◌++◌, length, take, drop, slice_index_or, if◌then◌else◌}
use Rattle.std.proofs.Math.Path.{refl, sym, ap}
use Rattle.std.proofs.Common.{◌∙◌, arith, eqb-true, eq-eqb, take-append-drop, length-append, length-take-le, take-take, get_or-take}
use Rattle.std.proofs.lemmas.Bool.{false≢true}
use Rattle.std.proofs.lemmas.List.{drop-append-le}
use Rattle.std.proofs.Math.Seq.{drop-length}
use Rattle.lent.specs.Lists.{one, keep}
use Rattle.lent.specs.PartLaws.{drop-turn}
use Rattle.lent.specs.Rows.{row_at}
use Rattle.tables.specs.by_name.Newest.{newest_from, newest}
use Rattle.tables.specs.by_name.NewestLaws.{one_by_one, newest-room, newest-hit, newest-this, newest-before, newest-skip}
use Rattle.tables.specs.by_name.Sheet.{Sheet, key_buckets, key_bucket, in_key, in_name, bucket_of}
use Rattle.tables.specs.by_name.Heads.{head_at}
use Rattle.tables.specs.by_name.Tables.{Table, Headed, Tabled}
use Rattle.tables.specs.by_name.Readable.{Reads}
use Rattle.tables.specs.by_name.TableLaws.{table-row}

-- those that pass among two lists
pub keep-both : {A : Type 0} (q : A → Bool) (xs ys : List A) → keep q (xs ++ ys) ≡ keep q xs ++ keep q ys
unfolding keep
keep-both q [] ys = refl
keep-both q (x ∷ xs) ys = go (q x) (keep-both q xs ys)
  where
    go : (t : Bool) → keep q (xs ++ ys) ≡ keep q xs ++ keep q ys → (if t then x ∷ keep q (xs ++ ys) else keep q (xs ++ ys)) ≡ (if t then x ∷ keep q xs else keep q xs) ++ keep q ys
    go true e = ap (λ zs. x ∷ zs) e
    go false e = e

module _ {A : Type 0} (p q : A → Bool) (within : (x : A) → q x ≡ true → p x ≡ true) where
  passed-by : (x : A) → p x ≡ false → keep q (one x) ≡ []
  unfolding keep
  passed-by x e = go (q x) refl
    where
      go : (t : Bool) → q x ≡ t → (if t then one x else []) ≡ []
      go true f = absurd (false≢true (sym e ∙ within x f))
      go false f = refl

  -- none stands behind the newest
  pub none-behind : (xs : List A) → keep q (drop (newest p xs) xs) ≡ []
  unfolding keep newest_from
  none-behind xs = one_by_one (λ ys. keep q (drop (newest p ys) ys) ≡ []) refl step xs
    where
      step : (ys : List A) (y : A) → keep q (drop (newest p ys) ys) ≡ [] → keep q (drop (newest p (ys ++ one y)) (ys ++ one y)) ≡ []
      step ys y h = go (p y) refl
        where
          go : (t : Bool) → p y ≡ t → keep q (drop (newest p (ys ++ one y)) (ys ++ one y)) ≡ []
          go true e =
              let n : newest p (ys ++ one y) ≡ length (ys ++ one y) = newest-this p ys y e ∙ sym (length-append ys (one y)) in
              rw n (ap (keep q) (drop-length (ys ++ one y)))
          go false e =
              rw (newest-before p ys y e)
              (ap (keep q) (drop-append-le (newest p ys) ys (one y) (newest-room p ys))
              ∙ keep-both q (drop (newest p ys) ys) (one y)
              ∙ ap (λ zs. zs ++ keep q (one y)) h
              ∙ passed-by y e)

  -- nor between the newest of the first k and those behind them
  pub none_between : (k : ℕ) (xs : List A) → k ≤ length xs → keep q (drop (newest p (take k xs)) xs) ≡ keep q (drop k xs)
  none_between k xs h =
      let n = newest p (take k xs) in
      ap (λ zs. keep q (drop n zs)) (sym (take-append-drop k xs))
      ∙ ap (keep q) (drop-append-le n (take k xs) (drop k xs) (newest-room p (take k xs)))
      ∙ keep-both q (drop n (take k xs)) (drop k xs)
      ∙ ap (λ zs. zs ++ keep q (drop k xs)) (none-behind (take k xs))

-- a link that is 0, or leads to a row of the bucket
pub record Stands {A R : Type 0} (s : Sheet A R) (library : List ℕ) (xs : List A) (b here : ℕ) : Type 0 where
  pub inside : here ≤ length xs
  pub newest-there : here ≡ newest (in_key s library b) (take here xs)

module _ {A R : Type 0} (s : Sheet A R) (library : List ℕ) (xs : List A) (b : ℕ) where
  among_first : (k : ℕ) → k ≤ length xs → Stands s library xs b (newest (in_key s library b) (take k xs))
  among_first k h =
      let n = newest (in_key s library b) (take k xs) in
      let few : n ≤ k = omega (arith, newest-room (in_key s library b) (take k xs), length-take-le k xs h) in
      record {
        inside = omega (arith, few, h);
        newest-there = newest-skip (in_key s library b) (in_key s library b) (λ x e. e) (take k xs) ∙ ap (newest (in_key s library b)) (take-take n k xs few);
      }

  -- THE HEAD stands there, and nothing of the bucket behind it
  module _ (heads : List ℕ) (headed : Headed s library xs heads) (small : b < key_buckets) (here : ℕ) (is : here ≡ head_at heads b) where
    head-newest : here ≡ newest (in_key s library b) xs
    head-newest = is ∙ headed.by_key b small

    pub head-stands : Stands s library xs b here
    head-stands =
        record {
          inside = omega (arith, head-newest, newest-room (in_key s library b) xs);
          newest-there = head-newest ∙ newest-skip (in_key s library b) (in_key s library b) (λ x e. e) xs ∙ ap (λ n. newest (in_key s library b) (take n xs)) (sym head-newest);
        }

    pub head-last : (q : A → Bool) → ((x : A) → q x ≡ true → key_bucket (s.key x) ≡ b) → keep q (drop here xs) ≡ []
    head-last q within =
        ap (λ n. keep q (drop n xs)) head-newest
        ∙ none-behind (in_key s library b) q (λ x e. eq-eqb (key_bucket (s.key x)) b (within x e)) xs

  -- A LINK to a row: the row there, and where its link leads
  module _ (reads : Reads s) (d : A) {t : Table} (tabled : Tabled s library xs t) (room : t.fill.over ≡ false)
      (here : ℕ) (stands : Stands s library xs b here) (some : here ≡ 0 → ⊥) where
    abbrev this : A
    this = slice_index_or xs (here - 1) d

    abbrev pub link_of : ℕ
    link_of = newest (in_key s library b) (take (here - 1) xs)

    in-bucket : key_bucket (s.key this) ≡ b
    in-bucket =
        eqb-true (key_bucket (s.key this)) b
        (ap (in_key s library b) (sym (get_or-take here xs (here - 1) d (omega (arith, some))))
        ∙ newest-hit (in_key s library b) d (take here xs) here stands.newest-there some)

    pub row-there : row_at s.layout t.memory (here - 1) ≡ s.row this link_of (newest (in_name s library (bucket_of s library this)) (take (here - 1) xs))
    row-there =
        table-row s library reads d {t = t} tabled room (here - 1) (omega (arith, stands.inside, some))
        ∙ ap (λ k. s.row this (newest (in_key s library k) (take (here - 1) xs)) (newest (in_name s library (bucket_of s library this)) (take (here - 1) xs))) in-bucket

    pub link-less : link_of < here
    link-less = omega (arith, newest-room (in_key s library b) (take (here - 1) xs), length-take-le (here - 1) xs (omega (arith, stands.inside)), some)

    pub link-stands : Stands s library xs b link_of
    link-stands = among_first (here - 1) (omega (arith, stands.inside))

    pub link-passes : (q : A → Bool) → ((x : A) → q x ≡ true → key_bucket (s.key x) ≡ b) → keep q (drop link_of xs) ≡ keep q (this ∷ drop here xs)
    link-passes q within =
        let e : here - 1 + 1 ≡ here = omega (arith, some) in
        none_between (in_key s library b) q (λ x f. eq-eqb (key_bucket (s.key x)) b (within x f)) (here - 1) xs (omega (arith, stands.inside))
        ∙ ap (keep q) (drop-turn xs (here - 1) d (omega (arith, stands.inside, some)) ∙ ap (λ n. this ∷ drop n xs) e)
