-- A BANK'S VIEW OF WHAT IS WITHHELD: the view of a board's cells is that of the bank's bytes under the stretches that are cut. Assumes nothing.
use Rattle.std.specs.Prelude.{ℕ, zero, suc, ◌+◌, ◌-◌, ◌*◌, ◌≤◌, ◌<◌, min, ◌≡◌, drop, set}
use Rattle.std.proofs.Math.Path.{refl, sym, ap, subst}
use Rattle.std.proofs.Common.{◌∙◌, arith, lt-ltb, le-ltb, le-leb, length-set, take-append-drop, ext_get_or, take_at, drop_at, drop-cons, drop-drop, length-take-le}
use mathlib.Core.List.{List, [], ◌∷◌, ◌++◌, map, append_assoc}
use Rattle.std.proofs.Math.Decide.{dec_lt}
use Rattle.std.proofs.lemmas.Bool.{lt-leb}
use Rattle.std.proofs.Math.ListN.{length, get_or, take, length-append, length-drop, get_or-append}
use Rattle.std.proofs.lemmas.List.Edits.{sets-eq}
use Rattle.std.proofs.Math.Seq.{get_or-take, get_or-drop, get_or-append-add}
use Rattle.lent.specs.Lists.{any}
use Rattle.image.specs.declared.Stretch.{Stretch}
use Rattle.image.specs.View.{in_one, within, stretches_in, view, cell_at}
use Rattle.image.proofs.ViewLaws.{view-length, view-cell}
use Rattle.bank_rules.specs.Banks.{bank_start, Has, bank_cells}
use Rattle.image.specs.declared.cover.Stretches.{Stretches}
use Rattle.image.specs.Cover.{cover_of}
use Rattle.bank_rules.specs.Cut.{place, cut_one, cut_numbers, cut_stretches}

-- a place in the view stands for one of the file: of the common part, or of the bank
pub record Stands (k x i : ℕ) : Type 0 where
  pub below : i < 65536
  pub common : i < 32768 → x ≡ i
  pub bank : 32768 ≤ i → x ≡ i + 32768 * k

-- from a place on, up to another
before-end : (i from up_to : ℕ) → from ≤ i → i < up_to → i < from + (up_to - from)
before-end i from up_to a b = omega (arith, a, b)

behind-end : (i from up_to : ℕ) → from ≤ i → up_to ≤ i → from + (up_to - from) ≤ i
behind-end i from up_to a b = omega (arith, a, b)

module _ (k x i : ℕ) (h : Stands k x i) where
  -- up to such a place as many bytes of the view lie as of the file that it shows
  place-at-most : (y : ℕ) → y ≤ x → place k y ≤ i
  place-at-most y l = go (dec_lt i 32768)
    where
      go : Dec (i < 32768) → place k y ≤ i
      go (yes c) = omega (arith, h.common c)
      go (no c) = omega (arith, h.bank (omega arith))

  place-above : (y : ℕ) → x < y → i < place k y
  place-above y l = go (dec_lt i 32768)
    where
      go : Dec (i < 32768) → i < place k y
      go (yes c) = omega (arith, h.common c)
      go (no c) = omega (arith, h.bank (omega arith), h.below)

  -- so it lies in a stretch of the file exactly if it lies in what is cut of it
  one_same : (s : Stretch) → in_one (cut_one k s) i ≡ in_one s x
  one_same s = go (dec_lt x s.start) (dec_lt x (s.start + s.len))
    where
      from : ℕ
      from = place k s.start

      up_to : ℕ
      up_to = place k (s.start + s.len)

      go : Dec (x < s.start) → Dec (x < s.start + s.len) → in_one (cut_one k s) i ≡ in_one s x
      go (yes l) d = rw (lt-leb from i (place-above s.start l), lt-leb s.start x l) refl
      go (no l) (yes d) =
          let a = place-at-most s.start (omega arith) in
          let e = before-end i from up_to a (place-above (s.start + s.len) d) in
          rw (le-leb from i a, le-leb s.start x (omega arith), lt-ltb i (from + (up_to - from)) e, lt-ltb x (s.start + s.len) d) refl
      go (no l) (no d) =
          let a = place-at-most s.start (omega arith) in
          let e = behind-end i from up_to a (place-at-most (s.start + s.len) (omega arith)) in
          rw (le-leb from i a, le-leb s.start x (omega arith), le-ltb i (from + (up_to - from)) e, le-ltb x (s.start + s.len) (omega arith)) refl

  pub within_same : (cover : List Stretch) → within (map (cut_one k) cover) i ≡ within cover x
  unfolding any
  within_same [] = refl
  within_same (s ∷ rest) = rw (one_same s, within_same rest) refl

-- what is shown of the file grows with it
pub place-grows : (k x y : ℕ) → x ≤ y → place k x ≤ place k y
place-grows k x y l = both (min x 32768) (min y 32768) (min (x - bank_start k) 32768) (min (y - bank_start k) 32768) (less x y l) (less (x - bank_start k) (y - bank_start k) (omega (arith, l)))
  where
    less : (x y : ℕ) → x ≤ y → min x 32768 ≤ min y 32768
    less x y h = omega (arith, h)

    both : (a b c d : ℕ) → a ≤ b → c ≤ d → a + c ≤ b + d
    both a b c d h g = omega (arith, h, g)

-- the numbers of a cover, cut
cut-stretches : (k : ℕ) (xs : List ℕ) → stretches_in (cut_numbers k xs) ≡ map (cut_one k) (stretches_in xs)
unfolding stretches_in cut_numbers
cut-stretches k [] = refl
cut-stretches k (start ∷ []) = refl
cut-stretches k (start ∷ len ∷ rest) = ap (λ r. record { start = place k start; len = place k (start + len) - place k start } ∷ r) (cut-stretches k rest)

-- the first n pairs are cut each by itself
twice : ℕ → ℕ
twice zero = zero
twice (suc n) = suc (suc (twice n))

twice-is : (n : ℕ) → 2 * n ≡ twice n
unfolding twice
twice-is zero = refl
twice-is (suc n) = omega (arith, twice-is n)

cut-first : (k n : ℕ) (xs : List ℕ) → take (twice n) (cut_numbers k xs) ≡ cut_numbers k (take (twice n) xs)
unfolding cut_numbers twice
cut-first k zero xs = refl
cut-first k (suc n) [] = refl
cut-first k (suc n) (start ∷ []) = refl
cut-first k (suc n) (start ∷ len ∷ rest) = ap (λ r. place k start ∷ (place k (start + len) - place k start) ∷ r) (cut-first k n rest)

pub cut-cover : (k : ℕ) (w : Stretches) → cover_of (cut_stretches k w) ≡ map (cut_one k) (cover_of w)
cut-cover k w =
    let n = min w.count 16 in
    ap (λ m. stretches_in (take m (cut_numbers k w.pairs))) (twice-is n)
    ∙ ap stretches_in (cut-first k n w.pairs)
    ∙ cut-stretches k (take (twice n) w.pairs)
    ∙ ap (λ m. map (cut_one k) (stretches_in (take m w.pairs))) (sym (twice-is n))

-- how the list changes in place: what was cut, and what is left
cut-two : (k : ℕ) (xs : List ℕ) (i : ℕ) → i + 1 < length xs
    → cut_numbers k (drop i xs) ≡ place k (get_or xs i 0) ∷ (place k (get_or xs i 0 + get_or xs (i + 1) 0) - place k (get_or xs i 0)) ∷ cut_numbers k (drop (i + 2) xs)
unfolding cut_numbers
cut-two k xs i h =
    let next : suc i ≡ i + 1 = omega arith in
    let after : suc (i + 1) ≡ i + 2 = omega arith in
    let there = drop-cons xs (i + 1) 0 h ∙ ap (λ n. get_or xs (i + 1) 0 ∷ drop n xs) after in
    ap (cut_numbers k) (drop-cons xs i 0 (omega arith) ∙ ap (λ n. get_or xs i 0 ∷ drop n xs) next ∙ ap (λ r. get_or xs i 0 ∷ r) there)

module _ (k : ℕ) (xs : List ℕ) where
  pub record Cutting (now : List ℕ) (i : ℕ) : Type 0 where
    pub within : i ≤ length xs
    pub long : length now ≡ length xs
    pub cut : take i now ++ cut_numbers k (drop i xs) ≡ cut_numbers k xs
    pub left : drop i now ≡ drop i xs

  pub cutting-starts : Cutting xs 0
  cutting-starts = record { within = omega arith; long = refl; cut = refl; left = refl }

  pub cutting-on : {now : List ℕ} {i : ℕ} → i + 1 < length xs → Cutting now i → (first last : ℕ) → first ≡ place k (get_or now i 0)
      → last ≡ place k (get_or now i 0 + get_or now (i + 1) 0) → Cutting (set (set now i first) (i + 1) (last - first)) (i + 2)
  cutting-on {now} {i} h c first last e f = record {
    within = omega arith;
    long = length-set (set now i first) (i + 1) (last - first) ∙ length-set now i first ∙ c.long;
    cut = ap (λ l. take (i + 2) l ++ cut_numbers k (drop (i + 2) xs)) both
        ∙ ap (λ l. l ++ cut_numbers k (drop (i + 2) xs)) (take_at front (drop (i + 2) now) (i + 2) front_long)
        ∙ append_assoc (take i now) (first ∷ (last - first) ∷ []) (cut_numbers k (drop (i + 2) xs))
        ∙ ap (λ l. take i now ++ l) (sym turn)
        ∙ c.cut;
    left = ap (drop (i + 2)) both ∙ drop_at front (drop (i + 2) now) (i + 2) front_long ∙ sym (drop-drop 2 i now) ∙ ap (drop 2) c.left ∙ drop-drop 2 i xs;
  }
    where
      front : List ℕ
      front = take i now ++ first ∷ (last - first) ∷ []

      front_long : length front ≡ i + 2
      front_long = length-append (take i now) (first ∷ (last - first) ∷ []) ∙ ap (λ n. n + 2) (length-take-le i now (omega (arith, c.long)))

      both : set (set now i first) (i + 1) (last - first) ≡ front ++ drop (i + 2) now
      both = let next : i + 1 ≡ suc i = omega arith in ap (λ n. set (set now i first) n (last - first)) next ∙ sets-eq (first ∷ (last - first) ∷ []) now i (omega (arith, c.long))

      here : (j : ℕ) → get_or now (i + j) 0 ≡ get_or xs (i + j) 0
      here j = sym (get_or-drop i now j 0) ∙ ap (λ l. get_or l j 0) c.left ∙ get_or-drop i xs j 0

      start_is : get_or now i 0 ≡ get_or xs i 0
      start_is = ap (λ n. get_or now n 0) (omega arith) ∙ here 0 ∙ ap (λ n. get_or xs n 0) (omega arith)

      turn : cut_numbers k (drop i xs) ≡ first ∷ (last - first) ∷ cut_numbers k (drop (i + 2) xs)
      turn = cut-two k xs i h ∙ rw (e, f, start_is, here 1) refl

  -- by the place of the second number of a pair
  pub cutting-next : {now : List ℕ} {i : ℕ} → 1 ≤ i → i < length xs → Cutting now (i - 1) → (first last : ℕ) → first ≡ place k (get_or now (i - 1) 0)
      → last ≡ place k (get_or now (i - 1) 0 + get_or now i 0) → Cutting (set (set now (i - 1) first) i (last - first)) (i + 2 - 1)
  cutting-next {now} {i} a h c first last e f =
      let back : i - 1 + 1 ≡ i = omega (arith, a) in
      let on : i - 1 + 2 ≡ i + 2 - 1 = omega (arith, a) in
      subst (λ m. Cutting (set (set now (i - 1) first) m (last - first)) (i + 2 - 1)) back
      (subst (λ m. Cutting (set (set now (i - 1) first) (i - 1 + 1) (last - first)) m) on
      (cutting-on {now = now} {i = i - 1} (omega (arith, a, h)) c first last e (f ∙ ap (λ m. place k (get_or now (i - 1) 0 + get_or now m 0)) (sym back))))

  pub cutting-ends : {now : List ℕ} {i : ℕ} → length xs ≤ i + 1 → Cutting now i → now ≡ cut_numbers k xs
  unfolding cut_numbers
  cutting-ends {now} {i} h c = sym (take-append-drop i now) ∙ ap (λ l. take i now ++ l) (c.left ∙ sym (short (drop i xs) (omega (arith, length-drop i xs)))) ∙ c.cut
    where
      short : (l : List ℕ) → length l ≤ 1 → cut_numbers k l ≡ l
      short [] s = refl
      short (x ∷ []) s = refl
      short (x ∷ y ∷ l) s = absurd (omega arith)

-- every place of the view stands for one of the file
stands_at : (k i : ℕ) → i < 65536 → (x : ℕ) × Stands k x i
stands_at k i h = go (dec_lt i 32768)
  where
    go : Dec (i < 32768) → (x : ℕ) × Stands k x i
    go (yes c) = (i, record { below = h; common = λ _. refl; bank = λ l. absurd (omega arith) })
    go (no c) = (i + 32768 * k, record { below = h; common = λ l. absurd (omega arith); bank = λ _. refl })

-- a board has bank k
module _ (k : ℕ) where
  pub bank-length : (cells : List ℕ) → Has k cells → length (take 32768 (drop (bank_start k) cells)) ≡ 32768
  bank-length cells h = length-take-le 32768 (drop (bank_start k) cells) (omega (arith, h, length-drop (bank_start k) cells))

  pub common-length : (cells : List ℕ) → Has k cells → length (take 32768 cells) ≡ 32768
  common-length cells h = length-take-le 32768 cells (omega (arith, h))

  pub cells-length : (cells : List ℕ) → Has k cells → length (bank_cells k cells) ≡ 65536
  unfolding bank_cells
  cells-length cells h =
      omega (arith, length-append (take 32768 cells) (take 32768 (drop (bank_start k) cells)), common-length cells h, bank-length cells h)

  cell-at : (cells : List ℕ) → Has k cells → (x i : ℕ) → Stands k x i → get_or (bank_cells k cells) i 0 ≡ get_or cells x 0
  unfolding bank_cells
  cell-at cells h x i at = go (dec_lt i 32768)
    where
      go : Dec (i < 32768) → get_or (take 32768 cells ++ take 32768 (drop (bank_start k) cells)) i 0 ≡ get_or cells x 0
      go (yes c) =
          get_or-append (take 32768 cells) (take 32768 (drop (bank_start k) cells)) 0 i (omega (arith, common-length cells h, c))
          ∙ get_or-take 32768 cells i 0 c ∙ ap (λ n. get_or cells n 0) (sym (at.common c))
      go (no c) =
          ap (λ n. get_or (take 32768 cells ++ take 32768 (drop (bank_start k) cells)) n 0) (omega (arith, common-length cells h))
          ∙ get_or-append-add (take 32768 cells) (take 32768 (drop (bank_start k) cells)) (i - 32768) 0
          ∙ get_or-take 32768 (drop (bank_start k) cells) (i - 32768) 0 (omega (arith, at.below))
          ∙ get_or-drop (bank_start k) cells (i - 32768) 0
          ∙ ap (λ n. get_or cells n 0) (omega (arith, at.bank (omega arith)))

  pub bank-view : (file : List ℕ) (cover : List Stretch) → Has k file → bank_cells k (view file cover) ≡ view (bank_cells k file) (map (cut_one k) cover)
  bank-view file cover h =
      ext_get_or 0 (bank_cells k (view file cover)) (view (bank_cells k file) (map (cut_one k) cover))
      (cells-length (view file cover) seen-long ∙ sym (view-length (bank_cells k file) (map (cut_one k) cover) ∙ cells-length file h))
      (λ i l. let z = cells-length (view file cover) seen-long in cell i (omega (arith, l, z)) (stands_at k i (omega (arith, l, z))))
    where
      seen-long : Has k (view file cover)
      seen-long = omega (arith, h, view-length file cover)

      cell : (i : ℕ) → i < 65536 → (x : ℕ) × Stands k x i → cell_at (bank_cells k (view file cover)) i ≡ cell_at (view (bank_cells k file) (map (cut_one k) cover)) i
      cell i l (x, at) =
          cell-at (view file cover) seen-long x i at
          ∙ view-cell file cover x (there (dec_lt i 32768))
          ∙ sym (view-cell (bank_cells k file) (map (cut_one k) cover) i (omega (arith, l, cells-length file h)) ∙ rw (within_same k x i at cover, cell-at file h x i at) refl)
        where
          there : Dec (i < 32768) → x < length file
          there (yes c) = omega (arith, at.common c, h)
          there (no c) = omega (arith, at.bank (omega arith), h, l)
