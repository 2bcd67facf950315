-- Laws of lent memory. Assumes nothing.
use Rattle.std.specs.Prelude.{ℕ, suc, ◌+◌, ◌-◌, ◌*◌, ◌/◌, ◌≤◌, ◌<◌, ◌≡◌, refl, Bool, true, false, List, [], ◌∷◌, ◌++◌, eqb, length, get_or, set}
use Rattle.std.proofs.Common.{sym, ap, ◌∙◌, append_assoc, append-nil, suc-mul, mul-le-mul_right, le-div_iff_mul-le, arith, length-append}
use Rattle.std.proofs.Math.Path.{fun_ext}
use Rattle.std.proofs.Math.Decide.{dec_lt}
use Rattle.std.proofs.Math.Nat.{sub-zero}
use borrow.Author.Tests.{lt-ltb, le-ltb, le-leb, lt-leb}
use Rattle.std.proofs.lemmas.List.{length-replicate, set_at}
use Rattle.std.proofs.Math.ListN.{get_or-append, get_or-eq_default}
use Rattle.std.proofs.lemmas.List.Edits.{sets}
use Rattle.std.proofs.Math.Seq.{length-sets}
use Rattle.lent.specs.Lists.{one, joined}
use Rattle.lent.specs.ListLaws.{rows-length, joined_snoc, joined_at, sets-before, sets-in, sets-after}
use Rattle.lent.specs.Rows.{zeros, padded, flag, cell_of, put_row, Layout, row_at}

-- what fits leaves the memory as long as it was
pub padded-length : (room : ℕ) (xs : List ℕ) → length xs ≤ room → length (padded room xs) ≡ room
padded-length room xs h = simp (length-append, length-replicate) (omega arith)

-- rows that are not too many do
pub fitting-length : (lent xs : List ℕ) (width n : ℕ) → length xs ≡ n * width → (length lent < n * width → ⊥) → length (padded (length lent) xs) ≡ length lent
fitting-length lent xs width n e h = padded-length (length lent) xs (omega (arith, e, h))

-- cleared memory has nothing in it
pub padded-nil : (room : ℕ) → zeros room ≡ padded room []
padded-nil room = rw sub-zero

-- a store at the end of what was written, and a run of stores
pub padded-set : (room : ℕ) (xs : List ℕ) (v n : ℕ) → length xs ≡ n → n < room → set (padded room xs) n v ≡ padded room (xs ++ one v)
padded-set room xs v n e h =
    let l : length (xs ++ one v) ≡ length xs + 1 = length-append xs (one v) in
    let k : room - length xs ≡ suc (room - length (xs ++ one v)) = omega arith in
    rw k (set_at xs 0 (zeros (room - length (xs ++ one v))) v n e ∙ sym (append_assoc xs (one v) (zeros (room - length (xs ++ one v)))))

pub padded-sets : (room : ℕ) (row xs : List ℕ) (n : ℕ) → length xs ≡ n → n + length row ≤ room → sets (padded room xs) n row ≡ padded room (xs ++ row)
padded-sets room [] xs n e h = rw append-nil
padded-sets room (v ∷ row) xs n e h =
    let l : length (xs ++ one v) ≡ length xs + 1 = length-append xs (one v) in
    ap (λ m. sets m (suc n) row) (padded-set room xs v n e (omega arith))
    ∙ padded-sets room row (xs ++ one v) (suc n) (omega arith) (omega arith)
    ∙ ap (padded room) (append_assoc xs (one v) row)

-- row i is whole exactly if i is below the quotient
pub row_fits : (n width i : ℕ) → 0 < width → i < n / width → i * width + width ≤ n
row_fits n width i p h = omega (arith, suc-mul i width, (le-div_iff_mul-le p).0 h)

pub row-lacks : (n width i : ℕ) → 0 < width → n / width ≤ i → n < i * width + width
row-lacks n width i p h = go (dec_lt n (i * width + width))
  where
    go : Dec (n < i * width + width) → n < i * width + width
    go (yes l) = l
    go (no l) = absurd (omega (arith, h, (le-div_iff_mul-le {k = width} {x = suc i} {y = n} p).1 (omega (arith, l, suc-mul i width))))

-- what a cell holds, and what a put leaves, by cases
module _ (width : ℕ) (m : List ℕ) (i : ℕ) where
  pub cell-there : (j : ℕ) → i * width + width ≤ length m → j < width → cell_of width m i j ≡ get_or m (i * width + j) 0
  unfolding cell_of
  cell-there j h l = simp (le-leb _ _ h, lt-ltb _ _ l)

  pub cell-past : (j : ℕ) → width ≤ j → cell_of width m i j ≡ 0
  unfolding cell_of
  cell-past j l = go (dec_lt (length m) (i * width + width))
    where
      go : Dec (length m < i * width + width) → cell_of width m i j ≡ 0
      go (yes h) = simp (lt-leb _ _ h)
      go (no h) = simp (le-leb (i * width + width) (length m) (omega arith), le-ltb _ _ l)

  pub cell-lacks : (j : ℕ) → length m < i * width + width → cell_of width m i j ≡ 0
  unfolding cell_of
  cell-lacks j h = simp (lt-leb _ _ h)

  pub put-there : (cells : List ℕ) → i * width + width ≤ length m → put_row width m i cells ≡ sets m (i * width) cells
  unfolding put_row
  put-there cells h = simp (le-leb _ _ h)

  pub put-lacks : (cells : List ℕ) → length m < i * width + width → put_row width m i cells ≡ m
  unfolding put_row
  put-lacks cells h = simp (lt-leb _ _ h)

  pub put-length : (cells : List ℕ) → length (put_row width m i cells) ≡ length m
  put-length cells = go (dec_lt (length m) (i * width + width))
    where
      go : Dec (length m < i * width + width) → length (put_row width m i cells) ≡ length m
      go (yes h) = ap length (put-lacks cells h)
      go (no h) = ap length (put-there cells (omega arith)) ∙ length-sets m (i * width) cells

-- a row of no numbers
pub put-none : (m : List ℕ) (i : ℕ) (cells : List ℕ) → length cells ≡ 0 → m ≡ put_row (length cells) m i cells
unfolding put_row
put-none m i [] e = simp (le-leb (i * 0 + 0) (length m) (omega arith))
put-none m i (x ∷ cells) e = absurd (omega arith)

-- a row that was put is there
pub cell-put : (width : ℕ) (m : List ℕ) (i : ℕ) (cells : List ℕ) (j : ℕ) → length cells ≡ width → i * width + width ≤ length m
    → cell_of width (put_row width m i cells) i j ≡ get_or cells j 0
cell-put width m i cells j w h = go (dec_lt j width)
  where
    go : Dec (j < width) → cell_of width (put_row width m i cells) i j ≡ get_or cells j 0
    go (yes l) =
        cell-there width (put_row width m i cells) i j (omega (arith, put-length width m i cells)) l
        ∙ ap (λ xs. get_or xs (i * width + j) 0) (put-there width m i cells h)
        ∙ sets-in cells m (i * width) j (omega arith) (omega arith)
    go (no l) = cell-past width (put_row width m i cells) i j (omega arith) ∙ sym (get_or-eq_default cells 0 (omega arith))

-- every other row is as it was
pub cell_other : (width : ℕ) (m : List ℕ) (i k : ℕ) (cells : List ℕ) (j : ℕ) → length cells ≡ width → (k ≡ i → ⊥)
    → cell_of width (put_row width m i cells) k j ≡ cell_of width m k j
cell_other width m i k cells j w ne = go (dec_lt (length m) (i * width + width))
  where
    left : List ℕ
    left = put_row width m i cells

    long : length left ≡ length m
    long = put-length width m i cells

    same : i * width + width ≤ length m → Dec (k < i) → j < width → get_or (sets m (i * width) cells) (k * width + j) 0 ≡ get_or m (k * width + j) 0
    same h (yes b) l = sets-before cells m (i * width) (k * width + j) (omega (arith, suc-mul k width, mul-le-mul_right width b))
    same h (no b) l =
        let up : suc i ≤ k = omega (arith, ne, b) in
        sets-after cells m (i * width) (k * width + j) (omega (arith, suc-mul i width, mul-le-mul_right width up))

    within : i * width + width ≤ length m → Dec (length m < k * width + width) → Dec (j < width) → cell_of width left k j ≡ cell_of width m k j
    within h (yes b) d = cell-lacks width left k j (omega (arith, long)) ∙ sym (cell-lacks width m k j b)
    within h (no b) (no l) = cell-past width left k j (omega arith) ∙ sym (cell-past width m k j (omega arith))
    within h (no b) (yes l) =
        cell-there width left k j (omega (arith, long)) l
        ∙ ap (λ xs. get_or xs (k * width + j) 0) (put-there width m i cells h)
        ∙ same h (dec_lt k i) l
        ∙ sym (cell-there width m k j (omega arith) l)

    go : Dec (length m < i * width + width) → cell_of width (put_row width m i cells) k j ≡ cell_of width m k j
    go (yes h) = ap (λ xs. cell_of width xs k j) (put-lacks width m i cells h)
    go (no h) = within (omega arith) (dec_lt (length m) (k * width + width)) (dec_lt j width)

-- a flag says what it was made of
pub flag-back : (b : Bool) → eqb (flag b) 1 ≡ b
flag-back true = refl
flag-back false = refl

-- a kind of row: each of its rows is as many numbers as its width says
abbrev pub Wide : {R : Type 0} → Layout R → Type 0
Wide {R} l = (r : R) → length (l.cells r) ≡ l.width

-- a row is read back from its own numbers
abbrev pub Back : {R : Type 0} → Layout R → R → Type 0
Back l r = l.read (λ j. get_or (l.cells r) j 0) ≡ r

module _ {R : Type 0} (l : Layout R) (wide : Wide l) where
  pub get-put : (m : List ℕ) (i : ℕ) (r : R) → i * l.width + l.width ≤ length m → Back l r → row_at l (put_row l.width m i (l.cells r)) i ≡ r
  get-put m i r h back = ap l.read (fun_ext (λ j. cell-put l.width m i (l.cells r) j (wide r) h)) ∙ back

  pub get_other : (m : List ℕ) (i k : ℕ) (r : R) → (k ≡ i → ⊥) → row_at l (put_row l.width m i (l.cells r)) k ≡ row_at l m k
  get_other m i k r ne = ap l.read (fun_ext (λ j. cell_other l.width m i k (l.cells r) j (wide r) ne))

  -- memory that was filled with rows from the front on: one more, and what is read of it
  pub append-row : (room : ℕ) (rows : List R) (r : R) → length rows * l.width + l.width ≤ room
      → put_row l.width (padded room (joined l.cells rows)) (length rows) (l.cells r) ≡ padded room (joined l.cells (rows ++ one r))
  append-row room rows r h =
      let n : length (joined l.cells rows) ≡ length rows * l.width = rows-length l.width l.cells wide rows in
      put-there l.width (padded room (joined l.cells rows)) (length rows) (l.cells r)
      (omega (arith, padded-length room (joined l.cells rows) (omega arith)))
      ∙ padded-sets room (l.cells r) (joined l.cells rows) (length rows * l.width) n (omega (arith, wide r))
      ∙ ap (padded room) (sym (joined_snoc l.cells rows r))

  pub cell-filled : (room : ℕ) (rows : List R) (d : R) (i j : ℕ) → length rows * l.width ≤ room → i < length rows
      → cell_of l.width (padded room (joined l.cells rows)) i j ≡ get_or (l.cells (get_or rows i d)) j 0
  cell-filled room rows d i j h b = go (dec_lt j l.width)
    where
      m : List ℕ
      m = padded room (joined l.cells rows)

      n : length (joined l.cells rows) ≡ length rows * l.width
      n = rows-length l.width l.cells wide rows

      below : i * l.width + l.width ≤ length rows * l.width
      below = omega (arith, suc-mul i l.width, mul-le-mul_right l.width b)

      go : Dec (j < l.width) → cell_of l.width m i j ≡ get_or (l.cells (get_or rows i d)) j 0
      go (yes k) =
          cell-there l.width m i j (omega (arith, below, padded-length room (joined l.cells rows) (omega (arith, n)))) k
          ∙ get_or-append (joined l.cells rows) (zeros (room - length (joined l.cells rows))) 0 (i * l.width + j) (omega (arith, below, n))
          ∙ joined_at l.width l.cells wide d rows i j b k
      go (no k) = cell-past l.width m i j (omega arith) ∙ sym (get_or-eq_default (l.cells (get_or rows i d)) 0 (omega (arith, wide (get_or rows i d))))

  pub get-filled : (room : ℕ) (rows : List R) (d : R) (i : ℕ) → length rows * l.width ≤ room → i < length rows → Back l (get_or rows i d)
      → row_at l (padded room (joined l.cells rows)) i ≡ get_or rows i d
  get-filled room rows d i h b back = ap l.read (fun_ext (λ j. cell-filled room rows d i j h b)) ∙ back
