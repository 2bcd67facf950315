-- What a table of named things says: its rows, and which of them a link finds. Assumes nothing.
use Rattle.std.specs.Prelude.{◌≡◌, ℕ, zero, suc, ◌+◌, ◌-◌, ◌*◌, ◌<◌, ◌≤◌, Bool, true, false, not, List, [], ◌∷◌, ◌++◌, length, take, ◌==◌, slice_index, slice_index_or, refl}
use Rattle.std.proofs.Math.Path.{sym, ap, fun_ext}
use Rattle.std.proofs.Common.{◌∙◌, mul-le-mul_right, arith, eqb-true, eq-eqb, ne_eqb, length-take-le, take-suc, take-take, take_all, get_or-take}
use Rattle.std.proofs.lemmas.Bool.{false≢true, eqb-false}
use Rattle.lent.specs.declared.part.Part.{Part}
use Rattle.lent.specs.Lists.{joined, one, any}
use Rattle.lent.specs.Parts.{bytes_of}
use Rattle.lent.specs.Rows.{zeros, padded, cell_of, row_at}
use Rattle.lent.specs.RowLaws.{cell-filled}
use Rattle.tables.specs.fill.FilledRowLaws.{none_filled}
use Rattle.tables.specs.by_name.Newest.{newest_from, newest}
use Rattle.tables.specs.by_name.NewestLaws.{newest-room, newest-hit, newest-skip, newest-this, newest-before, newest-none, none-newest}
use Rattle.tables.specs.by_name.Sheet.{Sheet, key_buckets, name_bucket, is_named, in_name, bucket_of, row_after, linked_from, linked}
use Rattle.tables.specs.by_name.SheetLaws.{linked-length, linked-at}
use Rattle.tables.specs.by_name.NamedLaws.{bucket-small, named-bucket}
use Rattle.tables.specs.by_name.Heads.{head_at, Blank}
use Rattle.tables.specs.by_name.HeadLaws.{head-none}
use Rattle.tables.specs.by_name.Tables.{row_is, followed_for, followed, Table, Single, Tabled}
use Rattle.tables.specs.by_name.FollowLaws.{follow-none, follow-hit, follow-on}
use Rattle.tables.specs.by_name.Readable.{Reads}

module _ {A R : Type 0} (s : Sheet A R) (library : List ℕ) where
  -- ALL OF THEM: while there is room memory has the rows and then zeros; else there are too many
  pub table_done : {xs : List A} {t : Table} → Tabled s library xs t → t.fill.over ≡ false
      → (t.memory ≡ padded (length t.memory) (joined s.layout.cells (linked s library xs)))
      × (t.fill.rows ≡ length xs)
      × (length xs * s.layout.width ≤ length t.memory)
  table_done {xs} {t} tabled room =
      let h = tabled.filling.fits room in
      (h.memory, h.number ∙ linked-length s library xs, rw (← linked-length s library xs) h.room)

  pub table-full : {xs : List A} {t : Table} → Tabled s library xs t → t.fill.over ≡ true → length t.memory < length xs * s.layout.width
  table-full {xs} {t} tabled over = rw (← linked-length s library xs) (tabled.filling.over over)

  -- once there are too many, more are too many as well
  pub table-over : {xs : List A} {t : Table} (ys : List A) → Tabled s library xs t → t.fill.over ≡ true → length xs ≤ length ys → Single s library ys
      → Tabled s library ys t
  table-over {xs} {t} ys tabled over more single = record {
    filling = record {
      fits = λ e. absurd (false≢true (sym e ∙ over));
      over = λ e.
          rw (linked-length s library ys)
          (omega (arith, table-full {xs = xs} {t = t} tabled over, mul-le-mul_right s.layout.width more));
    };
    headed = λ e. absurd (false≢true (sym e ∙ over));
    room = tabled.room;
    fits = tabled.fits;
    single = single;
  }

  -- none yet: memory and heads are zeros
  pub table-starts : (memory heads : List ℕ) → memory ≡ zeros (length memory) → Blank (length memory) heads
      → Tabled s library [] (record { memory = memory; heads = heads; fill = record { rows = 0; over = false } })
  unfolding newest_from linked_from Single
  table-starts memory heads z blank = record {
    filling = none_filled s.layout memory z;
    headed = λ e. record { by_key = λ b h. head-none heads b (blank.clear b); by_name = λ b h. head-none heads (key_buckets + b) (blank.clear (key_buckets + b)) };
    room = blank.room;
    fits = blank.fits;
    single = tt;
  }

module _ {A R : Type 0} (s : Sheet A R) (library : List ℕ) (reads : Reads s) where
  -- ONE ROW of a table that has room, number by number and as a whole
  module _ (d : A) {xs : List A} {t : Table} (tabled : Tabled s library xs t) (room : t.fill.over ≡ false) where
    table-cell : (j i : ℕ) → j < length xs
        → cell_of s.layout.width t.memory j i ≡ slice_index (s.layout.cells (row_after s library (take j xs) (slice_index_or xs j d))) i
    table-cell j i h =
        let holds = tabled.filling.fits room in
        let r = s.row d 0 0 in
        ap (λ m. cell_of s.layout.width m j i) holds.memory
        ∙ cell-filled s.layout reads.wide (length t.memory) (linked s library xs) r j i holds.room (omega (arith, h, linked-length s library xs))
        ∙ ap (λ row. slice_index (s.layout.cells row) i) (linked-at s library r d xs j h)

    pub table-row : (j : ℕ) → j < length xs → row_at s.layout t.memory j ≡ row_after s library (take j xs) (slice_index_or xs j d)
    table-row j h = ap s.layout.read (fun_ext (λ i. table-cell j i h)) ∙ reads.back (row_after s library (take j xs) (slice_index_or xs j d))

    module _ (key : ℕ) (name : Part) where
      row_named : (j : ℕ) → j < length xs → row_is library s.layout.width t.memory key name j ≡ is_named s library key name (slice_index_or xs j d)
      row_named j h = rw (table-cell j 0 h, table-cell j 1 h, table-cell j 2 h, reads.keyed, reads.placed, reads.long)

      row-leads : (j : ℕ) → j < length xs
          → cell_of s.layout.width t.memory j (s.layout.width - 1) ≡ newest (in_name s library (bucket_of s library (slice_index_or xs j d))) (take j xs)
      row-leads j h = rw (table-cell j (s.layout.width - 1) h, reads.leads)

      abbrev bucket : ℕ
      bucket = name_bucket key (bytes_of library name)

      -- the newest of the first n with this key and name is found from the newest of the first n in their bucket
      abbrev Finds : ℕ → ℕ → ℕ → Type 0
      Finds fuel link n =
          followed_for library s.layout.width t.memory key name fuel link ≡ newest (is_named s library key name) (take n xs)

      skipped : (link n : ℕ) → link ≡ newest (in_name s library bucket) (take n xs)
          → newest (is_named s library key name) (take n xs) ≡ newest (is_named s library key name) (take link (take n xs))
      skipped link n e =
          newest-skip (in_name s library bucket) (is_named s library key name) (λ x q. named-bucket s library key name x q) (take n xs)
          ∙ ap (λ k. newest (is_named s library key name) (take k (take n xs))) (sym e)

      finds-none : (fuel link n : ℕ) → link ≡ newest (in_name s library bucket) (take n xs) → link ≡ 0 → Finds fuel link n
      unfolding newest_from
      finds-none fuel link n e z =
          follow-none library s.layout.width t.memory key name fuel link z
          ∙ sym (skipped link n e ∙ ap (λ k. newest (is_named s library key name) (take k (take n xs))) z)

      module _ (fuel link n : ℕ) (within : n ≤ length xs) (e : link ≡ newest (in_name s library bucket) (take n xs)) (z : link ≡ 0 → ⊥) where
        link-room : link ≤ n
        link-room = omega (arith, e, newest-room (in_name s library bucket) (take n xs), length-take-le n xs within)

        -- the first link of them leads to the last of so many
        onward : newest (is_named s library key name) (take n xs) ≡ newest (is_named s library key name) (take (link - 1) xs ++ one (slice_index_or xs (link - 1) d))
        onward =
            let same : suc (link - 1) ≡ link = omega (arith, z) in
            skipped link n e
            ∙ ap (newest (is_named s library key name))
            (take-take link n xs link-room ∙ ap (λ k. take k xs) (sym same) ∙ take-suc xs (link - 1) d (omega (arith, link-room, within, z)))

        short : length (take (link - 1) xs) ≡ link - 1
        short = length-take-le (link - 1) xs (omega (arith, link-room, within))

        inside : link - 1 < length xs
        inside = omega (arith, link-room, within, z)

        finds-hit : link ≤ fuel → is_named s library key name (slice_index_or xs (link - 1) d) ≡ true → Finds fuel link n
        finds-hit enough q =
            follow-hit library s.layout.width t.memory key name fuel link z enough (row_named (link - 1) inside ∙ q)
            ∙ sym (onward ∙ newest-this (is_named s library key name) (take (link - 1) xs) (slice_index_or xs (link - 1) d) q ∙ omega (arith, short, z))

        leads : cell_of s.layout.width t.memory (link - 1) (s.layout.width - 1) ≡ newest (in_name s library bucket) (take (link - 1) xs)
        leads =
            let there = newest-hit (in_name s library bucket) d (take n xs) link e z in
            row-leads (link - 1) inside
            ∙ ap (λ b. newest (in_name s library b) (take (link - 1) xs))
            (ap (bucket_of s library) (sym (get_or-take n xs (link - 1) d (omega (arith, link-room, z))))
            ∙ eqb-true (bucket_of s library (slice_index_or (take n xs) (link - 1) d)) bucket there)

        less : cell_of s.layout.width t.memory (link - 1) (s.layout.width - 1) < link
        less = omega (arith, leads, newest-room (in_name s library bucket) (take (link - 1) xs), short, z)

        finds-on : link ≤ suc fuel → is_named s library key name (slice_index_or xs (link - 1) d) ≡ false
            → Finds fuel (cell_of s.layout.width t.memory (link - 1) (s.layout.width - 1)) (link - 1) → Finds (suc fuel) link n
        finds-on enough q rest =
            let same : suc fuel - 1 ≡ fuel = omega arith in
            follow-on library s.layout.width t.memory key name (suc fuel) link z enough (row_named (link - 1) inside ∙ q) less
            ∙ ap (λ k. followed_for library s.layout.width t.memory key name k (cell_of s.layout.width t.memory (link - 1) (s.layout.width - 1))) same
            ∙ rest
            ∙ sym (onward ∙ newest-before (is_named s library key name) (take (link - 1) xs) (slice_index_or xs (link - 1) d) q)

      finds : (fuel link n : ℕ) → n ≤ length xs → link ≡ newest (in_name s library bucket) (take n xs) → link ≤ fuel → Finds fuel link n
      finds zero link n within e enough = finds-none 0 link n e (omega arith)
      finds (suc fuel) link n within e enough = go (link == 0) refl (is_named s library key name (slice_index_or xs (link - 1) d)) refl (finds fuel)
        where
          next : ℕ
          next = cell_of s.layout.width t.memory (link - 1) (s.layout.width - 1)

          go : (a : Bool) → (link == 0) ≡ a → (b : Bool) → is_named s library key name (slice_index_or xs (link - 1) d) ≡ b
              → ((k n : ℕ) → n ≤ length xs → k ≡ newest (in_name s library bucket) (take n xs) → k ≤ fuel → Finds fuel k n) → Finds (suc fuel) link n
          go true p b q rest = finds-none (suc fuel) link n e (eqb-true link 0 p)
          go false p true q rest = finds-hit (suc fuel) link n within e (eqb-false link 0 p) enough q
          go false p false q rest =
              let z = eqb-false link 0 p in
              finds-on fuel link n within e z enough q
              (rest next (link - 1) (omega (arith, link-room fuel link n within e z, within)) (leads fuel link n within e z)
              (omega (arith, less fuel link n within e z, enough)))

      found : followed library s.layout.width t.memory key name (head_at t.heads (key_buckets + bucket)) ≡ newest (is_named s library key name) xs
      found =
          let head = (tabled.headed room).by_name bucket (bucket-small key (bytes_of library name)) in
          let all = take_all (length xs) xs (omega arith) in
          finds (head_at t.heads (key_buckets + bucket)) (head_at t.heads (key_buckets + bucket)) (length xs) (omega arith)
          (head ∙ ap (newest (in_name s library bucket)) (sym all)) (omega arith)
          ∙ ap (newest (is_named s library key name)) all

  -- THE WAY from the head of their bucket finds the newest with a key and a name
  pub table-found : (xs : List A) {t : Table} → Tabled s library xs t → t.fill.over ≡ false → (key : ℕ) (name : Part)
      → followed library s.layout.width t.memory key name (head_at t.heads (key_buckets + name_bucket key (bytes_of library name)))
      ≡ newest (is_named s library key name) xs
  unfolding newest_from
  table-found [] {t} tabled room key name =
      let head = (tabled.headed room).by_name (name_bucket key (bytes_of library name)) (bucket-small key (bytes_of library name)) in
      follow-none library s.layout.width t.memory key name (head_at t.heads (key_buckets + name_bucket key (bytes_of library name)))
      (head_at t.heads (key_buckets + name_bucket key (bytes_of library name))) head
  table-found (x ∷ xs) {t} tabled room key name = found x {xs = x ∷ xs} {t = t} tabled room key name

-- THE ANSWER: something has this key and name exactly if the way from their bucket's head finds a row
pub found-any : {A R : Type 0} (s : Sheet A R) (library : List ℕ) (reads : Reads s) (xs : List A) {t : Table} → Tabled s library xs t → t.fill.over ≡ false → (key : ℕ) (name : Part)
    → any (is_named s library key name) xs ≡ not (followed library s.layout.width t.memory key name (head_at t.heads (key_buckets + name_bucket key (bytes_of library name))) == 0)
found-any s library reads xs {t} tabled room key name = go (any (is_named s library key name) xs) refl
  where
    link : ℕ
    link = followed library s.layout.width t.memory key name (head_at t.heads (key_buckets + name_bucket key (bytes_of library name)))

    is : link ≡ newest (is_named s library key name) xs
    is = table-found s library reads xs {t = t} tabled room key name

    go : (b : Bool) → any (is_named s library key name) xs ≡ b → b ≡ not (link == 0)
    go false e = ap not (sym (eq-eqb link 0 (is ∙ newest-none (is_named s library key name) xs e)))
    go true e = ap not (sym (ne_eqb link 0 (λ z. false≢true (sym (none-newest (is_named s library key name) xs (sym is ∙ z)) ∙ e))))
