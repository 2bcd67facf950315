-- A table of named things, after one more thing came, and after one thing was changed. Assumes nothing.
use Rattle.std.specs.Prelude.{◌≡◌, ℕ, suc, ◌+◌, ◌-◌, ◌*◌, ◌<◌, ◌≤◌, Bool, true, false, List, [], ◌∷◌, ◌++◌, length, take, drop, ◌==◌, slice_index_or, slice_set, refl}
use Rattle.std.proofs.Math.Path.{sym, ap}
use Rattle.std.proofs.Common.{subst, ◌∙◌, append_assoc, mul-le-mul_left, lt_of_le_of_lt, arith, eqb-true, length-append, length-set, length-take-le}
use Rattle.std.proofs.lemmas.Bool.{false≢true, eqb-false}
use Rattle.std.proofs.Math.Nat.{suc-mul, mul-le-mul_right}
use Rattle.std.proofs.lemmas.List.{set_at, set_split}
use Rattle.std.proofs.Math.Seq.{sets, split_at}
use Rattle.lent.specs.Lists.{one, any, joined}
use Rattle.lent.specs.ListLaws.{rows-length, joined-append}
use Rattle.lent.specs.Parts.{bytes_of}
use Rattle.lent.specs.Rows.{zeros, padded, put_row, Layout, row_at}
use Rattle.lent.specs.RowLaws.{Wide, padded-length, put-there, put-length}
use Rattle.tables.specs.declared.fill.Fill.{Fill}
use Rattle.tables.specs.fill.FilledRows.{Filling, Holds, one_more, put_more}
use Rattle.tables.specs.fill.FilledRowLaws.{filled_more, put-more-length}
use Rattle.tables.specs.by_name.Newest.{newest}
use Rattle.tables.specs.by_name.NewestLaws.{newest-this, newest-before, newest-set}
use Rattle.tables.specs.by_name.Sheet.{Sheet, key_buckets, name_buckets, key_bucket, name_bucket, is_named, in_key, bucket_of, in_name, row_after, linked}
use Rattle.tables.specs.by_name.SheetLaws.{linked-length, linked-more, linked-set}
use Rattle.tables.specs.by_name.NamedLaws.{bucket-small}
use Rattle.tables.specs.by_name.Heads.{head_count, head_at, head_set, heads_with, head_limit}
use Rattle.tables.specs.by_name.HeadLaws.{head-length, head-same, head-other}
use Rattle.tables.specs.by_name.Tables.{Table, Headed, row_by, Tabled}
use Rattle.tables.specs.by_name.SingleLaws.{single_more, single-set}
use Rattle.tables.specs.by_name.Readable.{Reads}
use Rattle.tables.specs.by_name.TableLaws.{table-row}

-- numbers in the midst of others
sets-mid : (v front old rest : List ℕ) (n : ℕ) → length front ≡ n → length old ≡ length v → sets (front ++ (old ++ rest)) n v ≡ front ++ (v ++ rest)
sets-mid [] front [] rest n e f = refl
sets-mid [] front (c ∷ old) rest n e f = absurd (omega arith)
sets-mid (x ∷ v) front [] rest n e f = absurd (omega arith)
sets-mid (x ∷ v) front (c ∷ old) rest n e f =
    ap (λ m. sets m (suc n) v) (set_at front c (old ++ rest) x n e ∙ sym (append_assoc front (one x) (old ++ rest)))
    ∙ sets-mid v (front ++ one x) old rest (suc n) (omega (arith, length-append front (one x), e)) (omega arith)
    ∙ append_assoc front (one x) (v ++ rest)

-- a row put over one of those that memory was filled with
module _ {R : Type 0} (l : Layout R) (wide : Wide l) where
  pub put-over : (room : ℕ) (rows : List R) (d : R) (j : ℕ) (r : R) → length rows * l.width ≤ room → j < length rows
      → put_row l.width (padded room (joined l.cells rows)) j (l.cells r) ≡ padded room (joined l.cells (slice_set rows j r))
  unfolding joined
  put-over room rows d j r h b =
      put-there l.width (padded room (joined l.cells rows)) j (l.cells r)
      (omega (arith, suc-mul j l.width, mul-le-mul_right l.width b, padded-length room (joined l.cells rows) (omega (arith, long rows, h)), h))
      ∙ ap (λ xs. sets xs (j * l.width) (l.cells r)) (ap (λ xs. xs ++ rest) before ∙ apart (l.cells (slice_index_or rows j d)))
      ∙ sets-mid (l.cells r) front (l.cells (slice_index_or rows j d)) (behind ++ rest) (j * l.width) short (wide (slice_index_or rows j d) ∙ sym (wide r))
      ∙ sym (ap (λ xs. xs ++ rest) after ∙ apart (l.cells r))
      ∙ ap (λ n. joined l.cells (slice_set rows j r) ++ zeros (room - n)) (long rows ∙ ap (λ n. n * l.width) (sym (length-set rows j r)) ∙ sym (long (slice_set rows j r)))
    where
      front : List ℕ
      front = joined l.cells (take j rows)

      behind : List ℕ
      behind = joined l.cells (drop (suc j) rows)

      rest : List ℕ
      rest = zeros (room - length (joined l.cells rows))

      long : (xs : List R) → length (joined l.cells xs) ≡ length xs * l.width
      long xs = rows-length l.width l.cells wide xs

      short : length front ≡ j * l.width
      short = long (take j rows) ∙ ap (λ n. n * l.width) (length-take-le j rows (omega arith))

      before : joined l.cells rows ≡ front ++ (l.cells (slice_index_or rows j d) ++ behind)
      before = ap (joined l.cells) (split_at rows j d b) ∙ joined-append l.cells (take j rows) (slice_index_or rows j d ∷ drop (suc j) rows)

      after : joined l.cells (slice_set rows j r) ≡ front ++ (l.cells r ++ behind)
      after = ap (joined l.cells) (set_split rows j r b) ∙ joined-append l.cells (take j rows) (r ∷ drop (suc j) rows)

      apart : (mid : List ℕ) → (front ++ (mid ++ behind)) ++ rest ≡ front ++ (mid ++ (behind ++ rest))
      apart mid = append_assoc front (mid ++ behind) rest ∙ ap (λ xs. front ++ xs) (append_assoc mid behind rest)

module _ {A R : Type 0} (s : Sheet A R) (library : List ℕ) where
  -- the heads of a thing's buckets lead to it, and no others change
  headed-more : (xs : List A) (x : A) (heads : List ℕ) (n : ℕ) → n ≡ length xs + 1 → head_count ≤ length heads → n < head_limit (length heads) → Headed s library xs heads
      → Headed s library (xs ++ one x) (heads_with heads (s.key x) (bucket_of s library x) n)
  headed-more xs x heads n e room fits h = record { by_key = by_key; by_name = by_name }
    where
      k : ℕ
      k = key_bucket (s.key x)

      small : bucket_of s library x < name_buckets
      small = bucket-small (s.key x) (bytes_of library (s.name x))

      mid : List ℕ
      mid = head_set heads k n

      long : length mid ≡ length heads
      long = head-length heads k n

      by_key : (b : ℕ) → b < key_buckets → head_at (head_set mid (key_buckets + bucket_of s library x) n) b ≡ newest (in_key s library b) (xs ++ one x)
      by_key b l = head-other mid (key_buckets + bucket_of s library x) n (omega (arith, small)) b (omega arith) (λ q. omega (arith, q, l)) ∙ go (k == b) refl
        where
          go : (t : Bool) → (k == b) ≡ t → head_at mid b ≡ newest (in_key s library b) (xs ++ one x)
          go true q =
              ap (head_at mid) (sym (eqb-true k b q))
              ∙ head-same heads k n (omega arith) room fits
              ∙ e
              ∙ sym (newest-this (in_key s library b) xs x q)
          go false q =
              head-other heads k n (omega arith) b (omega arith) (eqb-false k b q)
              ∙ h.by_key b l
              ∙ sym (newest-before (in_key s library b) xs x q)

      by_name : (b : ℕ) → b < name_buckets → head_at (head_set mid (key_buckets + bucket_of s library x) n) (key_buckets + b) ≡ newest (in_name s library b) (xs ++ one x)
      by_name b l = go (bucket_of s library x == b) refl
        where
          go : (t : Bool) → (bucket_of s library x == b) ≡ t
              → head_at (head_set mid (key_buckets + bucket_of s library x) n) (key_buckets + b) ≡ newest (in_name s library b) (xs ++ one x)
          go true q =
              ap (λ i. head_at (head_set mid (key_buckets + bucket_of s library x) n) (key_buckets + i)) (sym (eqb-true (bucket_of s library x) b q))
              ∙ head-same mid (key_buckets + bucket_of s library x) n (omega (arith, small)) (omega (arith, long, room)) (rw long fits)
              ∙ e
              ∙ sym (newest-this (in_name s library b) xs x q)
          go false q =
              let ne = eqb-false (bucket_of s library x) b q in
              head-other mid (key_buckets + bucket_of s library x) n (omega (arith, small)) (key_buckets + b) (omega (arith, l)) (λ z. ne (omega (arith, z)))
              ∙ head-other heads k n (omega arith) (key_buckets + b) (omega (arith, l)) (λ z. omega (arith, z))
              ∙ h.by_name b l
              ∙ sym (newest-before (in_name s library b) xs x q)

module _ {A R : Type 0} (s : Sheet A R) (library : List ℕ) (reads : Reads s) where
  -- ONE MORE, with a key and a name that none has: the table has its row, or is too small
  module _ (x : A) {xs : List A} {t : Table} (tabled : Tabled s library xs t) (room : t.fill.over ≡ false)
      (fresh : any (is_named s library (s.key x) (s.name x)) xs ≡ false) where
    abbrev grown : Fill
    grown = one_more t.fill s.layout.width (length t.memory)

    right : row_by s library t.heads x ≡ row_after s library xs x
    right =
        let h = tabled.headed room in
        ap (λ link. s.row x link (head_at t.heads (key_buckets + bucket_of s library x))) (h.by_key (key_bucket (s.key x)) (omega arith))
        ∙ ap (s.row x (newest (in_key s library (key_bucket (s.key x))) xs)) (h.by_name (bucket_of s library x) (bucket-small (s.key x) (bytes_of library (s.name x))))

    filled : Filling s.layout (linked s library (xs ++ one x)) (put_more s.layout t.fill (row_by s library t.heads x) t.memory) grown
    filled =
        subst (λ rows. Filling s.layout rows (put_more s.layout t.fill (row_by s library t.heads x) t.memory) grown)
        (ap (λ r. linked s library xs ++ one r) right ∙ sym (linked-more s library xs x))
        (filled_more s.layout reads.wide (λ z. omega (arith, z, reads.some)) (linked s library xs) t.memory t.fill (row_by s library t.heads x) tabled.filling)

    pub table-adds : grown.over ≡ false
        → Tabled s library (xs ++ one x) (record {
          memory = put_more s.layout t.fill (row_by s library t.heads x) t.memory;
          heads = heads_with t.heads (s.key x) (bucket_of s library x) grown.rows;
          fill = grown;
        })
    table-adds fits = record {
      filling = filled;
      headed = λ e. headed-more s library xs x t.heads grown.rows number tabled.room below (tabled.headed room);
      room = omega (arith, tabled.room, long);
      fits = rw (long, same) tabled.fits;
      single = single_more s library xs x tabled.single fresh;
    }
      where
        number : grown.rows ≡ length xs + 1
        number = (filled.fits fits).number ∙ linked-length s library (xs ++ one x) ∙ length-append xs (one x)

        same : length (put_more s.layout t.fill (row_by s library t.heads x) t.memory) ≡ length t.memory
        same = put-more-length s.layout t.fill (row_by s library t.heads x) t.memory

        long : length (heads_with t.heads (s.key x) (bucket_of s library x) grown.rows) ≡ length t.heads
        long =
            head-length (head_set t.heads (key_bucket (s.key x)) grown.rows) (key_buckets + bucket_of s library x) grown.rows
            ∙ head-length t.heads (key_bucket (s.key x)) grown.rows

        -- a row takes more than one number, so that the number of a row is below the memory's length
        below : grown.rows < head_limit (length t.heads)
        below =
            let rows = linked s library (xs ++ one x) in
            lt_of_le_of_lt (omega (arith, (filled.fits fits).number, (filled.fits fits).room, same, mul-le-mul_left (length rows) reads.some)) tabled.fits

    pub table-lacks : grown.over ≡ true
        → Tabled s library (xs ++ one x) (record {
          memory = put_more s.layout t.fill (row_by s library t.heads x) t.memory;
          heads = t.heads;
          fill = grown;
        })
    table-lacks over = record {
      filling = filled;
      headed = λ e. absurd (false≢true (sym e ∙ over));
      room = tabled.room;
      fits = rw (put-more-length s.layout t.fill (row_by s library t.heads x) t.memory) tabled.fits;
      single = single_more s library xs x tabled.single fresh;
    }

  -- ONE CHANGED that keeps its key and name: its row is put over the old one
  pub table-put : (d : A) {xs : List A} {t : Table} → Tabled s library xs t → t.fill.over ≡ false → (j : ℕ) → j < length xs → (y : A)
      → s.key y ≡ s.key (slice_index_or xs j d) → s.name y ≡ s.name (slice_index_or xs j d)
      → Tabled s library (slice_set xs j y) (record {
        memory = put_row s.layout.width t.memory j (s.layout.cells (row_after s library (take j xs) y));
        heads = t.heads;
        fill = t.fill;
      })
  table-put d {xs} {t} tabled room j h y k n = record {
    filling = record {
      fits = λ e. record {
        number = holds.number ∙ linked-length s library xs ∙ sym (length-set xs j y) ∙ sym (linked-length s library (slice_set xs j y));
        room = omega (arith, holds.room, ap (λ i. i * s.layout.width) same, long);
        memory = there;
      };
      over = λ e. absurd (false≢true (sym room ∙ e));
    };
    headed = λ e. record {
      by_key = λ b l. (tabled.headed room).by_key b l ∙ sym (newest-set (in_key s library b) d xs j y (rw k));
      by_name = λ b l. (tabled.headed room).by_name b l ∙ sym (newest-set (in_name s library b) d xs j y (rw (k, n)));
    };
    room = tabled.room;
    fits = rw long tabled.fits;
    single = single-set s library d xs j y k n tabled.single;
  }
    where
      holds : Holds s.layout (linked s library xs) t.memory t.fill
      holds = tabled.filling.fits room

      r : R
      r = row_after s library (take j xs) y

      left : List ℕ
      left = put_row s.layout.width t.memory j (s.layout.cells r)

      long : length left ≡ length t.memory
      long = put-length s.layout.width t.memory j (s.layout.cells r)

      same : length (linked s library (slice_set xs j y)) ≡ length (linked s library xs)
      same = linked-length s library (slice_set xs j y) ∙ length-set xs j y ∙ sym (linked-length s library xs)

      there : left ≡ padded (length left) (joined s.layout.cells (linked s library (slice_set xs j y)))
      there =
          ap (λ m. put_row s.layout.width m j (s.layout.cells r)) holds.memory
          ∙ put-over s.layout reads.wide (length t.memory) (linked s library xs) r j r holds.room (omega (arith, h, linked-length s library xs))
          ∙ ap (λ rows. padded (length t.memory) (joined s.layout.cells rows)) (sym (linked-set s library d xs j y k n h))
          ∙ ap (λ len. padded len (joined s.layout.cells (linked s library (slice_set xs j y)))) (sym long)

  -- the same of a row that is read, changed and put again
  pub table-changed : (d : A) {xs : List A} {t : Table} → Tabled s library xs t → t.fill.over ≡ false → (j : ℕ) → j < length xs → (y : A)
      → s.key y ≡ s.key (slice_index_or xs j d) → s.name y ≡ s.name (slice_index_or xs j d)
      → (change : R → R) → ((link alike : ℕ) → change (s.row (slice_index_or xs j d) link alike) ≡ s.row y link alike)
      → Tabled s library (slice_set xs j y) (record {
        memory = put_row s.layout.width t.memory j (s.layout.cells (change (row_at s.layout t.memory j)));
        heads = t.heads;
        fill = t.fill;
      })
  table-changed d {xs} {t} tabled room j h y k n change e =
      subst
      (λ r. Tabled s library (slice_set xs j y) (record { memory = put_row s.layout.width t.memory j (s.layout.cells r); heads = t.heads; fill = t.fill }))
      (sym (ap change (table-row s library reads d {xs = xs} {t = t} tabled room j h) ∙ e _ _ ∙ alike))
      (table-put d {xs = xs} {t = t} tabled room j h y k n)
    where
      x : A
      x = slice_index_or xs j d

      -- its links are those of the old row
      alike : s.row y (newest (in_key s library (key_bucket (s.key x))) (take j xs)) (newest (in_name s library (bucket_of s library x)) (take j xs))
          ≡ row_after s library (take j xs) y
      alike =
          ap (λ q. s.row y (newest (in_key s library (key_bucket q)) (take j xs)) (newest (in_name s library (name_bucket q (bytes_of library (s.name x)))) (take j xs))) (sym k)
          ∙ ap (λ q. s.row y (newest (in_key s library (key_bucket (s.key y))) (take j xs)) (newest (in_name s library (name_bucket (s.key y) (bytes_of library q))) (take j xs))) (sym n)
