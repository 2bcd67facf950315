-- ONE THING is taken into a table by a step that adds only things with a new key and name:
-- the cases of the code. Assumes nothing.
use Rattle.std.specs.Prelude.{◌≡◌, ℕ, ◌+◌, ◌≤◌, Bool, true, false, List, ◌++◌, length, ◌≢◌, refl}
use Rattle.std.proofs.Common.{sym, ap, subst, ◌∙◌}
use Rattle.lent.specs.Lists.{one, any}
use Rattle.tables.specs.declared.fill.Fill.{Fill}
use Rattle.tables.specs.fill.FilledRows.{one_more, put_more}
use Rattle.tables.specs.by_name.NewestLaws.{newest-none, none-newest}
use Rattle.tables.specs.by_name.Sheet.{Sheet, key_buckets, key_bucket, is_named, bucket_of}
use Rattle.tables.specs.by_name.Heads.{head_at, heads_with}
use Rattle.tables.specs.by_name.Tables.{followed, Table, table, row_by, Single, Tabled, Takes}
use Rattle.tables.specs.by_name.Readable.{Reads}
use Rattle.tables.specs.by_name.TableLaws.{table-over, table-found}
use Rattle.tables.specs.by_name.GrowLaws.{table-adds, table-lacks}
use Rattle.tables.specs.by_name.TakeLaws.{takes_one}

module _ {A R : Type 0} (s : Sheet A R) (library : List ℕ) (reads : Reads s) (step : List A → A → List A) (x : A) where
  -- nothing changes
  pub takes-nothing : {t : Table} → ((xs : List A) → step xs x ≡ xs) → Takes s library step (one x) t t
  takes-nothing {t} e = takes_one s library step x {t = t} {after = t} (λ xs h. subst (λ ys. Tabled s library ys t) (sym (e xs)) h)

  -- there are too many already
  pub takes-over : {t : Table} → t.fill.over ≡ true → ((xs : List A) → length xs ≤ length (step xs x)) → ((xs : List A) → Single s library xs → Single s library (step xs x))
      → Takes s library step (one x) t t
  takes-over {t} over more single =
      takes_one s library step x {t = t} {after = t} (λ xs h. table-over s library {xs = xs} {t = t} (step xs x) h over (more xs) (single xs h.single))

  -- the code's numbers: the bucket of its key and name, the head there, and what was found from that on
  module _ (m heads : List ℕ) (f : Fill) (room : f.over ≡ false) (shared alike found : ℕ) (bucketed : shared ≡ bucket_of s library x)
      (headed : alike ≡ head_at heads (key_buckets + shared)) (followed-by : found ≡ followed library s.layout.width m (s.key x) (s.name x) alike) where
    to-head : alike ≡ head_at heads (key_buckets + bucket_of s library x)
    to-head = headed ∙ ap (λ b. head_at heads (key_buckets + b)) bucketed

    pub found-is : found ≡ followed library s.layout.width m (s.key x) (s.name x) (head_at heads (key_buckets + bucket_of s library x))
    found-is = followed-by ∙ ap (followed library s.layout.width m (s.key x) (s.name x)) to-head

    abbrev like : A → Bool
    like y = is_named s library (s.key x) (s.name x) y

    none : found ≡ 0 → (xs : List A) → Tabled s library xs (table m heads f) → any like xs ≡ false
    none z xs h = none-newest like xs (sym (table-found s library reads xs {t = table m heads f} h room (s.key x) (s.name x)) ∙ sym found-is ∙ z)

    some : (found ≢ 0) → (xs : List A) → Tabled s library xs (table m heads f) → any like xs ≡ true
    some z xs h = go (any like xs) refl
      where
        go : (t : Bool) → any like xs ≡ t → t ≡ true
        go true e = refl
        go false e = absurd (z (found-is ∙ table-found s library reads xs {t = table m heads f} h room (s.key x) (s.name x) ∙ newest-none like xs e))

    -- its name stands there already, and nothing changes
    pub takes-known : (found ≢ 0) → ((xs : List A) → any like xs ≡ true → step xs x ≡ xs) → Takes s library step (one x) (table m heads f) (table m heads f)
    takes-known z e =
        takes_one s library step x {t = table m heads f} {after = table m heads f}
        (λ xs h. subst (λ ys. Tabled s library ys (table m heads f)) (sym (e xs (some z xs h))) h)

    -- it is new: there is room for its row, or there is none
    module _ (z : found ≡ 0) (adds : (xs : List A) → any like xs ≡ false → step xs x ≡ xs ++ one x) (link : ℕ) (Linked-to : link ≡ head_at heads (key_bucket (s.key x)))
        (m' heads' : List ℕ) (f' : Fill) (put : m' ≡ put_more s.layout f (s.row x link alike) m) (grown : f' ≡ one_more f s.layout.width (length m)) where
      put-row : m' ≡ put_more s.layout f (row_by s library heads x) m
      put-row = put ∙ ap (λ r. put_more s.layout f r m) (ap (λ l. s.row x l alike) Linked-to ∙ ap (s.row x (head_at heads (key_bucket (s.key x)))) to-head)

      pub takes-new : f'.over ≡ false → heads' ≡ heads_with heads (s.key x) shared f'.rows → Takes s library step (one x) (table m heads f) (table m' heads' f')
      takes-new fits set_to =
          takes_one s library step x {t = table m heads f} {after = table m' heads' f'}
          (λ xs h. rw (adds xs (none z xs h), put-row, set_to, bucketed, grown) (table-adds s library reads x {xs = xs} {t = table m heads f} h room (none z xs h) (ap (λ g. g.over) (sym grown) ∙ fits)))

      pub takes-lacks : f'.over ≡ true → heads' ≡ heads → Takes s library step (one x) (table m heads f) (table m' heads' f')
      takes-lacks lacks same =
          takes_one s library step x {t = table m heads f} {after = table m' heads' f'}
          (λ xs h. rw (adds xs (none z xs h), put-row, same, grown) (table-lacks s library reads x {xs = xs} {t = table m heads f} h room (none z xs h) (ap (λ g. g.over) (sym grown) ∙ lacks)))
