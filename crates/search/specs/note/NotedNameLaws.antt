-- What noting a name does to the rows: it adds one at most, and no name twice at a target. Assumes nothing.
use Rattle.std.specs.Prelude.{◌≡◌, ℕ, ◌+◌, ◌-◌, ◌<◌, ◌≤◌, Bool, true, false, ◌&&◌, ◌||◌, List, [], ◌∷◌, ◌++◌, map, length, slice_index_or, slice_set, if◌then◌else◌}
use Rattle.std.proofs.Math.Path.{refl}
use Rattle.std.proofs.Common.{sym, ap, subst, ◌∙◌, arith}
use Rattle.std.proofs.Math.ListN.{length-append, length-map}
use Rattle.lent.specs.Lists.{one}
use Rattle.lent.specs.Rows.{put_row}
use Rattle.tables.specs.declared.fill.Fill.{Fill}
use Rattle.tables.specs.by_name.Newest.{newest}
use Rattle.tables.specs.by_name.NewestLaws.{newest-room, newest-hit, newest-none}
use Rattle.tables.specs.by_name.Sheet.{key_buckets, is_named, bucket_of}
use Rattle.tables.specs.by_name.Heads.{head_at}
use Rattle.tables.specs.by_name.Tables.{followed, table, Single, Tabled, Takes}
use Rattle.tables.specs.by_name.SingleLaws.{single_more, single-map, named-changed}
use Rattle.tables.specs.by_name.TableLaws.{table-found}
use Rattle.tables.specs.by_name.GrowLaws.{table-changed}
use Rattle.tables.specs.by_name.TakeLaws.{takes_one}
use Rattle.search_rules.specs.Search.{Noting, notes_it, is_noted, also_noted, note}
use Rattle.search_rules.specs.SearchRows.{noted_sheet, noted_cells}
use Rattle.search_rules.specs.SearchLayouts.{noted_at}
use Rattle.search_rules.proofs.FindableLaws.{noted-reads}
use Rattle.search.specs.note.NotedNames.{validated}

module _ (library : List ℕ) (new : Noting) where
  pub note-known : (rows : List Noting) → is_noted library rows new.target new.name ≡ true → note library rows new ≡ map (also_noted library new) rows
  unfolding note
  note-known rows e = rw e

  pub note-new : (rows : List Noting) → is_noted library rows new.target new.name ≡ false → note library rows new ≡ rows ++ one new
  unfolding note
  note-new rows e = rw e

  pub note-grows : (rows : List Noting) → length rows ≤ length (note library rows new)
  unfolding note
  note-grows rows = go (is_noted library rows new.target new.name)
    where
      go : (t : Bool) → length rows ≤ length (if t then map (also_noted library new) rows else rows ++ one new)
      go true = omega (arith, length-map rows (also_noted library new))
      go false = omega (arith, length-append rows (one new))

  pub note-single : (rows : List Noting) → Single noted_sheet library rows → Single noted_sheet library (note library rows new)
  unfolding note
  note-single rows h = go (is_noted library rows new.target new.name) refl
    where
      go : (known : Bool) → is_noted library rows new.target new.name ≡ known → Single noted_sheet library (if known then map (also_noted library new) rows else rows ++ one new)
      go true e = single-map noted_sheet library (also_noted library new) (λ x. refl) (λ x. refl) rows h
      go false e = single_more noted_sheet library rows new h e

  -- a match that is not valid leaves a noted name as it was
  pub note-invalid : new.valid ≡ false → (rows : List Noting) → is_noted library rows new.target new.name ≡ true → note library rows new ≡ rows
  note-invalid v rows e = note-known rows e ∙ all rows
    where
      stays : (a b : Bool) → (a || (b && new.valid)) ≡ a
      stays true b = refl
      stays false true = v
      stays false false = refl

      same : (r : Noting) → also_noted library new r ≡ r
      same r = ap (λ t. record { target = r.target; name = r.name; valid = t }) (stays r.valid (notes_it library new.target new.name r))

      all : (xs : List Noting) → map (also_noted library new) xs ≡ xs
      all [] = refl
      all (x ∷ xs) = rw (same x, all xs) refl

  -- one that is makes it valid: the row that is found is changed, and no other
  module _ (m heads : List ℕ) (f : Fill) (room : f.over ≡ false) (found : ℕ)
      (is : found ≡ followed library 6 m new.target new.name (head_at heads (key_buckets + bucket_of noted_sheet library new))) (z : found ≡ 0 → ⊥) (v : new.valid ≡ true) where
    also_kept : (r : Noting) → is_named noted_sheet library new.target new.name r ≡ false → also_noted library new r ≡ r
    also_kept r e = ap (λ t. record { target = r.target; name = r.name; valid = t }) (stays r.valid (notes_it library new.target new.name r) e)
      where
        stays : (a b : Bool) → b ≡ false → (a || (b && new.valid)) ≡ a
        stays true b q = refl
        stays false b q = rw q

    also-valid : (r : Noting) → is_named noted_sheet library new.target new.name r ≡ true → also_noted library new r ≡ record { target = r.target; name = r.name; valid = true }
    also-valid r e = ap (λ t. record { target = r.target; name = r.name; valid = t }) (valid r.valid (notes_it library new.target new.name r) e)
      where
        valid : (a b : Bool) → b ≡ true → (a || (b && new.valid)) ≡ true
        valid true b q = refl
        valid false b q = rw (q, v)

    changed : (xs : List Noting) → Tabled noted_sheet library xs (table m heads f)
        → Tabled noted_sheet library (note library xs new) (table (put_row 6 m (found - 1) (noted_cells (validated (noted_at m (found - 1))))) heads f)
    changed xs h =
        let test = is_named noted_sheet library new.target new.name in
        let e : found ≡ newest test xs = is ∙ table-found noted_sheet library noted-reads xs {t = table m heads f} h room new.target new.name in
        let d : Noting = new in
        let old : Noting = slice_index_or xs (found - 1) d in
        let hit : test old ≡ true = newest-hit test d xs found e z in
        let inside : found - 1 < length xs = omega (arith, e, z, newest-room test xs) in
        subst
        (λ ys. Tabled noted_sheet library ys (table (put_row 6 m (found - 1) (noted_cells (validated (noted_at m (found - 1))))) heads f))
        (ap (slice_set xs (found - 1)) (sym (also-valid old hit)) ∙ sym (named-changed noted_sheet library d xs new.target new.name h.single found e z (also_noted library new) also_kept) ∙ sym (note-known xs (known xs e)))
        (table-changed noted_sheet library noted-reads d {xs = xs} {t = table m heads f} h room (found - 1) inside (record { target = old.target; name = old.name; valid = true }) refl refl validated (λ link alike. refl))
      where
        known : (xs : List Noting) → found ≡ newest (is_named noted_sheet library new.target new.name) xs → is_noted library xs new.target new.name ≡ true
        known xs e = go (is_noted library xs new.target new.name) refl
          where
            go : (t : Bool) → is_noted library xs new.target new.name ≡ t → t ≡ true
            go true q = refl
            go false q = absurd (z (e ∙ newest-none (is_named noted_sheet library new.target new.name) xs q))

    pub takes-valid : (m' : List ℕ) → m' ≡ put_row 6 m (found - 1) (noted_cells (validated (noted_at m (found - 1)))) → Takes noted_sheet library (note library) (one new) (table m heads f) (table m' heads f)
    takes-valid m' e = takes_one noted_sheet library (note library) new {t = table m heads f} {after = table m' heads f} (λ xs h. rw e (changed xs h))
