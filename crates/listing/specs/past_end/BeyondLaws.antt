-- What is left to list from a target on. Assumes nothing.
use Prim.Native.Nat.{ℕ, zero, suc, ◌+◌, ◌-◌, ◌<◌, ◌≤◌}
use Rattle.std.specs.Prelude.{◌≡◌, Bool, not, ◌&&◌, length, get_or, if◌then◌else◌}
use Rattle.std.proofs.Math.Path.{refl, sym, ap}
use Rattle.std.proofs.Common.{◌∙◌, eqb-true}
use Rattle.std.proofs.Math.Bool.{true, false}
use mathlib.Core.List.{List, [], ◌++◌, append_assoc, map, map-append}
use native.Mathlib.Omega.{arith}
use Rattle.std.proofs.Math.Dec.{eqb, leb}
use Rattle.lent.specs.Lists.{keep, joined, from, sorted}
use Rattle.tables.specs.declared.fill.Fill.{Fill}
use Rattle.tables.specs.by_name.Tables.{table, Tabled}
use Rattle.tables.specs.by_name.TableLaws.{table-row}
use Rattle.search_rules.specs.Search.{Noting}
use Rattle.search_rules.specs.SearchRows.{noted_sheet}
use Rattle.search_rules.proofs.FindableLaws.{noted-reads}
use Rattle.listing_rules.specs.Listing.{SkipAmount, noted_line, crowded, is_leftover, leftovers}
use Rattle.listing_rules.specs.declared.Line.{Line}
use Rattle.listing_rules.specs.FrontLines.{LeadsTo}
use Rattle.listing_rules.proofs.FrontLineLaws.{leads-first, leads-on, leads-same, leads-last, leads-over}
use Rattle.listing.specs.past_end.SortLaws.{keep_same, keep-none, by_key, at, ordered, ordered-turn, ordered-skip, ordered-none}
use Rattle.listing.specs.past_end.Beyond.{target_at, sought, lines_of, spanned, NonePast, NoneBefore, ListsSpan, ListsBeyond}
use Rattle.listing.specs.past_end.BucketLaws.{no_noting}

abbrev goal : Noting → ℕ
goal n = n.target

module _ (skip : SkipAmount) (ns : List Noting) where
  -- a valid name of a target that is not left out
  abbrev listed : Noting → Bool
  listed n = n.valid && not (crowded skip (length (keep (λ q. eqb q.target n.target) ns)))

  abbrev pub left : ℕ → List Line
  left b = map noted_line (ordered goal listed b ns)

  -- all are left at the end
  pub left-all : (end : ℕ) → leftovers end skip ns ≡ left end
  unfolding leftovers
  left-all end =
      ap (λ xs. map noted_line (sorted (by_key goal) xs))
      (keep_same (is_leftover end skip ns) (λ n. leb end n.target && listed n) no_noting ns (λ k h. each (get_or ns k no_noting)))
    where
      apart : (a b c : Bool) → (a && b && c) ≡ (a && (b && c))
      apart true b c = refl
      apart false b c = refl

      each : (n : Noting) → is_leftover end skip ns n ≡ (leb end n.target && listed n)
      each n = apart (leb end n.target) n.valid (not (crowded skip (length (keep (λ q. eqb q.target n.target) ns))))

  -- those of one target
  all-sought : (t : ℕ) → keep (sought t true) ns ≡ keep (λ q. eqb q.target t) ns
  all-sought t = keep_same (sought t true) (λ q. eqb q.target t) no_noting ns (λ k h. go (eqb (get_or ns k no_noting).target t))
    where
      go : (u : Bool) → (u && true) ≡ u
      go true = refl
      go false = refl

  at_target : (t : ℕ) → map noted_line (keep (at goal listed t) ns) ≡ lines_of skip ns t
  unfolding lines_of
  at_target t = go (crowded skip (length (keep (sought t true) ns))) refl
    where
      -- what the skip test says of one that is there
      said : (n : Noting) → eqb n.target t ≡ true → crowded skip (length (keep (λ q. eqb q.target n.target) ns)) ≡ crowded skip (length (keep (sought t true) ns))
      said n e =
          ap (λ k. crowded skip (length (keep (λ q. eqb q.target k) ns))) (eqb-true n.target t e)
          ∙ ap (λ xs. crowded skip (length xs)) (sym (all-sought t))

      none : crowded skip (length (keep (sought t true) ns)) ≡ true → (n : Noting) → at goal listed t n ≡ false
      none c n = pick (eqb n.target t) refl
        where
          pick : (u : Bool) → eqb n.target t ≡ u → at goal listed t n ≡ false
          pick true e = rw (e, said n e ∙ c) (no n.valid)
            where
              no : (b : Bool) → (b && false) ≡ false
              no true = refl
              no false = refl
          pick false e = rw e

      some : crowded skip (length (keep (sought t true) ns)) ≡ false → (n : Noting) → at goal listed t n ≡ sought t false n
      some c n = pick (eqb n.target t) refl
        where
          pick : (u : Bool) → eqb n.target t ≡ u → at goal listed t n ≡ sought t false n
          pick true e = rw (e, said n e ∙ c) (no n.valid)
            where
              no : (b : Bool) → (b && true) ≡ b
              no true = refl
              no false = refl
          pick false e = rw e

      go : (u : Bool) → crowded skip (length (keep (sought t true) ns)) ≡ u
          → map noted_line (keep (at goal listed t) ns) ≡ (if u then [] else map noted_line (keep (sought t false) ns))
      go true c = ap (map noted_line) (keep-none (at goal listed t) no_noting ns (λ k h. none c (get_or ns k no_noting)))
      go false c = ap (map noted_line) (keep_same (at goal listed t) (sought t false) no_noting ns (λ k h. some c (get_or ns k no_noting)))

  left-turn : (b : ℕ) → left b ≡ lines_of skip ns b ++ left (b + 1)
  left-turn b =
      ap (map noted_line) (ordered-turn goal listed b ns)
      ∙ map-append noted_line (keep (at goal listed b) ns) (ordered goal listed (b + 1) ns)
      ∙ ap (λ ls. ls ++ left (b + 1)) (at_target b)

  -- one target after another
  left-turns : (k b : ℕ) → left b ≡ joined (lines_of skip ns) (from b k) ++ left (b + k)
  unfolding joined from
  left-turns zero b = let e : b + 0 ≡ b = omega arith in rw e refl
  left-turns (suc k) b =
      let e : b + 1 + k ≡ b + suc k = omega arith in
      left-turn b
      ∙ ap (λ ls. lines_of skip ns b ++ ls) (left-turns k (b + 1) ∙ ap (λ i. joined (lines_of skip ns) (from (b + 1) k) ++ left i) e)
      ∙ sym (append_assoc (lines_of skip ns b) (joined (lines_of skip ns) (from (b + 1) k)) (left (b + suc k)))

  left-span : (first last : ℕ) → first ≤ last → left first ≡ spanned skip ns first last ++ left (last + 1)
  left-span first last h =
      let e : first + (last - first + 1) ≡ last + 1 = omega (arith, h) in
      left-turns (last - first + 1) first ∙ ap (λ i. spanned skip ns first last ++ left i) e

  left-skip : (b t : ℕ) → b ≤ t → ((k : ℕ) → k < length ns → b ≤ (get_or ns k no_noting).target → t ≤ (get_or ns k no_noting).target) → left b ≡ left t
  left-skip b t l h = ap (map noted_line) (ordered-skip goal listed no_noting b t ns l h)

  left-none : (b : ℕ) → ((k : ℕ) → k < length ns → (get_or ns k no_noting).target < b) → left b ≡ []
  left-none b h = ap (map noted_line) (ordered-none goal listed no_noting b ns h)

-- rows in memory have the targets of what they note
target_is : (noted goals : List ℕ) (n : ℕ) (library : List ℕ) (ns : List Noting) → Tabled noted_sheet library ns (table noted goals (record { rows = n; over = false }))
    → (k : ℕ) → k < length ns → target_at noted k ≡ (get_or ns k no_noting).target
target_is noted goals n library ns tabled k h =
    ap (λ r. r.target) (table-row noted_sheet library noted-reads no_noting {xs = ns} {t = table noted goals (record { rows = n; over = false })} tabled refl k h)

-- FROM TARGET TO TARGET: whoever adds what is left from a bound on has added all
module _ (noted : List ℕ) (n : ℕ) (goals : List ℕ) (end : ℕ) (skip : SkipAmount) (m₀ : List ℕ) (f₀ : Fill) where
  abbrev pub Leaves : List ℕ → Fill → ℕ → Type 0
  Leaves m f bound =
      (library : List ℕ) (ns : List Noting) → length ns ≡ n → Tabled noted_sheet library ns (table noted goals (record { rows = n; over = false }))
      → LeadsTo (left skip ns bound) m f (leftovers end skip ns) m₀ f₀

  pub leaves_all : Leaves m₀ f₀ end
  leaves_all library ns l t =
      leads-same (leftovers end skip ns) m₀ f₀ {left = leftovers end skip ns} {rest = left skip ns end} {m = m₀} {f = f₀} (left-all skip ns end) (leads-first (leftovers end skip ns) m₀ f₀)

  module _ (m : List ℕ) (f : Fill) (bound : ℕ) (h : Leaves m f bound) where
    pub leaves-over : f.over ≡ true → ListsBeyond noted n goals end skip m₀ f₀ m f
    leaves-over e library ns l t = leads-over (leftovers end skip ns) m₀ f₀ {left = left skip ns bound} {m = m} {f = f} e (h library ns l t)

    pub leaves_none : (top : ℕ) → NonePast noted n top → top < bound → ListsBeyond noted n goals end skip m₀ f₀ m f
    leaves_none top past b library ns l t =
        leads-last (leftovers end skip ns) m₀ f₀ {left = left skip ns bound} {m = m} {f = f}
        (left-none skip ns bound (λ k i. omega (arith, past k (omega (arith, l, i)), b, target_is noted goals n library ns t k i)))
        (h library ns l t)

    pub leaves-on : (top first last : ℕ) → bound ≤ top → NoneBefore noted n bound top first → first ≤ last → (m' : List ℕ) (f' : Fill)
        → ListsSpan noted goals first last skip m f m' f' → Leaves m' f' (last + 1)
    leaves-on top first last b least up m' f' lists library ns l t =
        leads-on (leftovers end skip ns) m₀ f₀ {left = left skip ns bound} {rest = left skip ns (last + 1)} (spanned skip ns first last) {m = m} {m' = m'} {f = f} {f' = f'}
        (left-skip skip ns bound first (least.not-less b) skipped ∙ left-span skip ns first last up)
        (h library ns l t)
        (lists ns (record { library = library; n = n; tabled = t }))
      where
        skipped : (k : ℕ) → k < length ns → bound ≤ (get_or ns k no_noting).target → first ≤ (get_or ns k no_noting).target
        skipped k i j = let e = target_is noted goals n library ns t k i in omega (arith, e, least.least k (omega (arith, l, i)) (omega (arith, j, e)))
