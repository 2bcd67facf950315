-- No two names of a position that are of the best grade are the same. Assumes nothing.
use Rattle.std.specs.Prelude.{ℕ, ◌<◌, ◌≡◌, refl, ◌⊎◌, ◌&&◌, ◌||◌, if◌then◌else◌}
use Rattle.std.proofs.Math.Path.{sym}
use Rattle.std.proofs.Common.{ap, subst, ◌∙◌}
use Rattle.std.proofs.Math.Logic.{inl, inr}
use Rattle.std.proofs.Math.Bool.{Bool, true, false, not}
use Rattle.std.proofs.lemmas.Bool.{false≢true}
use mathlib.Core.List.Memᴰ
use mathlib.Core.List.{List, [], ◌∷◌, map, reverse, reverse-cons}
use native.Mathlib.Omega.{arith}
use borrow.Author.Tests.{eqb-true, eq-eqb}
use Rattle.std.proofs.Math.Dec.{eqb}
use Rattle.lent.specs.ChoiceLaws.{both}
use Rattle.lent.specs.Lists.{one, keep, any}
use Rattle.lent.specs.Members.{◌among◌, of-keep}
use Rattle.lent.specs.Parts.{same_name}
use Rattle.segments.specs.Collect.{Collected}
use Rattle.tables.specs.by_name.Sheet.{Sheet, is_named}
use Rattle.tables.specs.by_name.NamedLaws.{named-turned}
use Rattle.tables.specs.by_name.Tables.{Single}
use Rattle.search_rules.specs.declared.Asked.{Asked}
use Rattle.search_rules.specs.Search.{Placing, Noting, is_noted}
use Rattle.search_rules.specs.SearchRows.{placed_sheet, noted_sheet}
use Rattle.listing_rules.specs.declared.Line.{Line}
use Rattle.listing_rules.specs.Listing.{noted_line, best_grade, best, borne_out, grade, stays, placed_line, graded_at}
use Rattle.listing.specs.order.Order.{Apart}
use Rattle.listing.specs.position.RowsAt.{noted_at_it}
use Rattle.listing.specs.position.RowLines.{some-grade}

-- one that passes is met
some-any : {A : Type 0} (p : A → Bool) {x : A} (xs : List A) → x among xs → p x ≡ true → any p xs ≡ true
unfolding any
some-any p [] m e = absurd (Memᴰ.not-nil m)
some-any p {x} (y ∷ ys) m e = go (Memᴰ.cases_cons m) (some-any p ys)
  where
    go : (x ≡ y) ⊎ x among ys → (x among ys → p x ≡ true → any p ys ≡ true) → (p y || any p ys) ≡ true
    go (inl q) rest = ap (λ t. t || any p ys) (ap p (sym q) ∙ e)
    go (inr n) rest = last (p y) (rest n e)
      where
        last : (t : Bool) → any p ys ≡ true → (t || any p ys) ≡ true
        last true f = refl
        last false f = f

-- of things no two of which have one key and one name, two that have are one
pub single-equal : {A R : Type 0} (s : Sheet A R) (library : List ℕ) (xs : List A) → Single s library xs → (x y : A) → x among xs → y among xs → is_named s library (s.key x) (s.name x) y ≡ true → x ≡ y
unfolding Single
single-equal s library [] h x y i j e = absurd (Memᴰ.not-nil i)
single-equal {A} s library (z ∷ zs) h x y i j e = go (Memᴰ.cases_cons i) (Memᴰ.cases_cons j) (single-equal s library zs h.1 x y)
  where
    never : {w : A} → w among zs → is_named s library (s.key z) (s.name z) w ≡ true → ⊥
    never m f = false≢true (sym h.0 ∙ some-any (is_named s library (s.key z) (s.name z)) zs m f)

    go : (x ≡ z) ⊎ x among zs → (y ≡ z) ⊎ y among zs → (x among zs → y among zs → is_named s library (s.key x) (s.name x) y ≡ true → x ≡ y) → x ≡ y
    go (inl p) (inl q) rest = p ∙ sym q
    go (inl p) (inr n) rest = absurd (never n (ap (λ v. is_named s library (s.key v) (s.name v) y) (sym p) ∙ e))
    go (inr n) (inl q) rest = absurd (never n (ap (λ v. is_named s library (s.key v) (s.name v) x) (sym q) ∙ named-turned s library y x ∙ e))
    go (inr n) (inr k) rest = rest n k e

-- turned round, a list has the same members
pub of_reverse : {A : Type 0} {x : A} (xs : List A) → x among reverse xs → x among xs
of_reverse [] m = absurd (Memᴰ.not-nil m)
of_reverse {A} {x} (y ∷ ys) m = go (Memᴰ.append_cases (reverse ys) (subst (λ zs. x among zs) (reverse-cons y ys) m)) (of_reverse ys)
  where
    go : x among reverse ys ⊎ x among one y → (x among reverse ys → x among ys) → x among (y ∷ ys)
    go (inl n) rest = Memᴰ.tail (rest n)
    go (inr n) rest = last (Memᴰ.cases_cons n)
      where
        last : (x ≡ y) ⊎ x among [] → x among (y ∷ ys)
        last (inl q) = Memᴰ.head q
        last (inr k) = absurd (Memᴰ.not-nil k)

module _ (library cells : List ℕ) (a : Asked) (gs : List Collected) (ps : List Placing) (ns : List Noting) (at : ℕ) where
  -- a line is a symbol's that stands there, or a name's that is noted there
  record OfSymbol (l : Line) : Type 0 where
    p : Placing
    there : p among ps
    stands : p.position ≡ at
    is : placed_line library cells a gs ps ns p ≡ l

  record OfName (l : Line) : Type 0 where
    n : Noting
    there : n among ns
    stands : n.target ≡ at
    is : noted_line n ≡ l

  abbrev line_of : Placing → Line
  line_of = placed_line library cells a gs ps ns

  abbrev lines_at : List Line
  lines_at = graded_at library cells a gs ps ns at

  from-where : {l : Line} → l among lines_at → OfSymbol l ⊎ OfName l
  unfolding graded_at
  from-where {l} m = go (Memᴰ.append_cases (map line_of (keep (stays library cells a gs ps ns at) ps)) m)
    where
      go : l among map line_of (keep (stays library cells a gs ps ns at) ps) ⊎ l among map noted_line (keep (noted_at_it at) ns) → OfSymbol l ⊎ OfName l
      go (inl j) =
          let y = Memᴰ.of_map line_of (keep (stays library cells a gs ps ns at) ps) j in
          let k = of-keep (stays library cells a gs ps ns at) ps y.1 in
          inl (record { p = y.0; there = k.0; stands = eqb-true y.0.position at (both (eqb y.0.position at) (y.0.valid || is_noted library ns at y.0.name) k.1).0; is = y.2 })
      go (inr j) =
          let y = Memᴰ.of_map noted_line (keep (noted_at_it at) ns) j in
          let k = of-keep (noted_at_it at) ns y.1 in
          inr (record { n = y.0; there = k.0; stands = eqb-true y.0.target at (both (eqb y.0.target at) y.0.valid k.1).0; is = y.2 })

  -- the two kinds have different grades
  unlike : {x y : Line} → OfSymbol x → OfName y → x.grade ≡ y.grade → ⊥
  unlike s n e = some-grade library cells a gs ps ns s.p (ap (λ l. l.grade) s.is ∙ e ∙ ap (λ l. l.grade) (sym n.is))

  same_key : {k j : ℕ} → k ≡ at → j ≡ at → (t : Bool) → t ≡ true → (eqb k j && t) ≡ true
  same_key {k} {j} e f t h = rw (eq-eqb k j (e ∙ sym f)) h

  alike : Single placed_sheet library ps → Single noted_sheet library ns → {x y : Line} → OfSymbol x ⊎ OfName x → OfSymbol y ⊎ OfName y → x.grade ≡ y.grade → same_name library x.name y.name ≡ true → x ≡ y
  alike sp sn {x} {y} (inl u) (inl v) g e =
      sym u.is
      ∙ ap line_of (sym (single-equal placed_sheet library ps sp v.p u.p v.there u.there
      (same_key u.stands v.stands (same_name library u.p.name v.p.name) (ap (λ l. same_name library l.name v.p.name) u.is ∙ ap (λ l. same_name library x.name l.name) v.is ∙ e))))
      ∙ v.is
  alike sp sn (inl u) (inr v) g e = absurd (unlike u v g)
  alike sp sn (inr u) (inl v) g e = absurd (unlike v u (sym g))
  alike sp sn {x} {y} (inr u) (inr v) g e =
      sym u.is
      ∙ ap noted_line (sym (single-equal noted_sheet library ns sn v.n u.n v.there u.there
      (same_key u.stands v.stands (same_name library u.n.name v.n.name) (ap (λ l. same_name library l.name v.n.name) u.is ∙ ap (λ l. same_name library x.name l.name) v.is ∙ e))))
      ∙ v.is

  pub best-apart : Single placed_sheet library ps → Single noted_sheet library ns → Apart library (best lines_at)
  unfolding best
  best-apart sp sn x y i j e =
      let top : Line → Bool = λ l. eqb l.grade (best_grade lines_at) in
      let p = of-keep top lines_at i in
      let q = of-keep top lines_at j in
      alike sp sn (from-where p.0) (from-where q.0) (eqb-true x.grade (best_grade lines_at) p.1 ∙ sym (eqb-true y.grade (best_grade lines_at) q.1)) e

  -- a grade is a byte
  grade-small : (p : Placing) → grade library cells a gs ps ns p < 256
  unfolding grade
  grade-small p = go (borne_out library cells a gs ps ns p) (is_noted library ns p.position p.name)
    where
      go : (t u : Bool) → (if not t then 1 else if u then 3 else 2) < 256
      go false u = omega arith
      go true true = omega arith
      go true false = omega arith

  small_of : {x : Line} → OfSymbol x ⊎ OfName x → x.grade < 256
  small_of (inl u) = omega (arith, ap (λ l. l.grade) u.is, grade-small u.p)
  small_of (inr u) = omega (arith, ap (λ l. l.grade) u.is)

  pub best-small : (x : Line) → x among best lines_at → x.grade < 256
  unfolding best
  best-small x i = small_of (from-where (of-keep (λ l. eqb l.grade (best_grade lines_at)) lines_at i).0)
