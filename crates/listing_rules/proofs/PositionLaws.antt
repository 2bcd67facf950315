-- The names that are listed at a position are in byte order, and each is there once. Assumes nothing.
use Rattle.std.specs.Prelude.{ℕ, ◌≡◌, refl, ◌⊎◌, true, ◌&&◌, ◌||◌, List, [], map, length, if◌then◌else◌}
use Rattle.std.proofs.Math.Path.{sym}
use Rattle.std.proofs.Common.{ap, ◌∙◌, inl, inr, arith, eqb-true}
use Rattle.std.proofs.Math.Bool.{Bool, false}
use Rattle.std.proofs.lemmas.Bool.{false≢true}
use mathlib.Core.List.Memᴰ
use Rattle.std.proofs.Math.Dec.{eqb}
use Rattle.lent.specs.ChoiceLaws.{both}
use Rattle.lent.specs.Lists.{keep, sorted}
use Rattle.lent.specs.Members.{◌among◌, of-keep}
use Rattle.lent.specs.Parts.{bytes_of, before, same_name, name_before}
use Rattle.tables.specs.by_name.NamedLaws.{same-equal}
use Rattle.segments.specs.Collect.{Collected}
use Rattle.search_rules.specs.declared.Asked.{Asked}
use Rattle.search_rules.specs.Search.{Placing, Noting, is_noted}
use Rattle.listing_rules.specs.Listing.{SkipAmount, noted_line, best_grade, best, crowded, stays, placed_line, graded_at, lines_at}
use Rattle.listing_rules.specs.declared.Line.{Line}
use Rattle.listing_rules.specs.Earlier.{Earlier, Weak}
use Rattle.listing_rules.proofs.EarlierLaws.{earlier-both, earlier-append, earlier-map, earlier-keep}
use Rattle.listing_rules.proofs.SortedLaws.{sorted-order, sorted-as-came}
use Rattle.listing_rules.proofs.NameOrderLaws.{before-never, before-through, before-neither}
use Rattle.listing_rules.specs.Listed.{PlacedOnce, NotedOnce}
use Rattle.listing_rules.proofs.CompleteLaws.{some-grade}

-- byte order, and lines by it
before-weak : Weak before
before-weak = record { turned = turned; through = through }
  where
    turned : (a b : List ℕ) → before a b ≡ true → before b a ≡ false
    turned a b e = go (before b a) refl
      where
        go : (t : Bool) → before b a ≡ t → t ≡ false
        go true f = absurd (false≢true (sym (before-never a) ∙ before-through a b a e f))
        go false f = refl

    through : (a b c : List ℕ) → before a b ≡ false → before b c ≡ false → before a c ≡ false
    through a b c e f = go (before b a) refl (before a c) refl
      where
        go : (t : Bool) → before b a ≡ t → (u : Bool) → before a c ≡ u → u ≡ false
        go true g true h = absurd (false≢true (sym f ∙ before-through b a c g h))
        go false g true h =
            let same : a ≡ b = same-equal a b (before-neither a b e g) in
            absurd (false≢true (sym f ∙ ap (λ s. before s c) (sym same) ∙ h))
        go t g false h = refl

abbrev by_name : List ℕ → Line → Line → Bool
by_name library x y = name_before library x.name y.name

by_name-weak : (library : List ℕ) → Weak (by_name library)
by_name-weak library = record {
  turned = λ x y. before-weak.turned (bytes_of library x.name) (bytes_of library y.name);
  through = λ x y z. before-weak.through (bytes_of library x.name) (bytes_of library y.name) (bytes_of library z.name);
}

module _ (library cells : List ℕ) (a : Asked) (skip : SkipAmount) (segments : List Collected) (placed : List Placing) (noted : List Noting) (p-once : PlacedOnce library placed) (n-once : NotedOnce library noted) (at : ℕ) where
  abbrev graded : List Line
  graded = graded_at library cells a segments placed noted at

  abbrev line_of : Placing → Line
  line_of = placed_line library cells a segments placed noted

  abbrev standing : List Placing
  standing = keep (stays library cells a segments placed noted at) placed

  abbrev noted_at : Noting → Bool
  noted_at n = eqb n.target at && n.valid

  stands : {p : Placing} → p among standing → p.position ≡ at
  stands {p} i =
      eqb-true p.position at (both (eqb p.position at) (p.valid || is_noted library noted at p.name) (of-keep (stays library cells a segments placed noted at) placed i).1).0

  leads : {n : Noting} → n among keep noted_at noted → n.target ≡ at
  leads {n} i = eqb-true n.target at (both (eqb n.target at) n.valid (of-keep noted_at noted i).1).0

  -- two lines of one grade have different names
  unlike : (x y : Line) → Earlier x y graded → x.grade ≡ y.grade → same_name library x.name y.name ≡ false
  unfolding graded_at
  unlike x y e g = go (earlier-append (map line_of standing) (map noted_line (keep noted_at noted)) e)
    where
      symbols : (p : Placing) × ((q : Placing) × Earlier p q standing × ((x ≡ line_of p) × (y ≡ line_of q))) → same_name library x.name y.name ≡ false
      symbols (p, (q, f, (u, v))) =
          let b = earlier-both standing f in
          rw (u, v) (p-once p q (earlier-keep (stays library cells a segments placed noted at) p q placed f) (stands b.0 ∙ sym (stands b.1)))

      names : (n : Noting) × ((k : Noting) × Earlier n k (keep noted_at noted) × ((x ≡ noted_line n) × (y ≡ noted_line k))) → same_name library x.name y.name ≡ false
      names (n, (k, f, (u, v))) =
          let b = earlier-both (keep noted_at noted) f in
          rw (u, v) (n-once n k (earlier-keep noted_at n k noted f) (leads b.0 ∙ sym (leads b.1)))

      go : Earlier x y (map line_of standing) ⊎ (((x among map line_of standing) × (y among map noted_line (keep noted_at noted))) ⊎ Earlier x y (map noted_line (keep noted_at noted)))
          → same_name library x.name y.name ≡ false
      go (inl f) = symbols (earlier-map line_of standing f)
      go (inr (inl (i, j))) =
          let p = Memᴰ.of_map line_of standing i in
          let n = Memᴰ.of_map noted_line (keep noted_at noted) j in
          absurd (omega (arith, g, ap (λ l. l.grade) p.2, ap (λ l. l.grade) n.2, some-grade library cells a skip segments placed noted p.0))
      go (inr (inr f)) = names (earlier-map noted_line (keep noted_at noted) f)

  -- so of two lines of the best grade that are put in order the earlier name is before the later
  pub by_names : (x y : Line) → Earlier x y (lines_at library cells a segments placed noted skip at) → name_before library x.name y.name ≡ true
  unfolding lines_at best
  by_names x y e = go (crowded skip (length (best graded))) e
    where
      top : Line → Bool
      top l = eqb l.grade (best_grade graded)

      level : x among best graded → y among best graded → x.grade ≡ y.grade
      level i j =
          eqb-true x.grade (best_grade graded) (of-keep top graded i).1 ∙ sym (eqb-true y.grade (best_grade graded) (of-keep top graded j).1)

      less : (t : Bool) → by_name library x y ≡ t → Earlier x y (sorted (by_name library) (best graded)) → by_name library x y ≡ true
      less true h f = h
      less false h f =
          let g = sorted-as-came (by_name library) (by_name-weak library) x y (best graded) f h in
          let b = earlier-both (best graded) g in
          let other = unlike x y (earlier-keep top x y graded g) (level b.0 b.1) in
          let same = before-neither (bytes_of library x.name) (bytes_of library y.name) h (sorted-order (by_name library) (by_name-weak library) x y (best graded) f) in
          absurd (false≢true (sym other ∙ same))

      go : (t : Bool) → Earlier x y (if t then [] else sorted (by_name library) (best graded)) → by_name library x y ≡ true
      go true f = absurd f
      go false f = less (by_name library x y) refl f
