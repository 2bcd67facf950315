-- The lines of one target, added or not; and of one target after another. Assumes nothing.
use Rattle.std.specs.Prelude.{ℕ, suc, ◌+◌, ◌-◌, ◌*◌, ◌/◌, ◌%◌, ◌<◌, ◌≤◌, ◌≡◌, Bool, length, drop, if◌then◌else◌}
use Rattle.std.proofs.Math.Path.{refl, ap}
use Rattle.std.proofs.Common.{sym, subst, ◌∙◌, arith, length-append}
use Rattle.std.proofs.Math.Bool.{true, false}
use Rattle.std.proofs.lemmas.Bool.{false≢true}
use mathlib.Core.List.{List, [], ◌∷◌, ◌++◌, append-nil, map}
use Rattle.lent.specs.Lists.{keep, joined, from}
use Rattle.tables.specs.declared.fill.Fill.{Fill}
use Rattle.tables.specs.by_name.Heads.{head_at}
use Rattle.tables.specs.by_name.Sheet.{key_buckets}
use Rattle.search_rules.specs.Search.{Noting}
use Rattle.listing_rules.specs.Listing.{SkipAmount, noted_line, crowded, line_width}
use Rattle.listing_rules.specs.declared.Line.{Line}
use Rattle.listing_rules.specs.FrontLines.{Front, Extends, LeadsTo}
use Rattle.listing_rules.proofs.FrontLineLaws.{extends-none, extends-over, leads-on}
use Rattle.listing.specs.past_end.Beyond.{sought, lines_of, spanned, NotedBy, HeadedBy, Counts, Wrote, WritesAll, ListsBucket, ListsTarget, ListsSpan}
use Rattle.listing.specs.past_end.BucketLaws.{first-none}
use Rattle.listing.specs.past_end.WriteLaws.{front-more}

map-length : {A B : Type 0} (f : A → B) (xs : List A) → length (map f xs) ≡ length xs
map-length f [] = refl
map-length f (x ∷ xs) = ap suc (map-length f xs)

-- lines that are too many
pub front-full : (lines new : List Line) (m : List ℕ) (f : Fill) → f.over ≡ false → Front lines m f → length m / line_width < f.rows + length new
    → Front (lines ++ new) m (record { rows = f.rows; over = true })
front-full lines new m f e h full = record {
  counted = λ z. absurd (false≢true (sym z));
  fits = λ z. absurd (false≢true (sym z));
  over = λ z. omega (arith, h.counted e, full, length-append lines new);
}

module _ (noted : List ℕ) (head t : ℕ) (skip : SkipAmount) (all : ℕ) (counts : Counts noted head t true all) (m : List ℕ) (f : Fill) where
  -- A TARGET that is left out
  pub bucket-crowded : crowded skip all ≡ true → ListsBucket noted head t skip m f m f
  unfolding lines_of
  bucket-crowded e ns c z =
      let same : crowded skip (length (keep (sought t true) ns)) ≡ true = ap (crowded skip) (sym (counts ns c)) ∙ e in
      rw same (extends-none m f)

  module _ (few : crowded skip all ≡ false) (n : ℕ) (valid : Counts noted head t false n) where
    lines_are : (ns : List Noting) → HeadedBy noted t head ns → map noted_line (keep (sought t false) ns) ≡ lines_of skip ns t
    unfolding lines_of
    lines_are ns c =
        let same : crowded skip (length (keep (sought t true) ns)) ≡ false = ap (crowded skip) (sym (counts ns c)) ∙ few in
        rw same refl

    long : (ns : List Noting) → HeadedBy noted t head ns → length (map noted_line (keep (sought t false) ns)) ≡ n
    long ns c = map-length noted_line (keep (sought t false) ns) ∙ sym (valid ns c)

    -- one for which there is no room
    pub bucket-full : length m / line_width < f.rows + n → ListsBucket noted head t skip m f m (record { rows = f.rows; over = true })
    bucket-full full ns c z lines h =
        subst (λ new. Front (lines ++ new) m (record { rows = f.rows; over = true })) (lines_are ns c)
        (front-full lines (map noted_line (keep (sought t false) ns)) m f z h (omega (arith, full, long ns c)))

    -- and one that is written
    pub bucket-written : (m' : List ℕ) → f.rows + n ≤ length m / line_width → length m' ≡ length m → WritesAll noted head t (f.rows + n) m m'
        → ListsBucket noted head t skip m f m' (record { rows = f.rows + n; over = false })
    bucket-written m' room same writes ns c z lines h =
        let new : List Line = map noted_line (keep (sought t false) ns) in
        let fits : (f.rows + n) * line_width ≤ length m = omega (arith, room) in
        let count = valid ns c in
        let at : f.rows + n - length (keep (sought t false) ns) ≡ length lines = omega (arith, h.counted z, count) in
        let wrote = writes ns c (omega (arith, count)) fits in
        subst (λ ls. Front (lines ++ ls) m' (record { rows = f.rows + n; over = false })) (lines_are ns c)
        (record {
          counted = λ e. omega (arith, h.counted z, length-append lines new, long ns c);
          fits = λ e.
              front-more lines new m m' (f.rows + n) (h.fits z) (omega (arith, h.counted z, long ns c)) fits same
              (subst (λ k. Wrote new k (f.rows + n) m m') at wrote);
          over = λ e. absurd (false≢true e);
        })

module _ (noted goals : List ℕ) (t : ℕ) (skip : SkipAmount) (m : List ℕ) (f : Fill) where
  pub target-over : f.over ≡ true → ListsTarget noted goals t skip m f m f
  target-over e ns h = extends-over (lines_of skip ns t) m f e

  -- a bucket with nothing in it
  no_lines : (ns : List Noting) → keep (sought t false) ns ≡ [] → lines_of skip ns t ≡ []
  unfolding lines_of
  no_lines ns e = go (crowded skip (length (keep (sought t true) ns)))
    where
      go : (u : Bool) → (if u then [] else map noted_line (keep (sought t false) ns)) ≡ []
      go true = refl
      go false = ap (map noted_line) e

  module _ (head : ℕ) (is : head ≡ head_at goals (t % key_buckets)) where
    pub target-empty : head ≡ 0 → ListsTarget noted goals t skip m f m f
    target-empty e ns h =
        let c : HeadedBy noted t head ns = record { goals = goals; rows = h; head-is = is } in
        let none : keep (sought t false) ns ≡ [] = ap (λ k. keep (sought t false) (drop k ns)) (sym e) ∙ first-none noted t head ns c false in
        subst (λ ls. Extends ls m f m f) (sym (no_lines ns none)) (extends-none m f)

    pub target-bucket : (m' : List ℕ) (f' : Fill) → f.over ≡ false → ListsBucket noted head t skip m f m' f' → ListsTarget noted goals t skip m f m' f'
    target-bucket m' f' e b ns h = b ns (record { goals = goals; rows = h; head-is = is }) e

-- FROM TARGET TO TARGET
pub span-turn : (skip : SkipAmount) (ns : List Noting) (t last : ℕ) → t < last → spanned skip ns t last ≡ lines_of skip ns t ++ spanned skip ns (t + 1) last
unfolding from joined
span-turn skip ns t last h = let e : last - t + 1 ≡ suc (last - (t + 1) + 1) = omega (arith, h) in rw e refl

pub span-end : (skip : SkipAmount) (ns : List Noting) (t last : ℕ) → last ≤ t → spanned skip ns t last ≡ lines_of skip ns t
unfolding from joined
span-end skip ns t last h = let e : last - t + 1 ≡ suc 0 = omega (arith, h) in rw e (append-nil (lines_of skip ns t))

abbrev pub Spans : List ℕ → List ℕ → ℕ → ℕ → SkipAmount → List ℕ → Fill → List ℕ → Fill → ℕ → Type 0
Spans noted goals first last skip m₀ f₀ m f t =
    (ns : List Noting) → NotedBy noted goals ns → LeadsTo (spanned skip ns t last) m f (spanned skip ns first last) m₀ f₀

module _ (noted goals : List ℕ) (first last : ℕ) (skip : SkipAmount) (m₀ : List ℕ) (f₀ : Fill) (m : List ℕ) (f : Fill) (t : ℕ) (h : Spans noted goals first last skip m₀ f₀ m f t)
    (m' : List ℕ) (f' : Fill) (lists : ListsTarget noted goals t skip m f m' f') where
  pub spans_on : t < last → Spans noted goals first last skip m₀ f₀ m' f' (t + 1)
  spans_on l ns n =
      leads-on (spanned skip ns first last) m₀ f₀ {left = spanned skip ns t last} {rest = spanned skip ns (t + 1) last} (lines_of skip ns t) {m = m} {m' = m'} {f = f} {f' = f'}
      (span-turn skip ns t last l) (h ns n) (lists ns n)

  pub spans_all : last ≤ t → ListsSpan noted goals first last skip m₀ f₀ m' f'
  spans_all l ns n = h ns n m' f' (subst (λ ls. Extends ls m f m' f') (sym (span-end skip ns t last l)) (lists ns n))
