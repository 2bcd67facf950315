-- The matches of a pattern in the view, as a list: those of the image whose windows are apart from the cover. Assumes nothing.
use Rattle.std.specs.Prelude.{◌≡◌, ℕ, ◌+◌, Bool, true, false, ◌&&◌, List, [], ◌∷◌, length, refl, if◌then◌else◌}
use Rattle.std.proofs.Common.{sym, ◌∙◌}
use Rattle.std.proofs.Math.Path.{ap}
use Rattle.std.proofs.Math.Bool.{and-eq-true_iff}
use Rattle.std.proofs.lemmas.Bool.{false≢true}
use Rattle.lent.specs.ChoiceLaws.{same_test}
use Rattle.lent.specs.Lists.{any, keep, from}
use Rattle.image.specs.declared.Stretch.{Stretch}
use Rattle.image.specs.declared.Seat.{Seat}
use Rattle.image.specs.declared.Seat.TheVariants.{Anywhere, Only}
use Rattle.image.specs.View.{view}
use Rattle.image.proofs.ViewLaws.{Inside, view-length, view-empty}
use Rattle.image.specs.Match.{matches_at, tried, matches}
use Rattle.image.proofs.MatchLaws.{matches-seen}
use Rattle.image.specs.Window.{is_apart}
use Rattle.image.proofs.WindowLaws.{is-apart}

-- what passes two tests is what passes the second of all that pass the first, in the same order
keep-twice : {A : Type 0} (p q r : A → Bool) → ((x : A) → r x ≡ (p x && q x)) → (xs : List A) → keep r xs ≡ keep q (keep p xs)
unfolding keep
keep-twice p q r e [] = refl
keep-twice p q r e (x ∷ xs) = ap (λ t. if t then x ∷ keep r xs else keep r xs) (e x) ∙ go (p x) (keep-twice p q r e xs)
  where
    step : (u : Bool) → keep r xs ≡ keep q (keep p xs)
        → (if u then x ∷ keep r xs else keep r xs) ≡ (if u then x ∷ keep q (keep p xs) else keep q (keep p xs))
    step u rest = ap (λ zs. if u then x ∷ zs else zs) rest

    go : (t : Bool) → keep r xs ≡ keep q (keep p xs)
        → (if t && q x then x ∷ keep r xs else keep r xs) ≡ keep q (if t then x ∷ keep p xs else keep p xs)
    go true rest = step (q x) rest
    go false rest = rest

-- a wider cover t: it has all bytes of the cover s
module _ (image : List ℕ) (s t : List Stretch) (more : (i : ℕ) → Inside s i → Inside t i) (bytes masks : List ℕ) where
  -- at one place: a match in the view of s, and a window that is apart from t
  wider-at : (at : ℕ) → matches_at (view image t) bytes masks at ≡ (matches_at (view image s) bytes masks at && is_apart t at (length bytes))
  wider-at at =
      let n = length bytes in
      let by-s = matches-seen image s bytes masks at in
      let by-t = matches-seen image t bytes masks at in
      let iff = and-eq-true_iff (matches_at (view image s) bytes masks at) (is_apart t at n) in
      same_test (matches_at (view image t) bytes masks at) (matches_at (view image s) bytes masks at && is_apart t at n)
      (λ e. let m = by-t.0 e in iff.1 (by-s.1 (m.0, λ i a b h. m.1 i a b (more i h)), (is-apart t at n).1 m.1))
      (λ e. by-t.1 ((by-s.0 (iff.0 e).0).0, (is-apart t at n).0 (iff.0 e).1))

  tried_seen : (seat : Seat) → tried (view image t) seat ≡ tried (view image s) seat
  tried_seen Anywhere = ap (λ n. from 0 (n + 1)) (view-length image t ∙ sym (view-length image s))
  tried_seen (Only address) = refl

  -- A WIDER COVER never adds a match, and takes away exactly those whose windows it touches; the others keep their order
  pub wider : (seat : Seat) → matches (view image t) seat bytes masks ≡ keep (λ at. is_apart t at (length bytes)) (matches (view image s) seat bytes masks)
  unfolding matches
  wider seat =
      ap (keep (matches_at (view image t) bytes masks)) (tried_seen seat)
      ∙ keep-twice (matches_at (view image s) bytes masks) (λ at. is_apart t at (length bytes)) (matches_at (view image t) bytes masks) wider-at (tried (view image s) seat)

-- against a cover of nothing
module _ (image : List ℕ) (s : List Stretch) (bytes masks : List ℕ) where
  nothing-in : (i : ℕ) → Inside [] i → Inside s i
  unfolding any
  nothing-in i h = absurd (false≢true h)

  -- at one place: a match in the image, and a window that is apart
  pub seen-both : (at : ℕ) → matches_at (view image s) bytes masks at ≡ (matches_at image bytes masks at && is_apart s at (length bytes))
  seen-both at = wider-at image [] s nothing-in bytes masks at ∙ ap (λ cells. matches_at cells bytes masks at && is_apart s at (length bytes)) (view-empty image)

  -- THE MATCHES IN THE VIEW are the image's matches whose windows share no byte with the cover, in the same order: for
  -- any image, cover, seat, bytes and masks
  pub matches-view : (seat : Seat) → matches (view image s) seat bytes masks ≡ keep (λ at. is_apart s at (length bytes)) (matches image seat bytes masks)
  matches-view seat =
      wider image [] s nothing-in bytes masks seat ∙ ap (λ cells. keep (λ at. is_apart s at (length bytes)) (matches cells seat bytes masks)) (view-empty image)
