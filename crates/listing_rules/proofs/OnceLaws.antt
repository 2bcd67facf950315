-- A search places a name once at a position, and notes it once at a target. Assumes nothing.
use Rattle.std.specs.Prelude.{ℕ, ◌≡◌, refl, ◌⊎◌, Bool, true, false, ◌&&◌, ◌||◌, eqb, leb, length, if◌then◌else◌}
use Rattle.std.proofs.Common.{sym, ap, ◌∙◌, inl, inr, eq-eqb}
use Rattle.std.proofs.lemmas.Bool.{false≢true}
use mathlib.Core.List.Memᴰ
use mathlib.Core.List.{List, [], ◌∷◌, ◌++◌, map}
use Rattle.lent.specs.Lists.{one, joined, fold, any}
use Rattle.lent.specs.Members.{◌among◌}
use Rattle.lent.specs.Parts.{same_name}
use Rattle.segments.specs.Collect.{Collected}
use Rattle.search_rules.specs.declared.Asked.{Asked}
use Rattle.search_rules.specs.Search.{Placing, Noting, all_matches, notes, notes_it, is_noted, also_noted, note, noted, symbols_at, is_placed, place, placed}
use Rattle.listing_rules.specs.Earlier.{Earlier}
use Rattle.listing_rules.proofs.EarlierLaws.{earlier-append, earlier-map}
use Rattle.listing_rules.specs.Listed.{PlacedOnce, NotedOnce}

-- of a list none of which passes a test: it does not
not-any : {A : Type 0} (p : A → Bool) {x : A} (xs : List A) → any p xs ≡ false → x among xs → p x ≡ false
unfolding any
not-any p [] e m = absurd (Memᴰ.not-nil m)
not-any p {x} (y ∷ ys) e m = go (p y) refl e (Memᴰ.cases_cons m) (not-any p ys)
  where
    go : (t : Bool) → p y ≡ t → (t || any p ys) ≡ false → (x ≡ y) ⊎ x among ys → (any p ys ≡ false → x among ys → p x ≡ false) → p x ≡ false
    go true h f n rest = absurd (false≢true (sym f))
    go false h f (inl q) rest = ap p q ∙ h
    go false h f (inr n) rest = rest f n

-- what each step keeps, a fold keeps
fold-keeps : {A B : Type 0} (step : B → A → B) (P : B → Type 0) → ((b : B) (x : A) → P b → P (step b x)) → (xs : List A) (b : B) → P b → P (fold step b xs)
unfolding fold
fold-keeps step P keeps [] b h = h
fold-keeps step P keeps (x ∷ xs) b h = fold-keeps step P keeps xs (step b x) (keeps b x h)

-- a test on a key and a name that fails at the key fails at the name
other : (key at : ℕ) (t : Bool) → key ≡ at → (eqb key at && t) ≡ false → t ≡ false
other key at t e h = rw (eq-eqb key at e) at h

place-once : (library : List ℕ) (end : ℕ) (rows : List Placing) (new : Placing) → PlacedOnce library rows → PlacedOnce library (place library end rows new)
unfolding place
place-once library end rows new h = go (leb end new.position) (is_placed library rows new.position new.name) refl
  where
    added : is_placed library rows new.position new.name ≡ false → PlacedOnce library (rows ++ one new)
    added e p q f s = split (earlier-append rows (one new) f)
      where
        last : p among rows → q ≡ new → same_name library p.name q.name ≡ false
        last i r = rw r (other p.position new.position (same_name library p.name new.name) (s ∙ ap (λ x. x.position) r) (not-any _ rows e i))

        split : Earlier p q rows ⊎ (((p among rows) × (q among one new)) ⊎ Earlier p q (one new)) → same_name library p.name q.name ≡ false
        split (inl g) = h p q g s
        split (inr (inl (i, j))) = last i (Memᴰ.eq_of_singleton j)
        split (inr (inr (inl (r, j)))) = absurd (Memᴰ.not-nil j)
        split (inr (inr (inr g))) = absurd g

    go : (past known : Bool) → is_placed library rows new.position new.name ≡ known → PlacedOnce library (if past || known then rows else rows ++ one new)
    go true known e = h
    go false true e = h
    go false false e = added e

note-once : (library : List ℕ) (rows : List Noting) (new : Noting) → NotedOnce library rows → NotedOnce library (note library rows new)
unfolding note
note-once library rows new h = go (is_noted library rows new.target new.name) refl
  where
    again : NotedOnce library (map (also_noted library new) rows)
    again n k f s = from-rows (earlier-map (also_noted library new) rows f)
      where
        from-rows : (x : Noting) × ((y : Noting) × Earlier x y rows × ((n ≡ also_noted library new x) × (k ≡ also_noted library new y))) → same_name library n.name k.name ≡ false
        from-rows (x, (y, g, (p, q))) = rw (p, q) (h x y g (sym (ap (λ z. z.target) p) ∙ s ∙ ap (λ z. z.target) q))

    added : is_noted library rows new.target new.name ≡ false → NotedOnce library (rows ++ one new)
    added e n k f s = split (earlier-append rows (one new) f)
      where
        last : n among rows → k ≡ new → same_name library n.name k.name ≡ false
        last i r = rw r (other n.target new.target (same_name library n.name new.name) (s ∙ ap (λ x. x.target) r) (not-any (notes_it library new.target new.name) rows e i))

        split : Earlier n k rows ⊎ (((n among rows) × (k among one new)) ⊎ Earlier n k (one new)) → same_name library n.name k.name ≡ false
        split (inl g) = h n k g s
        split (inr (inl (i, j))) = last i (Memᴰ.eq_of_singleton j)
        split (inr (inr (inl (r, j)))) = absurd (Memᴰ.not-nil j)
        split (inr (inr (inr g))) = absurd g

    go : (known : Bool) → is_noted library rows new.target new.name ≡ known
        → NotedOnce library (if known then map (also_noted library new) rows else rows ++ one new)
    go true e = again
    go false e = added e

module _ (library cells : List ℕ) (a : Asked) (segments : List Collected) where
  pub placed-once : PlacedOnce library (placed library cells a segments)
  unfolding placed
  placed-once =
      fold-keeps (place library (length cells)) (PlacedOnce library) (λ rows new h. place-once library (length cells) rows new h)
      (joined (symbols_at cells a segments) (all_matches cells segments)) [] (λ p q f. absurd f)

  pub noted-once : NotedOnce library (noted library cells a segments)
  unfolding noted
  noted-once =
      fold-keeps (note library) (NotedOnce library) (λ rows new h. note-once library rows new h)
      (joined (λ m. notes cells a m.segment m.position) (all_matches cells segments)) [] (λ n k f. absurd f)
