-- The first thing in a list of things that may be missing, said in words: all before it are
-- missing, and it is not. Assumes nothing.
use Rattle.std.specs.Prelude.{ℕ, ◌≡◌, refl, ◌↔◌, List, [], ◌∷◌, ◌++◌, map}
use Rattle.std.proofs.Math.Option.{Option, none, some}
use Rattle.std.proofs.Common.{arith}
use Rattle.lent.specs.Choice.{or_else, leading}

-- there is nothing for any of these
abbrev pub Quiet : {A B : Type 0} → (A → Option B) → List A → Type 0
Quiet f [] = Unit
Quiet f (x ∷ xs) = (f x ≡ none) × Quiet f xs

-- one of a list for which there is something that passes P, and nothing for any before it
pub record First {A B : Type 0} (f : A → Option B) (P : A → Type 0) (xs : List A) : Type 0 where
  pub earlier : List A
  pub here : A
  pub later : List A
  pub split : xs ≡ earlier ++ here ∷ later
  pub quiet : Quiet f earlier
  pub holds : P here

-- what is there is not missing
pub none≢some : {A : Type 0} {a : A} → none ≡ some a → ⊥
none≢some e = let z : ◌≡◌ {A = ℕ} 0 1 = cc in omega arith

leading-first : {A B : Type 0} (f : A → Option B) {b : B} (xs : List A) → leading (map f xs) ≡ some b → First f (λ x. f x ≡ some b) xs
unfolding leading
leading-first f [] e = absurd (none≢some e)
leading-first {A} {B} f {b} (x ∷ xs) e = go (f x) refl e (leading-first f xs)
  where
    go : (o : Option B) → f x ≡ o → or_else o (leading (map f xs)) ≡ some b → (leading (map f xs) ≡ some b → First f (λ y. f y ≡ some b) xs)
        → First f (λ y. f y ≡ some b) (x ∷ xs)
    go none q p rest =
        let r = rest p in
        record { earlier = x ∷ r.earlier; here = r.here; later = r.later; split = cc r.split; quiet = (q, r.quiet); holds = r.holds }
    go (some a) q p rest = record { earlier = []; here = x; later = xs; split = refl; quiet = tt; holds = cc }

first-leading : {A B : Type 0} (f : A → Option B) {b : B} (xs : List A) → First f (λ x. f x ≡ some b) xs → leading (map f xs) ≡ some b
unfolding leading
first-leading {A} {B} f {b} xs r = rw r.split (go r.earlier r.quiet)
  where
    go : (earlier : List A) → Quiet f earlier → leading (map f (earlier ++ r.here ∷ r.later)) ≡ some b
    go [] q = rw r.holds
    go (x ∷ xs) q = rw q.0 (go xs q.1)

pub leading-none : {A B : Type 0} (f : A → Option B) (xs : List A) → leading (map f xs) ≡ none → Quiet f xs
unfolding leading
leading-none f [] e = tt
leading-none {A} {B} f (x ∷ xs) e = go (f x) refl e (leading-none f xs)
  where
    go : (o : Option B) → f x ≡ o → or_else o (leading (map f xs)) ≡ none → (leading (map f xs) ≡ none → Quiet f xs) → Quiet f (x ∷ xs)
    go none q p rest = (q, rest p)
    go (some a) q p rest = let z : ◌≡◌ {A = ℕ} 0 1 = cc in absurd (omega arith)

pub none-leading : {A B : Type 0} (f : A → Option B) (xs : List A) → Quiet f xs → leading (map f xs) ≡ none
unfolding leading
none-leading f [] q = refl
none-leading f (x ∷ xs) q = rw q.0 (none-leading f xs q.1)

-- both ways, where it is known when there is this thing
pub leading_at : {A B : Type 0} (f : A → Option B) {b : B} (P : A → Type 0) → ((x : A) → (f x ≡ some b) ↔ P x) → (xs : List A)
    → (leading (map f xs) ≡ some b) ↔ First f P xs
leading_at f P iff xs = (
  (λ e. let r = leading-first f xs e in
      record { earlier = r.earlier; here = r.here; later = r.later; split = r.split; quiet = r.quiet; holds = (iff r.here).0 r.holds }),
  (λ r. first-leading f xs (record {
    earlier = r.earlier;
    here = r.here;
    later = r.later;
    split = r.split;
    quiet = r.quiet;
    holds = (iff r.here).1 r.holds;
  })),
)
