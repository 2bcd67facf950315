-- Laws of repetitions, stated once for all of them: a turn, with no count and no list of what was found before. Assumes nothing.
use Prim.Native.Nat.{ℕ, zero, suc, ◌-◌, ◌≤◌, ◌<◌}
use Rattle.std.specs.Prelude.{◌≡◌}
use Rattle.std.proofs.Math.Path.{refl, ap}
use Rattle.std.proofs.Common.{sym, subst, ◌∙◌}
use mathlib.Core.List.{List, [], ◌∷◌, ◌++◌, append-nil, append_assoc}
use native.Mathlib.Omega.{arith}
use Rattle.std.proofs.Math.ListN.{length}
use Rattle.omf51.specs.Reader.{ReadOutcome, read, stop, refused, Reader, and_then, after, repeat, many, not_empty, at_least_one}
use Rattle.library.specs.Gathered.{followed, gather, items_at}

-- a reader moves if what it reads takes at least a byte and ends within the library; it stays if it may take none
abbrev pub Moved : {A : Type 0} → List ℕ → ℕ → ReadOutcome A → Type 0
Moved library at (read a next) = (at < next) × (next ≤ length library)
Moved library at stop = Unit
Moved library at (refused r) = Unit

abbrev pub Stayed : {A : Type 0} → List ℕ → ℕ → ReadOutcome A → Type 0
Stayed library at (read a next) = (at ≤ next) × (next ≤ length library)
Stayed library at stop = Unit
Stayed library at (refused r) = Unit

abbrev pub Moves : {A : Type 0} → List ℕ → Reader A → Type 0
Moves library each = (at : ℕ) → Moved library at (each at)

pub moved-stays : {A : Type 0} (library : List ℕ) (at : ℕ) (o : ReadOutcome A) → Moved library at o → Stayed library at o
moved-stays library at (read a next) m = (omega arith, m.1)
moved-stays library at stop m = tt
moved-stays library at (refused r) m = tt

-- one reader after another
module _ {A B : Type 0} (library : List ℕ) (at : ℕ) (f : A → Reader B) (rest : (a : A) (next : ℕ) → next ≤ length library → Stayed library next (f a next)) where
  pub then-stays : (o : ReadOutcome A) → Stayed library at o → Stayed library at (and_then o f)
  then-stays (read a next) s = later (f a next) (rest a next s.1)
    where
      later : (w : ReadOutcome B) → Stayed library next w → Stayed library at w
      later (read b k) t = (omega arith, t.1)
      later stop t = tt
      later (refused r) t = tt
  then-stays stop s = tt
  then-stays (refused r) s = tt

  pub then-moves : (o : ReadOutcome A) → Moved library at o → Moved library at (and_then o f)
  then-moves (read a next) m = later (f a next) (rest a next m.1)
    where
      later : (w : ReadOutcome B) → Stayed library next w → Moved library at w
      later (read b k) t = (omega arith, t.1)
      later stop t = tt
      later (refused r) t = tt
  then-moves stop m = tt
  then-moves (refused r) m = tt

-- what was found before stands before what is read
abbrev pub onto : {A : Type 0} → List A → ReadOutcome (List A) → ReadOutcome (List A)
onto before (read xs next) = read (before ++ xs) next
onto before stop = stop
onto before (refused r) = refused r

onto-onto : {A : Type 0} (a b : List A) (o : ReadOutcome (List A)) → onto (a ++ b) o ≡ onto a (onto b o)
onto-onto a b (read xs next) = rw append_assoc
onto-onto a b stop = refl
onto-onto a b (refused r) = refl

repeat-onto : {A : Type 0} (n : ℕ) (each : Reader (List A)) (before : List A) (at : ℕ) → repeat n each before at ≡ onto before (repeat n each [] at)
unfolding repeat
repeat-onto zero each before at = rw append-nil
repeat-onto {A} (suc n) each before at = go (repeat-onto n each) (each at)
  where
    go : ((xs : List A) (k : ℕ) → repeat n each xs k ≡ onto xs (repeat n each [] k)) → (o : ReadOutcome (List A))
        → after (repeat n each) before at o ≡ onto before (after (repeat n each) [] at o)
    go rest (read more next) =
        rest (before ++ more) next ∙ onto-onto before more (repeat n each [] next) ∙ sym (ap (onto before) (rest more next))
    go rest stop = rw append-nil
    go rest (refused r) = refl

-- of a reader that moves
module _ {A : Type 0} (library : List ℕ) (each : Reader (List A)) (moves : Moves library each) where
  -- any count above what is left of the library gives the same
  enough : (n m : ℕ) (before : List A) (at : ℕ) → length library - at < n → length library - at < m → repeat n each before at ≡ repeat m each before at
  unfolding repeat
  enough zero m before at h k = absurd (omega arith)
  enough (suc n) zero before at h k = absurd (omega arith)
  enough (suc n) (suc m) before at h k = go (enough n m) (each at) (moves at)
    where
      go : ((xs : List A) (i : ℕ) → length library - i < n → length library - i < m → repeat n each xs i ≡ repeat m each xs i)
          → (o : ReadOutcome (List A)) → Moved library at o → after (repeat n each) before at o ≡ after (repeat m each) before at o
      go rest (read more next) p = rest (before ++ more) next (omega arith) (omega arith)
      go rest stop p = refl
      go rest (refused r) p = refl

  -- THE TURN: what stands at a place, and then the same repetition from the next place on
  pub many-turn : (at : ℕ) → many library each at ≡ after (λ xs next. onto xs (many library each next)) [] at (each at)
  unfolding repeat
  many-turn at = go (each at) (moves at)
    where
      go : (o : ReadOutcome (List A)) → Moved library at o
          → after (repeat (length library) each) [] at o ≡ after (λ xs next. onto xs (many library each next)) [] at o
      go (read more next) p =
          enough (length library) (suc (length library)) more next (omega arith) (omega arith)
          ∙ repeat-onto (suc (length library)) each more next
      go stop p = refl
      go (refused r) p = refl

  repeat-stays : (n : ℕ) (before : List A) (at : ℕ) → at ≤ length library → Stayed library at (repeat n each before at)
  unfolding repeat
  repeat-stays zero before at h = (omega arith, h)
  repeat-stays (suc n) before at h = go (repeat-stays n) (each at) (moves at)
    where
      later : (next : ℕ) → at < next → (o : ReadOutcome (List A)) → Stayed library next o → Stayed library at o
      later next l (read xs k) s = (omega arith, s.1)
      later next l stop s = tt
      later next l (refused r) s = tt

      go : ((xs : List A) (i : ℕ) → i ≤ length library → Stayed library i (repeat n each xs i)) → (o : ReadOutcome (List A)) → Moved library at o
          → Stayed library at (after (repeat n each) before at o)
      go rest (read more next) p = later next p.0 (repeat n each (before ++ more) next) (rest (before ++ more) next p.1)
      go rest stop p = (omega arith, h)
      go rest (refused r) p = tt

  pub many-stays : (at : ℕ) → at ≤ length library → Stayed library at (many library each at)
  many-stays = repeat-stays (suc (length library)) []

  gather-enough : (n m : ℕ) (at : ℕ) → length library - at < n → length library - at < m → gather n each at ≡ gather m each at
  unfolding gather
  gather-enough zero m at h k = absurd (omega arith)
  gather-enough (suc n) zero at h k = absurd (omega arith)
  gather-enough (suc n) (suc m) at h k = go (gather-enough n m) (each at) (moves at)
    where
      go : ((i : ℕ) → length library - i < n → length library - i < m → gather n each i ≡ gather m each i)
          → (o : ReadOutcome (List A)) → Moved library at o → followed (gather n each) o ≡ followed (gather m each) o
      go rest (read more next) p = ap (λ xs. more ++ xs) (rest next (omega arith) (omega arith))
      go rest stop p = refl
      go rest (refused r) p = refl

  -- the same turn of what it finds
  pub items-turn : (at : ℕ) {o : ReadOutcome (List A)} → each at ≡ o → items_at library each at ≡ followed (items_at library each) o
  unfolding gather
  items-turn at {o} e = ap (followed (gather (length library) each)) e ∙ go o (subst (Moved library at) e (moves at))
    where
      go : (o : ReadOutcome (List A)) → Moved library at o → followed (gather (length library) each) o ≡ followed (items_at library each) o
      go (read more next) p = ap (λ xs. more ++ xs) (gather-enough (length library) (suc (length library)) next (omega arith) (omega arith))
      go stop p = refl
      go (refused r) p = refl

-- of a repetition that reads, what it finds is the list that it reads
repeat-gather : {A : Type 0} (n : ℕ) (each : Reader (List A)) (before : List A) (at : ℕ) {xs : List A} {end : ℕ}
    → repeat n each before at ≡ read xs end → xs ≡ before ++ gather n each at
unfolding repeat gather
repeat-gather zero each before at e = rw append-nil (cc)
repeat-gather {A} (suc n) each before at {xs} {end} e = go (λ ys i p. repeat-gather n each ys i p) (each at) e
  where
    go : ((ys : List A) (i : ℕ) → repeat n each ys i ≡ read xs end → xs ≡ ys ++ gather n each i)
        → (o : ReadOutcome (List A)) → after (repeat n each) before at o ≡ read xs end → xs ≡ before ++ followed (gather n each) o
    go rest (read more next) p = rest (before ++ more) next p ∙ append_assoc before more (gather n each next)
    go rest stop p = rw append-nil (cc)
    go rest (refused r) p = let z : ◌≡◌ {A = ℕ} 0 1 = cc in absurd (omega arith)

module _ {A : Type 0} (library : List ℕ) (each : Reader (List A)) (at : ℕ) {xs : List A} {end : ℕ} where
  pub many-items : many library each at ≡ read xs end → xs ≡ items_at library each at
  many-items e = repeat-gather (suc (length library)) each [] at e

  pub least-items : at_least_one library each at ≡ read xs end → xs ≡ items_at library each at
  least-items e = go (many library each at) refl e
    where
      go : (o : ReadOutcome (List A)) → many library each at ≡ o → and_then o not_empty ≡ read xs end → xs ≡ items_at library each at
      go (read [] k) q p = let z : ◌≡◌ {A = ℕ} 0 1 = cc in absurd (omega arith)
      go (read (y ∷ ys) k) q p = let z : xs ≡ y ∷ ys = cc in z ∙ repeat-gather (suc (length library)) each [] at q
      go stop q p = let z : ◌≡◌ {A = ℕ} 0 1 = cc in absurd (omega arith)
      go (refused r) q p = let z : ◌≡◌ {A = ℕ} 0 1 = cc in absurd (omega arith)
