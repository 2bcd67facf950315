-- Where repetitions and readers after one another end. Assumes nothing.
use Prim.Native.Nat.{ℕ, zero, suc, ◌≤◌, ◌<◌}
use Rattle.std.specs.Prelude.{◌≡◌, length, if◌then◌else◌}
use Rattle.std.proofs.Math.Path.{refl}
use Rattle.std.proofs.Common.{sym, ap, subst, ◌∙◌, arith}
use mathlib.Core.List.{List, [], ◌∷◌, ◌++◌}
use Rattle.lent.specs.declared.refusal.Refusal.TheVariants.{LeftOver}
use Rattle.omf51.specs.declared.Edition.{Edition}
use Rattle.omf51.specs.declared.Edition.TheVariants.{One}
use Rattle.omf51.specs.Ends.{End}
use Rattle.std.specs.Prelude.{Option, Some, None, Ok, Err, true, false, is_some}
use Rattle.omf51.specs.Reader.{ReadOutcome, read, stop, refused, Reader, and_then, after, repeat, many, not_empty, at_least_one}
use Rattle.omf51.specs.Record.{leaves_over}
use Rattle.omf51.specs.Ends.{end_of}
use Rattle.library.specs.Gathered.{followed, items_at}
use Rattle.library.specs.RepeatLaws.{Moved, Moves, onto, many-turn, items-turn}

-- what follows an end in a repetition; and one reading after another
abbrev pub after_end : (ℕ → End) → ℕ → End → End
after_end rest at (Ok (Some next)) = rest next
after_end rest at (Ok None) = Ok (Some at)
after_end rest at (Err r) = Err r

abbrev pub then_end : (ℕ → End) → End → End
then_end rest (Ok (Some next)) = rest next
then_end rest (Ok None) = Ok None
then_end rest (Err r) = Err r

pub then-end : {A B : Type 0} (o : ReadOutcome A) (f : A → Reader B) (rest : ℕ → End) → ((a : A) (next : ℕ) → end_of (f a next) ≡ rest next)
    → end_of (and_then o f) ≡ then_end rest (end_of o)
then-end (read a next) f rest h = h a next
then-end stop f rest h = refl
then-end (refused r) f rest h = refl

-- `Moved`, said of an end; and an end that is no place
abbrev pub MovedEnd : List ℕ → ℕ → End → Type 0
MovedEnd library at (Ok (Some next)) = (at < next) × (next ≤ length library)
MovedEnd library at (Ok None) = Unit
MovedEnd library at (Err r) = Unit

abbrev pub Halts : End → Type 0
Halts (Ok (Some next)) = ⊥
Halts (Ok None) = Unit
Halts (Err r) = Unit

pub moved-end : {A : Type 0} (library : List ℕ) (at : ℕ) (o : ReadOutcome A) → Moved library at o → MovedEnd library at (end_of o)
moved-end library at (read a next) m = m
moved-end library at stop m = tt
moved-end library at (refused r) m = tt

module _ {A : Type 0} (library : List ℕ) (each : Reader (List A)) (moves : Moves library each) (at : ℕ) where
  -- THE TURN of any repetition's end
  pub end-turn : {e : End} → end_of (each at) ≡ e → end_of (many library each at) ≡ after_end (λ k. end_of (many library each k)) at e
  end-turn e =
      ap end_of (many-turn library each moves at) ∙ go (each at) ∙ ap (after_end (λ k. end_of (many library each k)) at) e
    where
      dropped : (xs : List A) (o : ReadOutcome (List A)) → end_of (onto xs o) ≡ end_of o
      dropped xs (read ys next) = refl
      dropped xs stop = refl
      dropped xs (refused r) = refl

      go : (o : ReadOutcome (List A))
          → end_of (after (λ xs next. onto xs (many library each next)) [] at o) ≡ after_end (λ k. end_of (many library each k)) at (end_of o)
      go (read more next) = dropped more (many library each next)
      go stop = refl
      go (refused r) = refl

  -- nothing is found where its reader doesn't pass
  pub items-none : {e : End} → end_of (each at) ≡ e → Halts e → items_at library each at ≡ []
  items-none e h = items-turn library each moves at refl ∙ go (each at) (subst Halts (sym e) h)
    where
      go : (o : ReadOutcome (List A)) → Halts (end_of o) → followed (items_at library each) o ≡ []
      go (read a next) h = absurd h
      go stop h = refl
      go (refused r) h = refl

-- a reader of entries gives one or more, or stops; of several the first decides whether there is one at all
abbrev pub Gave : {A : Type 0} → ReadOutcome (List A) → Type 0
Gave (read [] next) = ⊥
Gave (read (x ∷ xs) next) = Unit
Gave stop = Unit
Gave (refused r) = ⊥

-- a record of edition 1 ends at its own end, whatever its body's reader leaves of it
abbrev pub own_end : ℕ → End → End
own_end next (Ok (Some left)) = Ok (Some next)
own_end next (Ok None) = Ok None
own_end next (Err r) = Err r

pub own-none : (next : ℕ) (o : Option ℕ) → is_some o ≡ false → own_end next (Ok o) ≡ Ok None
own-none next (Some left) h = let z : ◌≡◌ {A = ℕ} 0 1 = cc in absurd (omega arith)
own-none next None h = refl

pub own-some : (next : ℕ) (o : Option ℕ) → is_some o ≡ true → own_end next (Ok o) ≡ Ok (Some next)
own-some next (Some left) h = refl
own-some next None h = let z : ◌≡◌ {A = ℕ} 0 1 = cc in absurd (omega arith)

-- a record ends at its own end `next` if its body, which goes up to `end`, is used up; in edition 1 it always is
abbrev pub used_end : Edition → ℕ → ℕ → End → End
used_end e end next (Ok (Some left)) = if leaves_over e left end then Err LeftOver else Ok (Some next)
used_end e end next (Ok None) = Ok None
used_end e end next (Err r) = Err r

pub used-own : (end next : ℕ) (e : End) → used_end One end next e ≡ own_end next e
used-own end next (Ok (Some left)) = refl
used-own end next (Ok None) = refl
used-own end next (Err r) = refl

module _ {A : Type 0} (library : List ℕ) (each : Reader (List A)) (gives : (at : ℕ) → Gave (each at)) where
  abbrev Filled : ReadOutcome (List A) → Type 0
  Filled (read [] next) = ⊥
  Filled (read (x ∷ xs) next) = Unit
  Filled stop = ⊥
  Filled (refused r) = ⊥

  filled : (n : ℕ) (x : A) (xs : List A) (at : ℕ) → Filled (repeat n each (x ∷ xs) at)
  unfolding repeat
  filled zero x xs at = tt
  filled (suc n) x xs at = go (filled n x) (each at) (gives at)
    where
      go : ((ys : List A) (k : ℕ) → Filled (repeat n each (x ∷ ys) k)) → (o : ReadOutcome (List A)) → Gave o → Filled (after (repeat n each) (x ∷ xs) at o)
      go rest (read more next) g = rest (xs ++ more) next
      go rest stop g = tt
      go rest (refused r) g = absurd g

  -- edition 1: the first entry decides
  pub least-end : (at end next : ℕ) → used_end One end next (end_of (at_least_one library each at)) ≡ used_end One end next (end_of (each at))
  unfolding repeat
  least-end at end next = go (each at) (gives at)
    where
      full : (o : ReadOutcome (List A)) → Filled o → used_end One end next (end_of (and_then o not_empty)) ≡ Ok (Some next)
      full (read [] k) f = absurd f
      full (read (x ∷ xs) k) f = refl
      full stop f = absurd f
      full (refused r) f = absurd f

      go : (o : ReadOutcome (List A)) → Gave o → used_end One end next (end_of (and_then (after (repeat (length library) each) [] at o) not_empty)) ≡ used_end One end next (end_of o)
      go (read [] k) g = absurd g
      go (read (x ∷ xs) k) g = full (repeat (length library) each (x ∷ xs) k) (filled (length library) x xs k)
      go stop g = refl
      go (refused r) g = absurd g

  -- edition 2: behind the first entry, all others
  pub entries-after : Moves library each → (at : ℕ) {e : End} → end_of (each at) ≡ e
      → end_of (at_least_one library each at) ≡ then_end (λ k. end_of (many library each k)) e
  entries-after moves at e =
      ap (λ o. end_of (and_then o not_empty)) (many-turn library each moves at) ∙ go (each at) (gives at)
      ∙ ap (then_end (λ k. end_of (many library each k))) e
    where
      kept : (x : A) (xs : List A) (o : ReadOutcome (List A)) → end_of (and_then (onto (x ∷ xs) o) not_empty) ≡ end_of o
      kept x xs (read ys next) = refl
      kept x xs stop = refl
      kept x xs (refused r) = refl

      go : (o : ReadOutcome (List A)) → Gave o
          → end_of (and_then (after (λ xs k. onto xs (many library each k)) [] at o) not_empty) ≡ then_end (λ k. end_of (many library each k)) (end_of o)
      go (read [] k) g = absurd g
      go (read (x ∷ xs) k) g = kept x xs (many library each k)
      go stop g = refl
      go (refused r) g = absurd g
