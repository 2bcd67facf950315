-- A file of bare modules: when there is no first module. What a damaged later module does: library/specs/LaterLaws.antt. Assumes nothing.
use Rattle.std.specs.Prelude.{ℕ, zero, suc, ◌≡◌, refl, ◌↔◌, false, List, [], ◌∷◌, ◌++◌, eqb, length}
use Rattle.std.proofs.Common.{arith}
use Rattle.lent.specs.ChoiceLaws.{chosen}
use Rattle.lent.specs.Parts.{byte_at, same_name}
use Rattle.omf51.specs.Reader.{ReadOutcome, read, stop, refused, Reader, and_then, after, repeat, many, not_empty}
use Rattle.omf51.specs.Record.{record_of}
use Rattle.omf51.specs.Entry.{name_with}
use Rattle.omf51.specs.Module.{Module, definitions_at, sections_at, module_by, module_at}
use Rattle.omf51.specs.File.{file_read, file_by, file}

-- what is read is not empty
abbrev Some : {A : Type 0} → ReadOutcome (List A) → Type 0
Some (read [] next) = ⊥
Some (read (x ∷ xs) next) = Unit
Some stop = Unit
Some (refused r) = Unit

-- and there is something, or a refusal
abbrev Full : {A : Type 0} → ReadOutcome (List A) → Type 0
Full (read [] next) = ⊥
Full (read (x ∷ xs) next) = Unit
Full stop = ⊥
Full (refused r) = Unit

then_some : {A B : Type 0} (o : ReadOutcome A) (f : A → Reader (List B)) → ((a : A) (next : ℕ) → Some (f a next)) → Some (and_then o f)
then_some (read a next) f h = h a next
then_some stop f h = tt
then_some (refused r) f h = tt

module-some : (library : List ℕ) (at : ℕ) → Some (module_at library at)
unfolding module_by
module-some library at =
    then_some (record_of library (eqb 0x02) (name_with 2 library) at) _ λ name a.
    then_some (many library (definitions_at library) a) _ λ definitions b.
    then_some (many library (sections_at library) b) _ λ sections c.
    then_some (record_of library (eqb 0x04) (name_with 4 library) c) _ λ last d.
    chosen (λ (r : Reader (List Module)). Some (r d)) (same_name library name last) (λ e. tt) (λ e. tt)

repeat-full : {A : Type 0} (n : ℕ) (each : Reader (List A)) (x : A) (xs : List A) (at : ℕ) → Full (repeat n each (x ∷ xs) at)
unfolding repeat
repeat-full zero each x xs at = tt
repeat-full {A} (suc n) each x xs at = go (each at) (repeat-full n each x)
  where
    go : (o : ReadOutcome (List A)) → ((ys : List A) (k : ℕ) → Full (repeat n each (x ∷ ys) k)) → Full (after (repeat n each) (x ∷ xs) at o)
    go (read more next) rest = rest (xs ++ more) next
    go stop rest = tt
    go (refused r) rest = tt

-- 5 for bare modules: exactly if no first module can be read
pub no-first : (library : List ℕ) → eqb (byte_at library 0) 0x2c ≡ false → (file library ≡ stop) ↔ (module_at library 0 ≡ stop)
unfolding file_by file_read repeat
no-first library e = ((λ q. there (module_at library 0) (module-some library 0) (rw e at q)), λ q. rw (e, q))
  where
    not-stop : (o : ReadOutcome (List Module)) → Full o → and_then o not_empty ≡ stop → ⊥
    not-stop (read [] next) f q = f
    not-stop (read (x ∷ xs) next) f q = let z : ◌≡◌ {A = ℕ} 0 1 = cc in omega arith
    not-stop stop f q = f
    not-stop (refused r) f q = let z : ◌≡◌ {A = ℕ} 0 1 = cc in omega arith

    there : (o : ReadOutcome (List Module)) → Some o → and_then (after (repeat (length library) (module_at library)) [] 0 o) not_empty ≡ stop → o ≡ stop
    there (read [] next) s q = absurd s
    there (read (x ∷ xs) next) s q = absurd (not-stop (repeat (length library) (module_at library) (x ∷ xs) next) (repeat-full (length library) (module_at library) x xs next) q)
    there stop s q = refl
    there (refused r) s q = let z : ◌≡◌ {A = ℕ} 0 1 = cc in absurd (omega arith)
