-- A whole module by its places: its definitions and its contents are what stands there, and modules in a row are counted by their turns. Assumes nothing.
use Rattle.std.specs.Prelude.{Option, Some, None, Result, Ok, Err}
use Rattle.std.specs.Prelude.{ℕ, ◌+◌, ◌≤◌, ◌<◌, ◌≡◌, refl, Bool, true, false, List, [], ◌∷◌, length, if◌then◌else◌}
use Rattle.std.proofs.Common.{sym, ap, subst, ◌∙◌, add-zero, zero-add, arith}
use Rattle.lent.specs.declared.refusal.Refusal.{Refusal}
use Rattle.lent.specs.declared.refusal.Refusal.TheVariants.{NamesDiffer, NoModule}
use Rattle.lent.specs.Lists.{one}
use Rattle.lent.specs.Parts.{same_name}
use Rattle.omf51.specs.declared.Edition.{Edition}
use Rattle.omf51.specs.declared.Definition.{Definition}
use Rattle.omf51.specs.Reader.{ReadOutcome, read, stop, refused, Reader, and_then, give, refuse, after, many}
use Rattle.omf51.specs.Module.{Section, Module, definitions_by, sections_by, module_by}
use Rattle.library.specs.declared.Places.{Places}
use Rattle.library.specs.declared.Counted.{Counted}
use Rattle.library.specs.Gathered.{items_at, followed}
use Rattle.library.specs.RepeatLaws.{Moved, Stayed, Moves, moved-stays, then-stays, then-moves, many-stays, onto, many-turn, items-turn, many-items}
use Rattle.library.specs.Passes.{head_by, last_by, last_places, rest_places, places_by, places_read}
use Rattle.library.specs.PassLaws.{record-moves, definitions-move}
use Rattle.library.specs.SectionLaws.{sections-move}
use Rattle.library.specs.Reading.{count_of}

-- the module whose parts stand at these places
abbrev pub module_of : Edition → List ℕ → Places → Module
module_of e library p = record {
  definitions = items_at library (definitions_by e library) p.definitions;
  sections = items_at library (sections_by e library) p.contents;
}

abbrev pub whole_module : Edition → List ℕ → Places → Reader (List Module)
whole_module e library p = give (one (module_of e library p))

-- one reader after another: what follows may be told by what was read, and the order of putting together doesn't matter
then_same : {A B : Type 0} (o : ReadOutcome A) (f g : A → Reader B) → ((a : A) (next : ℕ) → o ≡ read a next → f a next ≡ g a next) → and_then o f ≡ and_then o g
then_same (read a next) f g h = h a next refl
then_same stop f g h = refl
then_same (refused r) f g h = refl

then-then : {A B C : Type 0} (o : ReadOutcome A) (f : A → Reader B) (g : B → Reader C) → and_then (and_then o f) g ≡ and_then o (λ a next. and_then (f a next) g)
then-then (read a next) f g = refl
then-then stop f g = refl
then-then (refused r) f g = refl

pub module-places : (e : Edition) (library : List ℕ) (at : ℕ) → module_by e library at ≡ and_then (places_by e library at) (whole_module e library)
unfolding module_by places_by rest_places last_places
module-places e library at =
    then_same (head_by e library at) _ _
    (λ name a _.
    then_same (many library (definitions_by e library) a) _ _
    (λ ds b d.
    then_same (many library (sections_by e library) b) _ _
    (λ ss k s.
    then_same (last_by e library k) _ _
    (λ l next _. closed a b next (many-items library (definitions_by e library) a d) (many-items library (sections_by e library) b s) (same_name library name l))
    ∙ sym (then-then (last_by e library k) _ (whole_module e library)))
    ∙ sym (then-then (many library (sections_by e library) b) _ (whole_module e library)))
    ∙ sym (then-then (many library (definitions_by e library) a) _ (whole_module e library)))
    ∙ sym (then-then (head_by e library at) _ (whole_module e library))
  where
    closed : (a b next : ℕ) {ds : List Definition} {ss : List Section} → ds ≡ items_at library (definitions_by e library) a → ss ≡ items_at library (sections_by e library) b
        → (t : Bool)
        → (if t then give (one (record { definitions = ds; sections = ss })) else refuse NamesDiffer) next
        ≡ and_then (if t then read (record { definitions = a; contents = b; next = next }) next else refused NamesDiffer) (whole_module e library)
    closed a b next p q true = rw (p, q)
    closed a b next p q false = refl

-- modules move, so they come in turns
pub modules-move : (e : Edition) (library : List ℕ) → Moves library (module_by e library)
unfolding module_by
modules-move e library at =
    then-moves library at _
    (λ name a h. then-stays library a _
    (λ ds b i. then-stays library b _
    (λ ss k j. then-stays library k _ (λ l next m. closed (record { definitions = ds; sections = ss }) next m (same_name library name l)) (last_by e library k) (moved-stays library k (last_by e library k) (record-moves e library _ _ k)))
    (many library (sections_by e library) b) (many-stays library _ (sections-move e library) b i))
    (many library (definitions_by e library) a) (many-stays library _ (definitions-move e library) a h))
    (head_by e library at) (record-moves e library _ _ at)
  where
    closed : (m : Module) (next : ℕ) → next ≤ length library → (t : Bool) → Stayed library next ((if t then give (one m) else refuse NamesDiffer) next)
    closed m next h true = (omega arith, h)
    closed m next h false = tt

-- modules counted on from n
abbrev pub count_from : ℕ → ReadOutcome (List Module) → Result Counted Refusal
count_from n (read modules next) = Ok (record { count = n + length modules; next = next })
count_from n stop = Err NoModule
count_from n (refused r) = Err r

pub count-all : (o : ReadOutcome (List Module)) → count_from 0 o ≡ count_of o
count-all (read modules next) = ap (λ n. Ok (record { count = n; next = next })) (zero-add (length modules))
count-all stop = refl
count-all (refused r) = refl

-- no whole module
abbrev pub Ended : Result (Option Places) Refusal → Type 0
Ended (Ok (Some p)) = ⊥
Ended (Ok None) = Unit
Ended (Err r) = Unit

module _ (e : Edition) (library : List ℕ) (at : ℕ) where
  module-known : {o : ReadOutcome Places} → places_by e library at ≡ o → module_by e library at ≡ and_then o (whole_module e library)
  module-known q = module-places e library at ∙ ap (λ o. and_then o (whole_module e library)) q

  -- THE STEP FROM MODULE TO MODULE: the module at a place, and then those after it
  pub modules-step : {p : Places} {next : ℕ} → places_by e library at ≡ read p next
      → items_at library (module_by e library) at ≡ module_of e library p ∷ items_at library (module_by e library) next
  modules-step q = items-turn library (module_by e library) (modules-move e library) at (module-known q)

  -- where no whole module stands, there are no more
  pub modules-end : (r : Result (Option Places) Refusal) → places_by e library at ≡ places_read r → Ended r → items_at library (module_by e library) at ≡ []
  modules-end r q h = items-turn library (module_by e library) (modules-move e library) at (module-known q) ∙ go r h
    where
      go : (r : Result (Option Places) Refusal) → Ended r → followed (items_at library (module_by e library)) (and_then (places_read r) (whole_module e library)) ≡ []
      go (Ok (Some p)) h = absurd h
      go (Ok None) h = refl
      go (Err r) h = refl

  pub module-moved : {p : Places} {next : ℕ} → places_by e library at ≡ read p next → (at < next) × (next ≤ length library)
  module-moved q = subst (Moved library at) (module-known q) (modules-move e library at)

  turn : {o : ReadOutcome Places} → places_by e library at ≡ o
      → many library (module_by e library) at ≡ after (λ xs k. onto xs (many library (module_by e library) k)) [] at (and_then o (whole_module e library))
  turn q =
      many-turn library (module_by e library) (modules-move e library) at
      ∙ ap (after (λ xs k. onto xs (many library (module_by e library) k)) [] at) (module-known q)

  pub count_turn : (n : ℕ) {p : Places} {next : ℕ} → places_by e library at ≡ read p next
      → count_from n (many library (module_by e library) at) ≡ count_from (n + 1) (many library (module_by e library) next)
  count_turn n {p} {next} q = ap (count_from n) (turn q) ∙ go (many library (module_by e library) next)
    where
      go : (o : ReadOutcome (List Module)) → count_from n (onto (one (module_of e library p)) o) ≡ count_from (n + 1) o
      go (read ms k) = ap (λ m. Ok (record { count = m; next = k })) (omega arith)
      go stop = refl
      go (refused r) = refl

  pub count-ends : (n : ℕ) → places_by e library at ≡ stop → count_from n (many library (module_by e library) at) ≡ Ok (record { count = n; next = at })
  count-ends n q = ap (count_from n) (turn q) ∙ ap (λ m. Ok (record { count = m; next = at })) (add-zero n)

  pub count-refuses : (n : ℕ) {r : Refusal} → places_by e library at ≡ refused r → count_from n (many library (module_by e library) at) ≡ Err r
  count-refuses n q = ap (count_from n) (turn q)
