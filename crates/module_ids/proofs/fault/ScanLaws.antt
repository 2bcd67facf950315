-- The scan comes to the definition's first refusal. Assumes nothing.
use Rattle.std.specs.Prelude.{◌≡◌, refl, List, [], ◌∷◌, ◌++◌, map, Ok, Err, Result}
use Rattle.std.proofs.Common.{sym, ap, ◌∙◌}
use Rattle.std.proofs.Math.Option.{Option, none, some}
use Rattle.lent.specs.declared.refusal.Refusal.{Refusal}
use Rattle.lent.specs.Choice.{or_else, leading}
use Rattle.lent.specs.Lists.{one, joined}
use Rattle.omf51.specs.Module.{Section, Module}
use Rattle.segments.specs.Refuse.{content_refusal, Test, of_fixup, of_content, test_refusal, tests, collect_refusal}
use Rattle.module_ids.specs.fault.Faults.{verdict_of}
use Rattle.module_ids.proofs.fault.FaultLaws.{fixup-refusal, content-refusal}
use Rattle.module_ids.specs.fault.Scan.{one_fault, section_fault, sections_fault}

-- the first of two lists, one after the other
leading-append : {A : Type 0} (xs ys : List (Option A)) → leading (xs ++ ys) ≡ or_else (leading xs) (leading ys)
unfolding leading
leading-append [] ys = refl
leading-append (none ∷ xs) ys = leading-append xs ys
leading-append (some a ∷ xs) ys = refl

or-none : {A : Type 0} (o : Option A) → or_else o none ≡ o
or-none none = refl
or-none (some a) = refl

map-append : {A B : Type 0} (f : A → B) (xs ys : List A) → map f (xs ++ ys) ≡ map f xs ++ map f ys
map-append f [] ys = refl
map-append f (x ∷ xs) ys = ap (λ zs. f x ∷ zs) (map-append f xs ys)

map-map : {A B C : Type 0} (f : A → B) (g : B → C) (h : A → C) → ((a : A) → g (f a) ≡ h a) → (xs : List A) → map g (map f xs) ≡ map h xs
map-map f g h e [] = refl
map-map f g h e (x ∷ xs) = rw (e x, map-map f g h e xs)

-- one more in front: a refusal decides, or else the rest
pub refused-first : {A B : Type 0} (f : A → Option B) (x : A) (xs : List A) {b : B} → f x ≡ some b → leading (map f (x ∷ xs)) ≡ some b
unfolding leading
refused-first f x xs e = rw e

pub passed_first : {A B : Type 0} (f : A → Option B) (x : A) (xs : List A) → f x ≡ none → leading (map f (x ∷ xs)) ≡ leading (map f xs)
unfolding leading
passed_first f x xs e = rw e

pub none_first : {A B : Type 0} (f : A → Option B) → leading (map f []) ≡ none
unfolding leading
none_first f = refl

-- a content's tests, a module's, and all
abbrev section_tests : Module → Section → List Test
section_tests m s = map (of_fixup m) s.fixups ++ one (of_content m s.content)

section-tests : (m : Module) (s : Section) → leading (map test_refusal (section_tests m s)) ≡ section_fault m.definitions s
unfolding leading
section-tests m s =
    ap leading (map-append test_refusal (map (of_fixup m) s.fixups) (one (of_content m s.content)))
    ∙ leading-append (map test_refusal (map (of_fixup m) s.fixups)) (one (content_refusal m s.content))
    ∙ rw (map-map (of_fixup m) test_refusal (one_fault m.definitions) (fixup-refusal m) s.fixups, or-none (content_refusal m s.content), content-refusal m s.content)

sections-tests : (m : Module) (ss : List Section) → leading (map test_refusal (joined (section_tests m) ss)) ≡ sections_fault m.definitions ss
unfolding leading joined
sections-tests m [] = refl
sections-tests m (s ∷ ss) =
    ap leading (map-append test_refusal (section_tests m s) (joined (section_tests m) ss))
    ∙ leading-append (map test_refusal (section_tests m s)) (map test_refusal (joined (section_tests m) ss))
    ∙ rw (section-tests m s, sections-tests m ss)

pub module-fault : (m : Module) (ms : List Module) → collect_refusal (m ∷ ms) ≡ or_else (sections_fault m.definitions m.sections) (collect_refusal ms)
unfolding collect_refusal tests joined
module-fault m ms =
    ap leading (map-append test_refusal (joined (section_tests m) m.sections) (tests ms))
    ∙ leading-append (map test_refusal (joined (section_tests m) m.sections)) (map test_refusal (tests ms))
    ∙ ap (λ o. or_else o (collect_refusal ms)) (sections-tests m m.sections)

pub no-module : collect_refusal [] ≡ none
unfolding collect_refusal tests joined leading
no-module = refl

-- a verdict tells its refusal
abbrev refusal_in : Result Unit Refusal → Option Refusal
refusal_in (Ok u) = none
refusal_in (Err r) = some r

refusal-back : (o : Option Refusal) → refusal_in (verdict_of o) ≡ o
refusal-back none = refl
refusal-back (some r) = refl

pub told : {o : Option Refusal} {v : Result Unit Refusal} → verdict_of o ≡ v → o ≡ refusal_in v
told {o} e = sym (refusal-back o) ∙ ap refusal_in e
