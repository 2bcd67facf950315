-- What reading says is what the definition says: the modules stand one after another from the place that it names, and refusals are the same. Assumes nothing.
use Rattle.std.specs.Prelude.{Result, Ok, Err}
use Rattle.std.specs.Prelude.{ℕ, ◌≡◌, Bool, true, false, List, eqb, if◌then◌else◌}
use Rattle.std.proofs.Math.Path.{refl, ap}
use Rattle.std.proofs.Common.{sym, subst, ◌∙◌, arith, ne_eqb}
use Rattle.std.proofs.Math.Option.{none, some}
use Rattle.std.proofs.lemmas.Bool.{eqb-false}
use Rattle.std.proofs.Math.ListN.{length}
use Rattle.lent.specs.declared.refusal.Refusal.{Refusal}
use Rattle.lent.specs.Parts.{byte_at}
use Rattle.omf51.specs.declared.Edition.{Edition}
use Rattle.omf51.specs.declared.Edition.TheVariants.{One, Two}
use Rattle.omf51.specs.Reader.{ReadOutcome, read, stop, refused, Reader, and_then}
use Rattle.omf51.specs.Record.{expected, expected_by, record_by}
use Rattle.omf51.proofs.RecordLaws.{not-expected}
use Rattle.omf51.specs.Module.{Module, module_at}
use Rattle.omf51.specs.File.{plain_by, library_by, file_read, file_by, modules_at, file, file_refusal, modules_in}
use Rattle.omf51.proofs.EditionLaws.{editions-agree}
use Rattle.omf51.specs.Expected.{one_type}
use Rattle.library.specs.declared.Reading.{Reading}
use Rattle.library.specs.Gathered.{items_at}
use Rattle.library.specs.RepeatLaws.{least-items}
use Rattle.library.specs.Reading.{place_after, first_at, reading_of, reading}

-- a reader whose later parts leave what the first read
then-kept : {A B : Type 0} (o : ReadOutcome A) (f : A → Reader B) {b : B} {end : ℕ} → and_then o f ≡ read b end → (P : Type 0)
    → ((a : A) (next : ℕ) → o ≡ read a next → f a next ≡ read b end → P) → P
then-kept (read a next) f e P h = h a next refl e
then-kept stop f e P h = let z : ◌≡◌ {A = ℕ} 0 1 = cc in absurd (omega arith)
then-kept (refused r) f e P h = let z : ◌≡◌ {A = ℕ} 0 1 = cc in absurd (omega arith)

first_found : (library : List ℕ) {modules : List Module} {end : ℕ} → file library ≡ read modules end → modules ≡ items_at library (module_at library) (first_at library)
unfolding file_by file_read library_by record_by expected_by
first_found library {modules} {end} = go (eqb (byte_at library 0) 0x2c) refl
  where
    go : (t : Bool) → eqb (byte_at library 0) 0x2c ≡ t → (if t then library_by One library 0 else modules_at library 0) ≡ read modules end
        → modules ≡ items_at library (module_at library) (first_at library)
    go true t e =
        then-kept (plain_by One library 0x2c 0) _ e _ λ f k p q.
        then-kept (modules_at library k) _ q _ λ ms a m r.
        then-kept (plain_by One library 0x28 a) _ r _ λ _ b _ s.
        then-kept (plain_by One library 0x26 b) _ s _ λ _ c _ u.
        then-kept (plain_by One library 0x2a c) _ u _ λ _ d _ v.
        then-kept (expected library (one_type 0x2c) 0) _ p _ λ g n x y.
        let same : ms ≡ modules = cc in
        let place : n ≡ k = cc in
        sym same ∙ least-items library (module_at library) k m ∙ ap (items_at library (module_at library)) (sym (ap place_after x ∙ place))
    go false t e =
        let other : eqb 0x2c (byte_at library 0) ≡ false = ne_eqb 0x2c (byte_at library 0) (λ q. eqb-false (byte_at library 0) 0x2c t (sym q)) in
        least-items library (module_at library) 0 e ∙ ap (items_at library (module_at library)) (sym (ap place_after (not-expected library (one_type 0x2c) 0 other)))

-- whatever the edition, the modules that were read are those of edition 1
found_first : (e : Edition) (library : List ℕ) {modules : List Module} {end : ℕ} → file_by e library ≡ read modules end → modules ≡ items_at library (module_at library) (first_at library)
found_first One library q = first_found library q
found_first Two library q = first_found library (editions-agree library q)

pub record Stand (e : Edition) (library : List ℕ) (first count : ℕ) : Type 0 where
  pub unrefused : file_refusal (file_by e library) ≡ none
  pub there : modules_in (file_by e library) ≡ items_at library (module_at library) first
  pub number : length (modules_in (file_by e library)) ≡ count

module _ (e : Edition) (library : List ℕ) where
  abbrev Says : Result Reading Refusal → Type 0
  Says (Ok r) = Stand e library r.first r.count
  Says (Err r) = file_refusal (file_by e library) ≡ some r

  says : Says (reading e library)
  unfolding reading
  says = go (file_by e library) refl
    where
      go : (o : ReadOutcome (List Module)) → file_by e library ≡ o → Says (reading_of (first_at library) o)
      go (read modules end) q = record { unrefused = ap file_refusal q; there = ap modules_in q ∙ found_first e library q; number = ap (λ o. length (modules_in o)) q }
      go stop q = ap file_refusal q
      go (refused r) q = ap file_refusal q

  pub modules-stand : {r : Reading} → reading e library ≡ Ok r → Stand e library r.first r.count
  modules-stand q = subst Says q says

  pub reading-refused : {r : Refusal} → reading e library ≡ Err r → file_refusal (file_by e library) ≡ some r
  reading-refused q = subst Says q says
