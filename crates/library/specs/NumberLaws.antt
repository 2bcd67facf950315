-- What reading says, by its number and its count of modules, from the contract of `read` alone. Assumes nothing.
use Rattle.std.specs.Prelude.{Result}
use Rattle.std.specs.Prelude.{ℕ, ◌≡◌, refl, ◌↔◌, List, length}
use Rattle.std.proofs.Common.{sym, ◌∙◌}
use Rattle.std.proofs.Math.Path.{ap}
use Rattle.std.proofs.Math.Option.{Option}
use Rattle.lent.specs.declared.refusal.Refusal.{Refusal}
use Rattle.lent.specs.Refusals.{stage_number}
use Rattle.lent.specs.RefusalLaws.{stage-tells}
use Rattle.omf51.specs.declared.Edition.{Edition}
use Rattle.omf51.specs.Reader.{ReadOutcome, read, stop, refused}
use Rattle.omf51.specs.Module.{Module}
use Rattle.omf51.specs.File.{file_by, file_refusal, modules_in}
use Rattle.omf51.specs.Reaches.{Ends}
use Rattle.omf51.proofs.OnePath.{reading-exactly}
use Rattle.library.specs.declared.Reading.{Reading}
use Rattle.library.specs.Reading.{first_at, reading_of, reading, reading_number, reading_count}

number_of : (first : ℕ) (o : ReadOutcome (List Module)) → reading_number (reading_of first o) ≡ stage_number (file_refusal o)
number_of first (read modules next) = refl
number_of first stop = refl
number_of first (refused r) = refl

count_of : (first : ℕ) (o : ReadOutcome (List Module)) → reading_count (reading_of first o) ≡ length (modules_in o)
count_of first (read modules next) = refl
count_of first stop = refl
count_of first (refused r) = refl

module _ (e : Edition) (library : List ℕ) (r : Result Reading Refusal) (c : r ≡ reading e library) where
  numbered : reading_number r ≡ stage_number (file_refusal (file_by e library))
  unfolding reading
  numbered = ap reading_number c ∙ number_of (first_at library) (file_by e library)

  -- each of 5 to 8, 14 and 15, and 0, is said exactly if reading ends so
  pub read-exactly : (o : Option Refusal) → (reading_number r ≡ stage_number o) ↔ Ends e library o
  read-exactly o =
      let exactly = reading-exactly e library o in
      ((λ q. exactly.0 (stage-tells (file_refusal (file_by e library)) o (sym numbered ∙ q))), λ h. numbered ∙ ap stage_number (exactly.1 h))

  -- and the count is that of the modules read
  pub read-counts : reading_count r ≡ length (modules_in (file_by e library))
  unfolding reading
  read-counts = ap reading_count c ∙ count_of (first_at library) (file_by e library)
