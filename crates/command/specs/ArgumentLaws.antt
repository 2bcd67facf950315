-- The words of a command line, taken one after another, ask for what `settings_in` says of all of them. Assumes nothing.
use Rattle.std.specs.Prelude.{ℕ, ◌+◌, ◌-◌, ◌≡◌, refl, Result, Ok, Err}
use Rattle.std.proofs.Math.Path.{sym}
use Rattle.std.proofs.Common.{ap, ◌∙◌}
use mathlib.Core.List.{List, [], ◌∷◌, ◌++◌, append_assoc}
use Rattle.image.specs.declared.cover.Stretches.{Stretches}
use Rattle.image.specs.Cover.{no_stretches}
use Rattle.command.specs.Arguments.{begun, ended, settings_from, settings_in, FromWord, FromWords}
use Rattle.command.specs.declared.mistake.Mistake.{Mistake}
use Rattle.command.specs.declared.arguments.Given.{Given}
use Rattle.command.specs.declared.arguments.Reached.{Reached}
use Rattle.command.specs.declared.arguments.Request.{Request}

-- some words came to this, with word i next: whatever words follow, all of them ask for what those that follow ask for from here on
pub record Passed (g : Given) (w : Stretches) (i : ℕ) : Type 0 where
  pub words : List (List ℕ)
  pub same : (rest : List (List ℕ)) → settings_in (words ++ rest) ≡ settings_from g w i rest

pub passed_none : Passed begun no_stretches 1
passed_none = record { words = []; same = λ rest. refl }

module _ {g : Given} {w : Stretches} {i : ℕ} (p : Passed g w i) {r : Reached} (f : FromWord g w i r) where
  pub passed-one : {next : Given} → r.step ≡ Ok next → Passed next r.withheld (i + 1)
  unfolding settings_from
  passed-one e =
      record {
        words = p.words ++ (f.word ∷ []);
        same = λ rest. rw append_assoc (p.same (f.word ∷ rest) ∙ rw (ap (λ (r : Reached). r.withheld) f.same, sym (ap (λ (r : Reached). r.step) f.same) ∙ e));
      }

  pub passed-wrong : {m : Mistake} → r.step ≡ Err m → FromWords (record { requested = Err m; withheld = r.withheld })
  unfolding settings_from
  passed-wrong e =
      record {
        words = p.words ++ (f.word ∷ []);
        same = sym (p.same (f.word ∷ []) ∙ rw (ap (λ (r : Reached). r.withheld) f.same, sym (ap (λ (r : Reached). r.step) f.same) ∙ e));
      }

pub passed-all : {g : Given} {w : Stretches} {i : ℕ} {r : Result Request Mistake} → Passed g w i → r ≡ ended g (i - 1) → FromWords (record { requested = r; withheld = w })
unfolding settings_from
passed-all p e = record { words = p.words ++ []; same = rw e (sym (p.same [])) }
